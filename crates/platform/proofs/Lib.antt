pub mod Cuts
pub mod LogSteps
pub mod Moments
pub mod RunLaws
pub mod CallLaws
