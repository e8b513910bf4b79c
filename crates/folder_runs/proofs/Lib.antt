pub mod ChainsOver
pub mod Opened
pub mod ToldLaws
pub mod Together
