pub mod StatusLaws
pub mod EndedLaws
pub mod StartLaws
pub mod EndLaws
pub mod ProgramLaws
pub mod ReachLaws
