pub mod Draws
pub mod Lines
pub mod Scripts
pub mod Steps
pub mod Summaries
