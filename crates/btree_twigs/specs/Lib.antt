pub mod Stubs
pub mod Shape
pub mod Updates
pub mod Search
pub mod Removal
pub mod Top
pub mod Levels
pub mod Wiped
