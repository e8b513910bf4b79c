pub mod Volumes
pub mod Turn
pub mod Own
pub mod Destroyed
pub mod Counting
