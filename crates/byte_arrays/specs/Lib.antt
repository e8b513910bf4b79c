pub mod Arrays
pub mod Ranges
pub mod Parts
