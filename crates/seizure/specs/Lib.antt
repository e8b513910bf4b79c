pub mod Opened
pub mod Report
pub mod Index
pub mod Work
pub mod Looks
pub mod Reads
