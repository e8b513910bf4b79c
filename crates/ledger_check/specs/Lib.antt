pub mod Refused
pub mod Judging
pub mod Reading
