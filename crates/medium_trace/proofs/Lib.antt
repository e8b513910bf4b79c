pub mod Shown
pub mod Torn
