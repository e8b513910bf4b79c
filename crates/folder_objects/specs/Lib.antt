pub mod Causes
pub mod Reasons
