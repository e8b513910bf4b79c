pub mod Answers
pub mod Found
pub mod Honest
pub mod Note
pub mod Places
