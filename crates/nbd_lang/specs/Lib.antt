pub mod Greeting
pub mod Options
pub mod Answers
pub mod Requests
pub mod Replies
pub mod Refusals
