pub mod Commands
pub mod Grammar
pub mod Replies
pub mod Arrays
pub mod Answers
pub mod Codes
pub mod Lines
