pub mod Fields
pub mod Messages
pub mod Replies
pub mod Attributes
pub mod Areas
pub mod Cells
