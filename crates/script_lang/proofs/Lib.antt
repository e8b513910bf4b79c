pub mod Numbers
pub mod Outcomes
pub mod Spaces
pub mod LongLines
pub mod Fronts
pub mod Blocks
pub mod Trims
pub mod ReplyLaws
mod RoomLaws
pub mod CommandLaws
pub mod AnswerLaws
