pub mod WritingLaws
pub mod ArrayOfLaws
