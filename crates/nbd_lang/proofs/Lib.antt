pub mod FieldLaws
pub mod ReadingLaws
