pub mod NameLaws
pub mod EntryLaws
pub mod TableLaws
pub mod GapLaws
