pub mod NameLaws
pub mod LineLaws
