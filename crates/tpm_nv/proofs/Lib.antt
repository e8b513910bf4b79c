pub mod FieldLaws
pub mod MessageLaws
pub mod CauseLaws
pub mod AreaLaws
pub mod CellLaws
