pub mod ArrayLaws
pub mod RangeLaws
