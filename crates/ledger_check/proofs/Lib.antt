pub mod ReadingLaws
pub mod TakingLaws
pub mod JudgeLaws
