pub mod StopLaws
pub mod LineLaws
pub mod BlameLaws
pub mod ReadingLaws
pub mod TakeLaws
