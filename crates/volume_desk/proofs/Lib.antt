pub mod TurnLaws
pub mod DeskLaws
pub mod CauseLaws
pub mod ReadLaws
pub mod DoneLaws
pub mod DrawingLaws
pub mod SyncLaws
