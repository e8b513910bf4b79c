pub mod ContentLaws
pub mod TableLaws
pub mod ArrayLaws
pub mod KeepingLaws
pub mod OwnLaws
pub mod DestroyedLaws
pub mod CountingLaws
