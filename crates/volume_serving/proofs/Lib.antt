pub mod TabledLaws
pub mod DrawingLaws
pub mod SyncingLaws
pub mod HandledLaws
pub mod ServingLaws
