mod BucketLaws
pub mod SlotLaws
pub mod CacheLaws
