pub mod Buckets
pub mod Cached
pub mod Lends
pub mod Slots
