pub mod Turns
pub mod Causes
pub mod Done
pub mod Reads
pub mod Drawing
pub mod Syncs
