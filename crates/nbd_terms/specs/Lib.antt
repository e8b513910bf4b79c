pub mod Bytes
pub mod Turn
