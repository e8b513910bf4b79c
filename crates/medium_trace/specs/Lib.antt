pub mod Page
pub mod Trace
