pub mod Pending
pub mod Uncopied
pub mod Stops
pub mod Puts
pub mod Runs
