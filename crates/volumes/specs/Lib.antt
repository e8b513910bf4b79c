pub mod Halts
pub mod Starting
pub mod Destroyed
pub mod Running
pub mod Program
