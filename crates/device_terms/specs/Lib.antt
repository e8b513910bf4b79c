pub mod Served
pub mod Certifying
pub mod Effects
