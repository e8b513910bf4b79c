pub mod World
pub mod Damage
pub mod Tabled
pub mod Drawing
pub mod Syncing
pub mod Handled
pub mod Ran
