pub mod SeedKeys
pub mod Parts
