pub mod Chains
pub mod Restarts
