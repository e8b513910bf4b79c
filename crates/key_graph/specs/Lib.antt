pub mod Opening
pub mod Chains
pub mod OwnKeys
pub mod Maps
pub mod Trace
pub mod Said
pub mod Search
