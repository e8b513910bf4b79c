pub mod Keystream
pub mod Sealing
