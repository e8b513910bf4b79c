pub mod Certifying
pub mod Copying
pub mod Preparing
pub mod Publishing
pub mod Rewriting
pub mod Surveying
pub mod Upgrading
pub mod UpgradeCalls
