pub mod Below
pub mod Accounts
pub mod Holding
pub mod Certs
pub mod Followed
