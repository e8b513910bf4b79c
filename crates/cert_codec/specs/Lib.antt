pub mod Text
pub mod ReadBack
pub mod Ledger
