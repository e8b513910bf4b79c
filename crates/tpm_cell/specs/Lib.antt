pub mod Asking
pub mod Opening
pub mod Texts
