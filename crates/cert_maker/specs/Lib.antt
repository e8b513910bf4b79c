pub mod Cert
pub mod Trace
pub mod CertOf
pub mod Added
pub mod Ordered
pub mod Differ
