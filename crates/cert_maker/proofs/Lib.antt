pub mod TreeTraces
pub mod OrderLaws
pub mod CertLaws
pub mod SaidLaws
