pub mod KeystreamLemmas
pub mod XorLemmas
pub mod SealingLaws
