mod Arrays
mod Writes
mod RoundTrip
mod InRange
mod Lacks
mod Torn
pub mod LedgerLaws
