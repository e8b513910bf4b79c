pub mod SeedKeyLemmas
