pub mod OrderLemmas
pub mod LookupLemmas
