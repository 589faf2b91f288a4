pub mod WireLemmas
pub mod OrderLemmas
pub mod TextLemmas
pub mod PartLemmas
