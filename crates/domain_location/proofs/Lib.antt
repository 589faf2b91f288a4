pub mod DecimalLemmas
pub mod LengthLemmas
