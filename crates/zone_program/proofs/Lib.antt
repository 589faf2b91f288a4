pub mod LineLemmas
pub mod PlaceLemmas
pub mod SinkLemmas
