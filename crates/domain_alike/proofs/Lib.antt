pub mod GatherLemmas
pub mod AlikeLemmas
