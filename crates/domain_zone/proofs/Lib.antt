pub mod PairLemmas
pub mod NameLemmas
pub mod WalkLemmas
pub mod GivenLemmas
