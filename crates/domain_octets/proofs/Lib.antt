pub mod StdLemmas
pub mod WordLemmas
