pub mod HashedVerdictLemmas
pub mod IndexLemmas
pub mod MeantLemmas
