pub mod NameLemmas
pub mod RecordLemmas
pub mod OneLineLemmas
