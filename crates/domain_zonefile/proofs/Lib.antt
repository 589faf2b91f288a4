pub mod LexemeLemmas
pub mod EntryLemmas
pub mod TokenLemmas
pub mod PlaceLemmas
pub mod FieldLemmas
pub mod LawLemmas
pub mod LineLemmas
pub mod FileLemmas
