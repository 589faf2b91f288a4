pub mod LineLemmas
pub mod RunLemmas
pub mod CheckLemmas
pub mod SpelledLemmas
