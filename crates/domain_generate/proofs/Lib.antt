pub mod CutLemmas
pub mod PatternLemmas
pub mod NumberLemmas
pub mod RangeLemmas
pub mod GenerateLemmas
pub mod TextLemmas
