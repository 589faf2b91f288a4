pub mod ChainLemmas
pub mod EncloserLemmas
pub mod AlikeLemmas
pub mod HashedAnswerLemmas
pub mod JudgeLemmas
pub mod OptOutLemmas
