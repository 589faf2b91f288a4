pub mod ReportLemmas
pub mod NoteLemmas
pub mod FirstLemmas
pub mod SetLemmas
pub mod FaultLemmas
pub mod HashedLemmas
pub mod MarkLemmas
pub mod ToldLemmas
