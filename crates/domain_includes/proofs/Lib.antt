pub mod FilesLemmas
pub mod ValuesLemmas
