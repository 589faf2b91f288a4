pub mod AmongLemmas
pub mod AnyOrderLemmas
pub mod KeptLemmas
pub mod MappedLemmas
pub mod RawLemmas
