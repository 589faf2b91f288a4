pub mod LayoutLemmas
pub mod ExactLemmas
pub mod ScanLemmas
pub mod GrammarLemmas
