pub mod GroupLemmas
pub mod InOrderLemmas
pub mod SorterLemmas
