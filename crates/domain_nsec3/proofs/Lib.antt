pub mod OwnerLemmas
mod FourLemmas
pub mod ChainLemmas
