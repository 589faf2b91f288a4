pub mod HashedDenyLemmas
pub mod PickLemmas
pub mod HashedPickLemmas
