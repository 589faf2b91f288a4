pub mod BitLemmas
pub mod BitmapLemmas
pub mod BlockLemmas
pub mod TextLemmas
pub mod ListLemmas
