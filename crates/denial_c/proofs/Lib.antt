pub mod AmongLemmas
pub mod UnevenLemmas
