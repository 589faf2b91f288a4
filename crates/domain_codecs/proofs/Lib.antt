pub mod CodecLemmas
pub mod Base32Lemmas
pub mod RefusalLemmas
pub mod CodecBackLemmas
pub mod Base64Lemmas
pub mod JoinedLemmas
pub mod Base16Lemmas
