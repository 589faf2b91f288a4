pub mod Codec
pub mod Base32
