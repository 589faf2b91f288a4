pub mod ErrorText
pub mod Hashes
