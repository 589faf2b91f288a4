pub mod Ranges
pub mod Patterns
pub mod Generated
