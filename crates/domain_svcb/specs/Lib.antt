pub mod Strings
pub mod Keys
pub mod Values
pub mod Parameters
pub mod Gathered
