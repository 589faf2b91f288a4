pub mod Decimals
pub mod Lengths
