pub mod Result
pub mod Numbers
pub mod Chains
