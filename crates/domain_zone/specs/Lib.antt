pub mod Covering
pub mod Zone
pub mod Enclosers
