pub mod Zone
pub mod Scan
