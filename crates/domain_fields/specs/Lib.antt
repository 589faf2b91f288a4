pub mod Layout
pub mod Scan
