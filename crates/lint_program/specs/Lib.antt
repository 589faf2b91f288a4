pub mod Report
pub mod Notes
pub mod Faults
pub mod Alike
pub mod Hashed
pub mod Command
