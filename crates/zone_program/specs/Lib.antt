pub mod Lines
pub mod Places
pub mod Run
pub mod Sink
pub mod Status
