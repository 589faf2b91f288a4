pub mod Command
pub mod Help
pub mod Run
pub mod Source
pub mod Zone
pub mod Text
