pub mod Command
pub mod Judged
pub mod Text
pub mod Told
pub mod Run
