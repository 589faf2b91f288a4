pub mod Fault
pub mod Listing
pub mod Text
pub mod Answer
pub mod Command
pub mod Check
pub mod Run
pub mod Spelled
