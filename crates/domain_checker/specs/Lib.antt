pub mod Verdict
pub mod Reading
pub mod HashedVerdict
pub mod HashedReading
pub mod HashedIndex
