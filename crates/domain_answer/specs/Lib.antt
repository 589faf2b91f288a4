pub mod ZoneAnswer
pub mod Reading
pub mod HashedReading
pub mod Judged
pub mod Needs
