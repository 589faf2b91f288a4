pub mod HashedPicked
pub mod Needed
pub mod Picked
