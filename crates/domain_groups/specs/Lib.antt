pub mod Groups
pub mod InOrder
pub mod Sorting
pub mod ErrorText
