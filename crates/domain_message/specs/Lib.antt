pub mod Name
pub mod Steps
pub mod ErrorText
pub mod Data
pub mod Record
pub mod Entry
pub mod Written
