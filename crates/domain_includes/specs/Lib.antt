pub mod Paths
pub mod GeneratedLines
pub mod Files
pub mod FileFaults
pub mod Steps
