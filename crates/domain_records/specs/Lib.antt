pub mod Sorted
pub mod Text
pub mod Order
pub mod Places
pub use Rattle.domain_groups.specs.Groups
