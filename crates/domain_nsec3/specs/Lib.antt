pub mod Chain
pub mod Meaning
pub mod View
pub mod Steps
pub use Rattle.domain_zone.specs.Covering
pub use Rattle.domain_zone.specs.Zone
pub use Rattle.domain_zone.specs.Enclosers
