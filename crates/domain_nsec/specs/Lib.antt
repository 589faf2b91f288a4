pub mod Chain
pub mod Meaning
pub use Rattle.domain_zone.specs.Covering
pub use Rattle.domain_zone.specs.Zone
pub use Rattle.domain_zone.specs.Enclosers
