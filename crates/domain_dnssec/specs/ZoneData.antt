-- The type of data, and the MINIMUM of an SOA, for callers.
pub use Rattle.domain_rdata.specs.Zone.{minimum_of, rtype_of}
