-- What contracts see of NSEC3 records, for callers.
pub use Rattle.domain_nsec3.specs.View.{as_param_record, config_of, hashed_links_of}
