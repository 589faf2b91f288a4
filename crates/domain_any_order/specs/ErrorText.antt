-- What the error of this crate says.
use Rattle.std.specs.Prelude.{codes}
use Rattle.domain_octets.specs.Octets.{Octets}
use Rattle.domain_records.specs.Text.{signing_error_text}
use Rattle.domain_any_order.specs.declared.error.ChainError.{ChainError}
use Rattle.domain_any_order.specs.declared.error.ChainError.TheVariants as chain_error

abbrev pub chain_error_text : ChainError → Octets
chain_error_text chain_error.MixedClasses = codes "more than one class"
chain_error_text (chain_error.Sort e) = codes "out of memory"
chain_error_text (chain_error.Signing e) = signing_error_text e
chain_error_text chain_error.OutOfMemory = codes "out of memory"
