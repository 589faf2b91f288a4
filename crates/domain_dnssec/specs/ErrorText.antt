-- The texts of the error of this crate.
use Rattle.std.specs.Prelude.{codes}
use Rattle.domain_octets.specs.Octets.{Octets}
use Rattle.domain_records.specs.Text.{signing_error_text}
use Rattle.domain_dnssec.specs.declared.error.Error.{Error}
use Rattle.domain_dnssec.specs.declared.error.Error.TheVariants as variant

abbrev pub error_text : Error → Octets
error_text variant.EndOfEntry = codes "unexpected end of entry"
error_text variant.Text = codes "illegal text"
error_text variant.ShortInput = codes "unexpected end of input"
error_text variant.Form = codes "malformed octets"
error_text variant.LongRecordData = codes "record data too long"
error_text variant.LongSalt = codes "illegal NSEC3 salt"
error_text variant.LongHash = codes "illegal owner name hash"
error_text variant.MixedClasses = codes "more than one class"
error_text (variant.Signing e) = signing_error_text e
error_text variant.Present = codes "record already present"
error_text variant.Write = codes "cannot write"
error_text variant.ShortBuf = codes "buffer size exceeded"
error_text variant.OutOfMemory = codes "out of memory"
