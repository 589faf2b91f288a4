-- What signing errors say, and the signing error for a hash error.
use Rattle.std.specs.Prelude.{codes}
use Rattle.domain_octets.specs.Octets.{Octets}
use Rattle.domain_groups.specs.declared.error.SigningError.{SigningError}
use Rattle.domain_hasher.specs.{ErrorText.hash_error_text, declared.error.Nsec3HashError.{Nsec3HashError, TheVariants.OutOfMemory}}
use Rattle.domain_groups.specs.declared.error.SigningError.TheVariants as signing_error

-- the text of a signing error
abbrev pub signing_error_text : SigningError → Octets
signing_error_text signing_error.EmptyRecordSlice = codes "signing fault"
signing_error_text signing_error.MultipleTtlValues = codes "RRset with more than one TTL"
signing_error_text signing_error.SoaRecordCouldNotBeDetermined = codes "no single SOA at the apex"
signing_error_text (signing_error.Nsec3HashingError e) = hash_error_text e
signing_error_text signing_error.OutOfMemory = codes "out of memory"

-- the signing error for a hash error; out of memory remains `OutOfMemory`
abbrev pub signing_error_of : Nsec3HashError → SigningError
signing_error_of OutOfMemory = signing_error.OutOfMemory
signing_error_of e = signing_error.Nsec3HashingError e
