-- The texts of errors of hashing.
use Rattle.std.specs.{Prelude.{◌++◌, codes}, Fmt.decimal}
use Rattle.domain_octets.specs.Octets.{Octets}
use Rattle.domain_hasher.specs.declared.{hasher.HasherError.HasherError, error.Nsec3HashError.Nsec3HashError}
use Rattle.domain_hasher.specs.declared.hasher.HasherError.TheVariants as hasher_error
use Rattle.domain_hasher.specs.declared.error.Nsec3HashError.TheVariants as hash_error

-- the text of an error of a hasher
abbrev pub hasher_error_text : HasherError → Octets
hasher_error_text (hasher_error.Refused n) = codes "hasher refused: " ++ decimal n
hasher_error_text hasher_error.OutOfMemory = codes "out of memory"

-- the text of an error of making a chain of hashed names
abbrev pub hash_error_text : Nsec3HashError → Octets
hash_error_text (hash_error.Hasher n) = codes "hasher refused: " ++ decimal n
hash_error_text hash_error.AppendError = codes "signing fault"
hash_error_text hash_error.OwnerHashError = codes "hash of unusable length"
hash_error_text hash_error.Nsec3NameTooLong = codes "hashed owner name too long"
hash_error_text hash_error.CollisionDetected = codes "hash collision"
hash_error_text hash_error.OutOfMemory = codes "out of memory"
