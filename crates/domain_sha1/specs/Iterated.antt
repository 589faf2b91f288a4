-- The hash of a name by SHA-1 (RFC 5155, section 5).
use Rattle.std.specs.Prelude.{ℕ, zero, suc, ◌++◌, ◌==◌, if◌then◌else◌, Result, Ok, Err}
use Rattle.sha1.specs.Sha1.{sha1}
use Rattle.domain_octets.specs.Octets.{Octets}

-- the digest of the octets followed by the salt, digested again with the salt the given number of
-- times
unfoldable pub iterated : Octets → Octets → ℕ → Octets
iterated salt octets zero = sha1 (octets ++ salt)
iterated salt octets (suc k) = sha1 (iterated salt octets k ++ salt)

-- for the octets of a name, an algorithm, a number of iterations and a salt: the hash by SHA-1,
-- which is algorithm 1, or the error 1 for any other algorithm
abbrev pub sha1_answer : Octets → ℕ → ℕ → Octets → Result Octets ℕ
sha1_answer name algorithm iterations salt =
    if algorithm == 1 then Ok (iterated salt name iterations) else Err 1
