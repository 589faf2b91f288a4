-- What SHA-1 answers for several names.
use Rattle.std.proofs.Common.{◌≡◌, ℕ, ◌<◌, ◌==◌, false, List, [], ◌∷◌, length, map, refl, arith}
use Rattle.std.specs.Prelude.{Err}
use Rattle.domain_octets.specs.Octets.{Octets}
use Rattle.domain_hasher.specs.Hashes.{all_hashes}
use Rattle.domain_sha1.specs.Iterated.{sha1_answer}

-- any other algorithm is refused for the first of them
pub first_refused : {X : Type 0} (octets : X → Octets) (algorithm iterations : ℕ) (salt : Octets) (names : List X)
    → 0 < length names → (algorithm == 1) ≡ false
    → all_hashes (map (λ name. sha1_answer (octets name) algorithm iterations salt) names) ≡ Err 1
first_refused octets algorithm iterations salt [] some other = absurd (omega arith)
first_refused octets algorithm iterations salt (name ∷ names) some other = rw other refl
