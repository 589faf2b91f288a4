-- The hashes of several names.
use Rattle.std.specs.Prelude.{ℕ, List, [], ◌∷◌, Result, Ok, Err}
use Rattle.domain_octets.specs.Octets.{Octets}

-- a hash and the hashes of the other names, or the error of these
abbrev pub put_first : Octets → Result (List Octets) ℕ → Result (List Octets) ℕ
put_first hash (Ok hashes) = Ok (hash ∷ hashes)
put_first hash (Err n) = Err n

-- the hashes of several names, or the first error, given the result of the hasher for each name
abbrev pub all_hashes : List (Result Octets ℕ) → Result (List Octets) ℕ
all_hashes [] = Ok []
all_hashes (Err n ∷ answers) = Err n
all_hashes (Ok hash ∷ answers) = put_first hash (all_hashes answers)
