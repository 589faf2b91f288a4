-- Messages side by side: each word of the state is a vector, with a lane for each message.
use Rattle.std.specs.Prelude.{ℕ, List, map, slice_index}

-- the words of message j
abbrev pub lane : ℕ → List (List ℕ) → List ℕ
lane j vectors = map (λ words. slice_index words j) vectors
