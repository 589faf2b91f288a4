-- How the schedule and the rounds follow from what each step makes, for one message.
use Rattle.std.proofs.Common.{◌≡◌, ℕ, ◌+◌, ◌-◌, ◌*◌, ◌<◌, ◌≤◌, List, [], ◌∷◌, ◌++◌, length, take, slice_index, slice_set, arith, refl, sym, ap, ◌∙◌, add-one}
use Rattle.std.proofs.lemmas.List.{take_more_set, take-map, map-append, get_or-take}
use Rattle.std.proofs.lemmas.Bool.{lt-ltb, le-ltb}
use Rattle.sha1.specs.Sha1.{first_words, word_at, next_word, schedule, round, rounds, round_fn, round_constant, ch, parity, maj, add32, add_state}
use Rattle.domain_sha1.specs.Lanes.{lane}

-- the function of a round in its quarter, by name, is the round's, and so is the constant
abbrev pub IsRoundFn : (ℕ → ℕ → ℕ → ℕ) → ℕ → ℕ → List ℕ → Type 0
IsRoundFn g k t v =
    (g (slice_index v 1) (slice_index v 2) (slice_index v 3)
    ≡ round_fn t (slice_index v 1) (slice_index v 2) (slice_index v 3)) × (k ≡ round_constant t)

pub first_quarter : (t : ℕ) (v : List ℕ) → t < 20 → IsRoundFn ch 0x5A827999 t v
first_quarter t v high = (rw (lt-ltb t 20 high) refl, rw (lt-ltb t 20 high) refl)

pub second_quarter : (t : ℕ) (v : List ℕ) → 20 ≤ t → t < 40 → IsRoundFn parity 0x6ED9EBA1 t v
second_quarter t v low high =
    let past = le-ltb t 20 low in
    let in_time = lt-ltb t 40 high in
    (rw (past, in_time) refl, rw (past, in_time) refl)

pub third_quarter : (t : ℕ) (v : List ℕ) → 40 ≤ t → t < 60 → IsRoundFn maj 0x8F1BBCDC t v
third_quarter t v low high =
    let past_first = le-ltb t 20 (omega arith) in
    let past = le-ltb t 40 low in
    let in_time = lt-ltb t 60 high in
    (rw (past_first, past, in_time) refl, rw (past_first, past, in_time) refl)

pub last_quarter : (t : ℕ) (v : List ℕ) → 60 ≤ t → IsRoundFn parity 0xCA62C1D6 t v
last_quarter t v low =
    let past_first = le-ltb t 20 (omega arith) in
    let past_second = le-ltb t 40 (omega arith) in
    let past = le-ltb t 60 low in
    (rw (past_first, past_second, past) refl, rw (past_first, past_second, past) refl)

-- a round more
pub round_more : (h w v : List ℕ) (t k x : ℕ) (g : ℕ → ℕ → ℕ → ℕ) (f : ℕ) → v ≡ rounds h w t → IsRoundFn g k t v
    → f ≡ g (slice_index v 1) (slice_index v 2) (slice_index v 3) → x ≡ slice_index w t → round v f k x ≡ rounds h w (t + 1)
unfolding rounds
round_more h w v t k x g f so_far fn made word = rw (made ∙ fn.0, fn.1, word, so_far, add-one) refl

-- a word more of a message, where vectors are set one after another
front_more : (j n : ℕ) (w : List (List ℕ)) (x : List ℕ) → n < length w
    → take (n + 1) (lane j (slice_set w n x)) ≡ take n (lane j w) ++ slice_index x j ∷ []
front_more j n w x room =
    let at : List ℕ → ℕ = λ words. slice_index words j in
    rw (take-map at (n + 1) (slice_set w n x), take_more_set w n x room, map-append at (take n w) (x ∷ []), take-map at n w) refl

-- a word more of a block
pub words_more : (j n : ℕ) (b : List ℕ) (w : List (List ℕ)) (x : List ℕ) → n < length w
    → take n (lane j w) ≡ first_words b n → slice_index x j ≡ word_at b (4 * n)
    → take (n + 1) (lane j (slice_set w n x)) ≡ first_words b (n + 1)
unfolding first_words
words_more j n b w x room so_far word =
    let more : first_words b n ++ word_at b (4 * n) ∷ [] ≡ first_words b (n + 1) = ap (first_words b) (sym (add-one n)) in
    rw (front_more j n w x room, so_far, word) more

-- a word of the schedule depends on the words before it alone
next_of_front : (w : List ℕ) (t : ℕ) → 16 ≤ t → next_word (take t w) t ≡ next_word w t
next_of_front w t low =
    rw (
      get_or-take t w (t - 3) 0 (omega arith),
      get_or-take t w (t - 8) 0 (omega arith),
      get_or-take t w (t - 14) 0 (omega arith),
      get_or-take t w (t - 16) 0 (omega arith),
    ) refl

-- a word more, for one message
pub word_more : (n : ℕ) (b w : List ℕ) (x : ℕ) → n < length w → take n w ≡ first_words b n → x ≡ word_at b (4 * n)
    → take (n + 1) (slice_set w n x) ≡ first_words b (n + 1)
unfolding first_words
word_more n b w x room so_far word = rw (take_more_set w n x room, so_far, word) (ap (first_words b) (sym (add-one n)))

pub scheduled_more : (n : ℕ) (b w : List ℕ) (x : ℕ) → n + 16 < length w → take (n + 16) w ≡ schedule b n → x ≡ next_word w (n + 16)
    → take (n + 1 + 16) (slice_set w (n + 16) x) ≡ schedule b (n + 1)
unfolding schedule
scheduled_more n b w x room so_far word =
    let after : n + 1 + 16 ≡ n + 16 + 1 = omega arith in
    let made : next_word w (n + 16) ≡ next_word (schedule b n) (n + 16) =
    sym (next_of_front w (n + 16) (omega arith)) ∙ ap (λ words. next_word words (n + 16)) so_far in
    rw (after, take_more_set w (n + 16) x room, so_far, word ∙ made, add-one) refl

-- a word more of the schedule
pub schedule_more : (j n : ℕ) (b : List ℕ) (w : List (List ℕ)) (x : List ℕ) → n + 16 < length w
    → take (n + 16) (lane j w) ≡ schedule b n → slice_index x j ≡ next_word (lane j w) (n + 16)
    → take (n + 1 + 16) (lane j (slice_set w (n + 16) x)) ≡ schedule b (n + 1)
unfolding schedule
schedule_more j n b w x room so_far word =
    let after : n + 1 + 16 ≡ n + 16 + 1 = omega arith in
    let made : next_word (lane j w) (n + 16) ≡ next_word (schedule b n) (n + 16) =
    sym (next_of_front (lane j w) (n + 16) (omega arith)) ∙ ap (λ words. next_word words (n + 16)) so_far in
    rw (after, front_more j (n + 16) w x room, so_far, word ∙ made, add-one) refl

-- the rounds' result added to the state, word by word
pub added : (s v : List ℕ) (r0 r1 r2 r3 r4 : ℕ) → r0 ≡ add32 (slice_index s 0) (slice_index v 0) → r1 ≡ add32 (slice_index s 1) (slice_index v 1)
    → r2 ≡ add32 (slice_index s 2) (slice_index v 2) → r3 ≡ add32 (slice_index s 3) (slice_index v 3)
    → r4 ≡ add32 (slice_index s 4) (slice_index v 4) → r0 ∷ r1 ∷ r2 ∷ r3 ∷ r4 ∷ [] ≡ add_state s v
added s v r0 r1 r2 r3 r4 e0 e1 e2 e3 e4 = rw (e0, e1, e2, e3, e4) refl

-- the same number of rounds, spelled another way
pub rounds_at : (h w v : List ℕ) (n k : ℕ) → n ≡ k → v ≡ rounds h w n → v ≡ rounds h w k
rounds_at h w v n k same made = rw same at made
