-- What a lane of a vector holds, after operators on four lanes.
use Rattle.std.proofs.Common.{◌≡◌, ℕ, zero, suc, ◌-◌, ◌*◌, ◌/◌, ◌%◌, ◌^◌, ◌<◌, List, [], ◌∷◌, length, map, slice_index, slice_index_or}
use Rattle.std.proofs.Common.{bit_and, bit_or, bit_xor, arith, refl, ◌∙◌}
use Rattle.std.proofs.lemmas.Simd.{get_or-zip2, length-zip2}
use Rattle.std.proofs.lemmas.List.{get_or-map, length-map}
use Rattle.std.specs.Int.{w32, rotate_left, bit_not}
use Rattle.std.specs.Simd.Lanes.{zip2}
use Rattle.std.proofs.Math.ListN.{get_or-map as get_or-map_default}
use Rattle.sha1.specs.Sha1.{add32, ch, parity, maj}
use Rattle.domain_sha1.specs.Lanes.{lane}

-- an operator on two vectors of four lanes
pub zip2_at : (f : ℕ → ℕ → ℕ) (xs ys : List ℕ) (j : ℕ) → length xs ≡ 4 → length ys ≡ 4 → j < 4
    → slice_index (zip2 f xs ys) j ≡ f (slice_index xs j) (slice_index ys j)
zip2_at f xs ys j lx ly h = get_or-zip2 f xs ys j 0 0 0 (omega arith) (omega arith)

pub zip2_four : (f : ℕ → ℕ → ℕ) (xs ys : List ℕ) → length xs ≡ 4 → length ys ≡ 4 → length (zip2 f xs ys) ≡ 4
zip2_four f xs ys lx ly = length-zip2 f xs ys (omega arith) ∙ lx

pub parity_at : (x y z : List ℕ) (j : ℕ) → length x ≡ 4 → length y ≡ 4 → length z ≡ 4 → j < 4
    → slice_index (zip2 bit_xor (zip2 bit_xor x y) z) j ≡ parity (slice_index x j) (slice_index y j) (slice_index z j)
parity_at x y z j lx ly lz h =
    rw (zip2_at bit_xor (zip2 bit_xor x y) z j (zip2_four bit_xor x y lx ly) lz h, zip2_at bit_xor x y j lx ly h) refl

pub mix_at : (a b c d : List ℕ) (j : ℕ) → length a ≡ 4 → length b ≡ 4 → length c ≡ 4 → length d ≡ 4 → j < 4
    → slice_index (zip2 bit_xor (zip2 bit_xor (zip2 bit_xor a b) c) d) j
    ≡ bit_xor (bit_xor (bit_xor (slice_index a j) (slice_index b j)) (slice_index c j)) (slice_index d j)
mix_at a b c d j la lb lc ld h =
    let lab = zip2_four bit_xor a b la lb in
    rw (zip2_at bit_xor (zip2 bit_xor (zip2 bit_xor a b) c) d j (zip2_four bit_xor (zip2 bit_xor a b) c lab lc) ld h, parity_at a b c j la lb lc h) refl

pub maj_at : (x y z : List ℕ) (j : ℕ) → length x ≡ 4 → length y ≡ 4 → length z ≡ 4 → j < 4
    → slice_index (zip2 bit_xor (zip2 bit_xor (zip2 bit_and x y) (zip2 bit_and x z)) (zip2 bit_and y z)) j
    ≡ maj (slice_index x j) (slice_index y j) (slice_index z j)
maj_at x y z j lx ly lz h =
    let xy = zip2_four bit_and x y lx ly in
    let xz = zip2_four bit_and x z lx lz in
    let yz = zip2_four bit_and y z ly lz in
    let sum = parity_at (zip2 bit_and x y) (zip2 bit_and x z) (zip2 bit_and y z) j xy xz yz h in
    rw (sum, zip2_at bit_and x y j lx ly h, zip2_at bit_and x z j lx lz h, zip2_at bit_and y z j ly lz h) refl

pub ch_at : (x y z : List ℕ) (j : ℕ) → length x ≡ 4 → length y ≡ 4 → length z ≡ 4 → j < 4
    → slice_index (zip2 bit_xor (zip2 bit_and x y) (zip2 bit_and (map (bit_not w32) x) z)) j
    ≡ ch (slice_index x j) (slice_index y j) (slice_index z j)
ch_at x y z j lx ly lz h =
    let n = length-map x (bit_not w32) ∙ lx in
    let nz = zip2_four bit_and (map (bit_not w32) x) z n lz in
    let not_at : slice_index (map (bit_not w32) x) j ≡ bit_not w32 (slice_index x j) = get_or-map (bit_not w32) x j 0 0 (omega arith) in
    rw (
      zip2_at bit_xor (zip2 bit_and x y) (zip2 bit_and (map (bit_not w32) x) z) j (zip2_four bit_and x y lx ly) nz h,
      zip2_at bit_and x y j lx ly h,
      zip2_at bit_and (map (bit_not w32) x) z j n lz h,
      not_at,
    ) refl

abbrev shl : ℕ → ℕ → ℕ
shl x n = x * 2 ^ n % 2 ^ 32

abbrev shr : ℕ → ℕ → ℕ
shr x n = x / 2 ^ n

abbrev four : ℕ → List ℕ
four n = n ∷ n ∷ n ∷ n ∷ []

-- the lanes of a splat
four_at : (n j : ℕ) → j < 4 → slice_index (four n) j ≡ n
four_at n zero h = refl
four_at n (suc zero) h = refl
four_at n (suc (suc zero)) h = refl
four_at n (suc (suc (suc zero))) h = refl
four_at n (suc (suc (suc (suc j)))) h = absurd (omega arith)

pub rotate_at : (a : List ℕ) (k j : ℕ) → 0 < k → k < 32 → length a ≡ 4 → j < 4
    → slice_index (zip2 bit_or (zip2 shl a (four k)) (zip2 shr a (four (32 - k)))) j ≡ rotate_left w32 (slice_index a j) k
rotate_at a k j low high la h =
    let left : k % 32 ≡ k = omega arith in
    let right : (32 - k) % 32 ≡ 32 - k = omega arith in
    rw (
      zip2_at bit_or (zip2 shl a (four k)) (zip2 shr a (four (32 - k))) j (zip2_four shl a (four k) la refl) (zip2_four shr a (four (32 - k)) la refl) h,
      zip2_at shl a (four k) j la refl h,
      zip2_at shr a (four (32 - k)) j la refl h,
      four_at k j h,
      four_at (32 - k) j h,
      left,
      right,
    ) refl

-- word k of a message is its lane of vector k
pub lane_at : (j : ℕ) (vectors : List (List ℕ)) (k : ℕ) → slice_index (lane j vectors) k ≡ slice_index (slice_index_or vectors k []) j
lane_at j vectors k = get_or-map_default (λ (words : List ℕ). slice_index words j) vectors k []

-- a function of words 1 to 3, where it was computed in the lanes of these vectors
pub mixed_at : (g : ℕ → ℕ → ℕ → ℕ) (j : ℕ) (v : List (List ℕ)) (f : ℕ)
    → f ≡ g (slice_index (slice_index_or v 1 []) j) (slice_index (slice_index_or v 2 []) j) (slice_index (slice_index_or v 3 []) j)
    → f ≡ g (slice_index (lane j v) 1) (slice_index (lane j v) 2) (slice_index (lane j v) 3)
mixed_at g j v f e = rw (lane_at j v 1, lane_at j v 2, lane_at j v 3) e

-- word k of the sum of two states, where it was computed in the lanes
pub sum_at : (j : ℕ) (s v : List (List ℕ)) (k r : ℕ)
    → r ≡ add32 (slice_index (slice_index_or s k []) j) (slice_index (slice_index_or v k []) j)
    → r ≡ add32 (slice_index (lane j s) k) (slice_index (lane j v) k)
sum_at j s v k r e = rw (lane_at j s k, lane_at j v k) e

-- what holds of each lane
pub in_each_lane : (P : ℕ → Type 0) → P 0 → P 1 → P 2 → P 3 → (j : ℕ) → j < 4 → P j
in_each_lane P first second third fourth zero in_four = first
in_each_lane P first second third fourth (suc zero) in_four = second
in_each_lane P first second third fourth (suc (suc zero)) in_four = third
in_each_lane P first second third fourth (suc (suc (suc zero))) in_four = fourth
in_each_lane P first second third fourth (suc (suc (suc (suc j)))) in_four = absurd (omega arith)
