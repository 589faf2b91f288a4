-- How an iterated digest follows from the state of the digest before.
use Rattle.std.proofs.Common.{◌≡◌, ℕ, ◌+◌, ◌-◌, ◌*◌, ◌%◌, ◌^◌, ◌<◌, ◌≤◌, List, [], ◌∷◌, ◌++◌, length, take, drop, map, replicate, slice_index}
use Rattle.std.proofs.Common.{arith, refl, sym, ap, ◌∙◌, add-one, length-append}
use Rattle.std.proofs.lemmas.List.{append_assoc, map-append, take-map, drop-map, drop-take, length-map}
use Rattle.std.specs.Int.{w64, to_be_bytes}
use Rattle.std.proofs.Math.Seq.{take-append-add, drop-append_seam}
use Rattle.std.proofs.lemmas.Nat.{from_be_bytes-to_be_bytes_4}
use Rattle.sha1.specs.Sha1.{compress, first_words, initial_hash, word_at, padded_message, digest_bytes, sha1}
use Rattle.domain_sha1.specs.Lanes.{lane}
use Rattle.domain_sha1.specs.Iterated.{iterated}
use Rattle.domain_sha1.proofs.MessageLemmas.{one_block}

-- five words, as a state has
abbrev pub AreFive : List ℕ → Type 0
AreFive h =
    (h ≡ slice_index h 0 ∷ slice_index h 1 ∷ slice_index h 2 ∷ slice_index h 3 ∷ slice_index h 4 ∷ [])
    × (slice_index h 0 < 2 ^ 32) × (slice_index h 1 < 2 ^ 32) × (slice_index h 2 < 2 ^ 32)
    × (slice_index h 3 < 2 ^ 32) × (slice_index h 4 < 2 ^ 32)

pub compress_five : (h b : List ℕ) → AreFive (compress h b)
unfolding compress
compress_five h b = (refl, omega arith, omega arith, omega arith, omega arith, omega arith)

-- the words behind the digest, in a block of a digest and a salt
abbrev pub tail_words : List ℕ → List ℕ
tail_words salt = drop 5 (first_words (padded_message (replicate 20 0 ++ salt)) 16)

-- the words of that block
pub digest_block : (h salt : List ℕ) → AreFive h → first_words (padded_message (digest_bytes h 5 ++ salt)) 16 ≡ h ++ tail_words salt
unfolding first_words digest_bytes
digest_block h salt five =
    let b : List ℕ = padded_message (digest_bytes h 5 ++ salt) in
    let w0 : word_at b 0 ≡ slice_index h 0 = from_be_bytes-to_be_bytes_4 (slice_index h 0) five.1 in
    let w1 : word_at b 4 ≡ slice_index h 1 = from_be_bytes-to_be_bytes_4 (slice_index h 1) five.2 in
    let w2 : word_at b 8 ≡ slice_index h 2 = from_be_bytes-to_be_bytes_4 (slice_index h 2) five.3 in
    let w3 : word_at b 12 ≡ slice_index h 3 = from_be_bytes-to_be_bytes_4 (slice_index h 3) five.4 in
    let w4 : word_at b 16 ≡ slice_index h 4 = from_be_bytes-to_be_bytes_4 (slice_index h 4) five.5 in
    let front : word_at b 0 ∷ word_at b 4 ∷ word_at b 8 ∷ word_at b 12 ∷ word_at b 16 ∷ tail_words salt ≡ h ++ tail_words salt =
    rw (w0, w1, w2, w3, w4) (ap (λ words. words ++ tail_words salt) (sym five.0)) in
    front

-- a state after a block is five words
pub five_after : (r h b : List ℕ) → r ≡ compress h b → AreFive r
five_after r h b made = rw made (compress_five h b)

-- the state after the one block of a message has its digest
pub digest_after : (m r h : List ℕ) → length m ≤ 55 → r ≡ compress h (padded_message m) → h ≡ initial_hash → digest_bytes r 5 ≡ sha1 m
digest_after m r h fits made started = rw (made, started) (sym (one_block m fits))

-- a block whose front is a state
pub front_states : (j : ℕ) (states w loaded : List (List ℕ)) → AreFive (lane j states) → loaded ≡ states ++ drop 5 w
    → take 16 (lane j loaded) ≡ lane j states ++ drop 5 (take 16 (lane j w))
front_states j states w loaded five held =
    let at : List ℕ → ℕ = λ words. slice_index words j in
    let long : length states ≡ 5 = sym (length-map states at) ∙ ap length five.0 in
    let joined : lane j loaded ≡ lane j states ++ drop 5 (lane j w) =
    ap (map at) held ∙ map-append at states (drop 5 w) ∙ ap (λ tail. lane j states ++ tail) (sym (drop-map at 5 w)) in
    let end : length (lane j states) + 11 ≡ 16 = omega (arith, length-map states at) in
    let cut : take 16 (lane j states ++ drop 5 (lane j w)) ≡ lane j states ++ take 11 (drop 5 (lane j w)) =
    rw end at (take-append-add (lane j states) (drop 5 (lane j w)) 11) in
    ap (take 16) joined ∙ cut ∙ ap (λ tail. lane j states ++ tail) (sym (drop-take 5 11 (lane j w)))

-- the words behind the front stay
pub tail_kept : (j : ℕ) (states loaded next : List (List ℕ)) (tail : List ℕ) → AreFive (lane j states)
    → take 16 (lane j loaded) ≡ lane j states ++ tail → take 16 next ≡ take 16 loaded → drop 5 (take 16 (lane j next)) ≡ tail
tail_kept j states loaded next tail five front kept =
    let at : List ℕ → ℕ = λ words. slice_index words j in
    let same : take 16 (lane j next) ≡ lane j states ++ tail =
    take-map at 16 next ∙ ap (map at) kept ∙ sym (take-map at 16 loaded) ∙ front in
    let long : length (lane j states) ≡ 5 = ap length five.0 in
    rw same (rw long at (drop-append_seam (lane j states) tail))

-- the digest of a digest and a salt is the next
pub next_digest : (salt name r h d : List ℕ) (k : ℕ) → length salt ≤ 35 → digest_bytes d 5 ≡ iterated salt name k
    → r ≡ compress h (padded_message (digest_bytes d 5 ++ salt)) → h ≡ initial_hash → digest_bytes r 5 ≡ iterated salt name (k + 1)
unfolding digest_bytes iterated
next_digest salt name r h d k fits before made started =
    let m : List ℕ = digest_bytes d 5 ++ salt in
    let twenty : length (digest_bytes d 5) ≡ 20 = refl in
    let short : length m ≤ 55 = omega (arith, length-append (digest_bytes d 5) salt) in
    digest_after m r h short made started ∙ ap (λ digest. sha1 (digest ++ salt)) before ∙ ap (iterated salt name) (sym (add-one k))

-- ---- one message

-- a block whose front is a digest
pub block_of : (d salt block : List ℕ) → length d ≡ 20 → drop 20 block ≡ drop 20 (padded_message (replicate 20 0 ++ salt))
    → d ++ drop 20 block ≡ padded_message (d ++ salt)
block_of d salt block long tail =
    let z : List ℕ = replicate 20 0 in
    let behind : ℕ → List ℕ = λ n. 0x80 ∷ replicate ((119 - n % 64) % 64) 0 ++ to_be_bytes w64 (n * 8 % 2 ^ 64) in
    let same : length (z ++ salt) ≡ length (d ++ salt) = omega (arith, length-append z salt, length-append d salt) in
    ap (λ r. d ++ r) tail ∙ ap (λ n. d ++ (salt ++ behind n)) same ∙ sym (append_assoc d salt (behind (length (d ++ salt))))

-- behind it the block stays
pub tail_stays : (d tail : List ℕ) → length d ≡ 20 → drop 20 (d ++ tail) ≡ tail
tail_stays d tail long = rw long at (drop-append_seam d tail)

-- a digest of one more iteration
pub one_more : (salt name d r : List ℕ) (k : ℕ) → d ≡ iterated salt name k → r ≡ sha1 (d ++ salt) → r ≡ iterated salt name (k + 1)
unfolding iterated
one_more salt name d r k before made = made ∙ ap (λ digest. sha1 (digest ++ salt)) before ∙ ap (iterated salt name) (sym (add-one k))
