-- Times to live: sums that count no further than a limit.
use Rattle.std.proofs.Common.{ℕ, ◌+◌, ◌<◌, ◌≡◌, refl, ap, ◌∙◌, sym, length, drop, ◌∷◌, get_or, drop-cons, add-one, Option, Some, None}
use Rattle.std.specs.{Option.option_map}
use Rattle.domain_octets.specs.Octets.{Octets}
use Rattle.domain_types.specs.Ttls.{next_sum, seconds_from, seconds_of, capped_sum}
use Rattle.domain_types.specs.declared.ttl.{Sum.Sum}

-- the sum so far, as the code counts it, and the seconds from a place on
pub record Summing (text : Octets) (n : ℕ) (sum : Sum) : Type 0 where
  pub exact : Sum
  pub is : sum ≡ capped_sum exact
  pub same : seconds_from (Some exact) (drop n text) ≡ seconds_of text

pub summing_start : (text : Octets) → Summing text 0 (record { total = None; number = None })
summing_start text = record { exact = record { total = None; number = None }; is = refl; same = refl }

summing_by : (text : Octets) (n : ℕ) (next : Sum) (step : Option Sum) → Some next ≡ option_map capped_sum step
    → seconds_from step (drop n text) ≡ seconds_of text → Summing text n next
summing_by text n next None is same = cc
summing_by text n next (Some exact) is same = let e : next ≡ capped_sum exact = cc in record { exact = exact; is = e; same = same }

pub summing_more : (text : Octets) (n : ℕ) (sum next : Sum) → Summing text n sum → n < length text
    → ((exact : Sum) → sum ≡ capped_sum exact → Some next ≡ option_map capped_sum (next_sum exact (get_or text n 0))) → Summing text (n + 1) next
summing_more text n sum next so_far h step =
    summing_by text (n + 1) next (next_sum so_far.exact (get_or text n 0)) (step so_far.exact so_far.is)
    (ap (λ k. seconds_from (Some so_far.exact) (get_or text n 0 ∷ drop k text)) (add-one n)
    ∙ ap (seconds_from (Some so_far.exact)) (sym (drop-cons text n 0 h)) ∙ so_far.same)
