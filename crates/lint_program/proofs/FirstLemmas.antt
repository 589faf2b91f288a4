-- The first line of those that are told.
use Rattle.std.proofs.{lemmas.Grind.common_steps, Common.{◌≡◌, ℕ, ◌+◌, List, [], ◌∷◌, arith, inl, inr, refl}}
use Rattle.domain_borrowed.specs.Data.{RawRecord}
use Rattle.denial_program.specs.Listing.{Give, IsFirstBad}
use Rattle.lint_program.specs.Report.{AreLinted}

-- the lowest bad line, where the first line has the number n
first_from : (n : ℕ) (lines : List (List ℕ)) (m : ℕ) (more numbers : List ℕ) (records : List RawRecord) → AreLinted n lines (m ∷ more) numbers records
    → (k : ℕ) × (m + 1 ≡ n + k) × IsFirstBad lines k
first_from n [] m more numbers records h = absurd (let w = h.0 in cc)
first_from n (line ∷ rest) m more numbers records (inl h) =
    let lower = first_from (n + 1) rest m more numbers records h.1 in
    (lower.0 + 1, omega (arith, lower.1), inr (inl h.0, (lower.0, refl, lower.2)))
first_from n (line ∷ rest) m more numbers records (inr (inl h)) =
    let lower = first_from (n + 1) rest m more h.4 h.1 h.6 in
    (lower.0 + 1, omega (arith, lower.1), inr (inr (h.0, h.3), (lower.0, refl, lower.2)))
first_from n (line ∷ rest) m more numbers records (inr (inr h)) = (1, grind (arith, common_steps), inl (refl, h.2))

pub first_told : (lines : List (List ℕ)) (m : ℕ) (more numbers : List ℕ) (records : List RawRecord)
    → AreLinted 1 lines (m ∷ more) numbers records → IsFirstBad lines m
first_told lines m more numbers records h = grind (arith, common_steps, first_from)

pub none_from : (n : ℕ) (lines : List (List ℕ)) (numbers : List ℕ) (records : List RawRecord) → AreLinted n lines [] numbers records → Give lines records
none_from n [] numbers records h = h.2
none_from n (line ∷ rest) numbers records (inl h) = inl (h.0, none_from (n + 1) rest numbers records h.1)
none_from n (line ∷ rest) numbers records (inr (inl h)) = inr (h.0, h.1, h.2, h.3, none_from (n + 1) rest h.4 h.1 h.6)
none_from n (line ∷ rest) numbers records (inr (inr h)) = absurd (let w = h.1 in cc)
