-- How far a reader has come, and the lines of a report.
use Rattle.std.proofs.{lemmas.{Grind.common_steps, List.map-append}, Common.{◌≡◌, ℕ, ◌+◌, List, [], ◌∷◌, ◌++◌, Option, refl, append-nil, append_assoc, arith}}
use Rattle.std.{proofs.Common.{inl, inr, ap, map, sym, ◌∙◌, subst, take}, specs.{Prelude.IfSome, Str.Lines.lines, Io.KnownBytes.Appends}}
use Rattle.domain_borrowed.specs.Data.{RawRecord}
use Rattle.denial_program.{proofs.{LineLemmas.{known_so, reading_end, reading_step, IsReading}, RunLemmas.appends_more}, specs.Listing.{Says, TakesLine}}
use Rattle.denial_program.specs.{Listing.TakesNone, declared.line.Line.{Line, TheVariants.{Nothing, Record, Bad}}}
use Rattle.lint_program.specs.Report.{AreLinted, AreEach}
use Rattle.domain_octets.specs.Octets.{Octets}

-- ---- How far a reader has come, where it tells its octets.

-- what rest is, after these bad lines, and these records with their numbers, all is; and rest begins with the line of this number
abbrev pub Continues : List (List ℕ) → List (List ℕ) → List ℕ → List ℕ → List RawRecord → ℕ → Type 0
Continues all rest bad numbers records number =
    (more left : List ℕ) (others : List RawRecord) → AreLinted number rest more left others
    → AreLinted 1 all (bad ++ more) (numbers ++ left) (records ++ others)

-- the lines before this number are these
pub record Follows (known now : Option (List ℕ)) (bad numbers : List ℕ) (records : List RawRecord) (number : ℕ) : Type 0 where
  pub reading : IsReading (λ all rest. Continues all rest bad numbers records number) known now

module _ (known old new : Option (List ℕ)) (bad numbers : List ℕ) (records : List RawRecord) (number : ℕ)
    (h : Follows known old bad numbers records number) where
  pub follows_end : TakesNone old new → IfSome known (λ all. AreLinted 1 (lines all) bad numbers records)
  follows_end t =
      known_so _ (λ all. AreLinted 1 (lines all) bad numbers records) known (λ all c. simp append-nil at (c [] [] [] (refl, refl, refl)))
      (reading_end (λ all rest. Continues all rest bad numbers records number) known old new h.reading t)

  module _ (said : Line) (t : TakesLine old new (λ line. Says line said)) where
    -- one line more
    stepped : (bad' numbers' : List ℕ) (records' : List RawRecord)
        → ((all rest : List (List ℕ)) (line : List ℕ) → Says line said → Continues all (line ∷ rest) bad numbers records number
        → Continues all rest bad' numbers' records' (number + 1))
        → Follows known new bad' numbers' records' (number + 1)
    stepped bad' numbers' records' step = record {
      reading = reading_step (λ all rest. Continues all rest bad numbers records number) known old new
          (λ all rest. Continues all rest bad' numbers' records' (number + 1)) (λ line. Says line said) step h.reading t;
    }

    pub follows_nothing : said ≡ Nothing → Follows known new bad numbers records (number + 1)
    follows_nothing is = stepped bad numbers records (λ all rest line s c more left others g. c more left others (inl (rw is at s, g)))

    pub follows_record : (numbers' : List ℕ) (records' : List RawRecord) (r : RawRecord) → said ≡ Record r
        → numbers' ≡ numbers ++ number ∷ [] → records' ≡ records ++ r ∷ [] → Follows known new bad numbers' records' (number + 1)
    follows_record numbers' records' r is ns rs =
        rw (ns, rs) (stepped bad (numbers ++ number ∷ []) (records ++ r ∷ []) (λ all rest line s c more left others g.
        simp append_assoc (c more (number ∷ left) (r ∷ others) (inr (inl (r, others, refl, rw is at s, left, refl, g))))))

    pub follows_bad : (bad' : List ℕ) → said ≡ Bad → bad' ≡ bad ++ number ∷ [] → Follows known new bad' numbers records (number + 1)
    follows_bad bad' is bs =
        rw bs (stepped (bad ++ number ∷ []) numbers records (λ all rest line s c more left others g.
        simp append_assoc (c (number ∷ more) left others (inr (inr (more, refl, rw is at s, g))))))

-- ---- The lines of a report, one after another.

module _ {A : Type 0} (is_such : A → Octets → Type 0) where
  -- one more line
  each_more : (xs : List A) (x : A) (text line : Octets) → AreEach is_such xs text → is_such x line → AreEach is_such (xs ++ x ∷ []) (text ++ line)
  each_more [] x text line h is = (line, [], ap (λ t. t ++ line) h ∙ sym (append-nil line), is, refl)
  each_more (m ∷ xs) x text line h is = grind (arith, common_steps, (append_assoc h.0 h.1 line), (each_more xs x h.1 line h.4 is))

  -- which is written behind those before it
  pub told_more : {T : Type 0} (f : T → A) (items : List T) (i : ℕ) (item : T) (a b c : Option Octets) → take (i + 1) items ≡ take i items ++ item ∷ []
      → (text : Octets) × AreEach is_such (map f (take i items)) text × Appends a b text
      → (line : Octets) × is_such (f item) line × Appends b c line
      → (text : Octets) × AreEach is_such (map f (take (i + 1) items)) text × Appends a c text
  told_more f items i item a b c more so_far told = (
    so_far.0 ++ told.0,
    subst (λ xs. AreEach is_such xs (so_far.0 ++ told.0)) (sym (ap (map f) more ∙ map-append f (take i items) (item ∷ [])))
        (each_more (map f (take i items)) (f item) so_far.0 told.0 so_far.1 told.1),
    appends_more a b c so_far.0 told.0 so_far.2 told.2,
  )
