-- Lines: the record that each spells, and how a reader finds them.
use Rattle.std.proofs.Common.{arith, ◌≡◌, ◌↔◌, ◌≤◌, IsTrue, Bool, true, false, ℕ, List, sym, subst, inl, inr, None, ◌≢◌, ◌+◌, ◌-◌, ◌<◌, [], length, take}
use Rattle.std.proofs.Common.{get_or, ap, ◌∙◌, IfSome, Option, length-take-le, ◌∷◌, ◌++◌, refl, eqb, cond, ◌⊎◌, Some, append-nil, append_assoc}
use Rattle.std.proofs.lemmas.{Bool.Decides.nat_tests, Grind.common_steps, List.{get_or-take, Elements.{All-weaker, All-nil, All-from_get_or}}}
use Rattle.std.proofs.{lemmas.{List.Splits.length-slice_split, Str.IsUtf8-from_ascii}, KnownBytes.Consumes-nil, BufReadLemmas.Consumes_through}
use Rattle.std.{proofs.BufReadLemmas.take_through_nonempty, specs.{List.{All, slice_split}, Str.{IsUtf8, Lines.{lines, lines_of_parts, strip_carriage_return}}}}
use Rattle.std.specs.Io.{BufRead.{take_through, DropsThrough, drop_through}, KnownBytes.Consumes}
use Rattle.domain_names.specs.Name.{Name, Tokens}
use Rattle.domain_octets.specs.{Text.words_of, Octets.Octets}
use Rattle.domain_message.specs.{Entry.{EntryText, IsOfLine, OwnerTaken, RefusesBody}, declared.line.LineError.LineError}
use Rattle.domain_message.proofs.OneLineLemmas.{in_body, none_in}
use Rattle.denial_program.specs.Listing.{IsBad, IsPlain, IsSkipped, is_plain, Give, IsFirstBad, RefusesWords, Says, TakesLine, TakesNone}
use Rattle.denial_program.specs.declared.line.Line.{Line}
use Rattle.denial_program.specs.declared.line.Line.TheVariants.{Nothing, Record, Bad}
use lib.Dec.{eqb-suc-zero}
use Rattle.domain_borrowed.specs.Data.{RawRecord}

-- ---- The record that a line spells, and lines that spell none.

-- ---- lines as text

plain_is_low : (line : List ℕ) → IsPlain line → All (λ c. c ≤ 126) line
plain_is_low line plain = All-weaker (λ c. is_plain c ≡ true) (λ c. c ≤ 126) (λ c low. grind (arith, nat_tests)) line plain

pub plain_is_text : (line : List ℕ) → IsPlain line → IsUtf8 line
plain_is_text line plain = let low = plain_is_low line plain in grind (arith, common_steps, IsUtf8-from_ascii)

-- ---- words that spell no record

-- what is refused behind an owner
pub refused_behind : (owner : Name) (ws behind : Tokens) (e : LineError) → OwnerTaken owner ws behind
    → RefusesBody (λ (o : Octets). o) (λ (n : Name). n) None behind e → RefusesWords ws e
refused_behind owner ws behind e owned why = inr (in_body (λ o. o) (λ n. n) None owner ws behind e owned why)

-- a line that is not skipped, and whose words are refused
pub is_bad : (line : List ℕ) (tokens : Tokens) (skipped : Bool) (e : LineError) → tokens ≡ words_of line
    → IsTrue skipped ↔ IsSkipped line → skipped ≡ false → IsOfLine None e → RefusesWords tokens e → IsBad line
is_bad line tokens skipped e same test off own (inl memory) = absurd (subst (IsOfLine None) memory own)
is_bad line tokens skipped e same test off own (inr why) = record {
  seen = λ s. absurd (let on = test.1 s in cc);
  none = λ r h. none_in (λ o. o) (λ n. n) None tokens h.spelled.spelled e why own
      (subst (λ ws. EntryText (λ o. o) (λ n. n) ws h.spelled.spelled) (sym same) h.spelled.are);
}

-- ---- A line that was found in what the reader holds, and one that the reader found.

-- what is known of octets follows from what else is known of them
pub known_so : (P Q : List ℕ → Type 0) (known : Option (List ℕ)) → ((xs : List ℕ) → P xs → Q xs) → IfSome known P → IfSome known Q
known_so P Q known more h = grind (arith, common_steps)

-- the octets up to the first line feed were taken
pub line_taken : (known now : Option (List ℕ)) (held : List ℕ) (place : ℕ) → place < length held
    → ((k : ℕ) → k < place → get_or held k 0 ≢ 10) → get_or held place 0 ≡ 10
    → Consumes known now (take (place + 1) held)
    → IfSome known (λ xs. take (place + 1) held ≡ take_through 10 xs) × DropsThrough known now 10
line_taken known now held place within before here taken =
    let part = take (place + 1) held in
    let long : length part ≡ place + 1 = length-take-le _ held (omega arith) in
    let last : get_or part (length part - 1) 0 ≡ 10 = grind (arith, common_steps, (get_or-take (place + 1) held)) in
    Consumes_through 10 known known now [] part (Consumes-nil known) (All-nil _) taken (All-from_get_or (λ x. x ≢ 10) _ 0 (λ k lt.
    grind (arith, common_steps, get_or-take, length-take-le, (before k)))) (λ some. last) (λ none. absurd (omega (arith, long)))

-- ---- The first line of some bytes, by what is read up to the first line feed.

abbrev parts : List ℕ → List (List ℕ)
parts bs = slice_split (λ b. eqb b 10) bs

-- the last line, with no line feed
record IsLast (bs : List ℕ) : Type 0 where
  only : parts bs ≡ bs ∷ []
  taken : take_through 10 bs ≡ bs
  left : drop_through 10 bs ≡ []
  none : (i : ℕ) → get_or bs i 0 ≢ 10

-- a line with its line feed
record IsEnded (bs : List ℕ) : Type 0 where
  front : List ℕ
  split : parts bs ≡ front ∷ parts (drop_through 10 bs)
  taken : take_through 10 bs ≡ front ++ 10 ∷ []

first_of_cons : (x : ℕ) (xs : List ℕ) (b : Bool) → eqb x 10 ≡ b → IsLast xs ⊎ IsEnded xs → IsLast (x ∷ xs) ⊎ IsEnded (x ∷ xs)
first_of_cons x xs b e h = grind (arith, common_steps)

first_of : (bs : List ℕ) → IsLast bs ⊎ IsEnded bs
first_of [] = inl (record { only = refl; taken = refl; left = refl; none = λ i p. omega arith })
first_of (x ∷ xs) = first_of_cons x xs (eqb x 10) refl (first_of xs)

lines_of_parts-cons : (front : List ℕ) (more : List (List ℕ)) → 0 < length more
    → lines_of_parts (front ∷ more) ≡ strip_carriage_return front ∷ lines_of_parts more
lines_of_parts-cons front [] h = absurd (omega arith)
lines_of_parts-cons front (y ∷ more) h = refl

lines_of_parts-only : (bs : List ℕ) → 0 < length bs → lines_of_parts (bs ∷ []) ≡ bs ∷ []
lines_of_parts-only [] h = absurd (omega arith)
lines_of_parts-only (x ∷ xs) h = ap (λ v. cond v [] ((x ∷ xs) ∷ [])) (eqb-suc-zero (length xs))

-- the first line is what is left where the end of the octets up to its end is left away
pub line_once : (bs : List ℕ) → 0 < length bs
    → (out : List ℕ) × (lines bs ≡ out ∷ lines (drop_through 10 bs))
    × ((left : List ℕ) → ((front : List ℕ) → take_through 10 bs ≡ front ++ 10 ∷ [] → left ≡ strip_carriage_return front)
    → (get_or (take_through 10 bs) (length (take_through 10 bs) - 1) 0 ≢ 10 → left ≡ take_through 10 bs) → left ≡ out)
line_once bs some =
    elim (first_of bs) [
      | inl h ↦ (
        bs,
        grind (arith, common_steps, h.only, h.left, lines_of_parts-only),
        λ left ended last. grind (arith, common_steps, h.taken, (h.none (length bs - 1))),
      )
      | inr h ↦ (
        strip_carriage_return h.front,
        grind (arith, common_steps, h.split, lines_of_parts-cons, (length-slice_split (λ b. eqb b 10) (drop_through 10 bs))),
        λ left ended last. ended h.front h.taken,
      )
    ]

-- what was read up to the first line feed is the first line, and it is such without its end
pub takes_line : (is_such : List ℕ → Type 0) (old new : Option (List ℕ)) (was buf view out : List ℕ) → DropsThrough old new 10
    → was ≡ [] → IfSome old (λ xs. buf ≡ was ++ take_through 10 xs) → 0 < length buf → view ≡ buf
    → ((front : List ℕ) → view ≡ front ++ 10 ∷ [] → out ≡ strip_carriage_return front)
    → (get_or view (length view - 1) 0 ≢ 10 → out ≡ view) → is_such out → TakesLine old new is_such
takes_line is_such None new was buf view out drops empty filled some same ended last so = record { taken = tt }
takes_line is_such (Some all) new was buf view out drops empty filled some same ended last so =
    let taken : buf ≡ take_through 10 all = filled ∙ ap (λ (w : List ℕ). w ++ take_through 10 all) empty in
    let seen : view ≡ take_through 10 all = same ∙ taken in
    let once = line_once all (take_through_nonempty 10 all (subst (λ (t : List ℕ). 0 < length t) taken some)) in
    let kept : out ≡ once.0 =
    once.2 out (λ front e. ended front (seen ∙ e)) (λ p. last (subst (λ (t : List ℕ). get_or t (length t - 1) 0 ≢ 10) (sym seen) p) ∙ seen) in
    record { taken = (out, drop_through 10 all, drops, once.1 ∙ ap (λ l. l ∷ lines (drop_through 10 all)) (sym kept), so) }

-- ---- How far a reader has come, where it tells its octets.

-- what rest gives after these records, all gives; and rest begins with the line of this number
pub record Continues (all rest : List (List ℕ)) (records : List RawRecord) (number : ℕ) : Type 0 where
  pub gives : (more : List RawRecord) → Give rest more → Give all (records ++ more)
  pub bad : (k n : ℕ) → n + 1 ≡ k + number → IsFirstBad rest k → IsFirstBad all n

-- of known octets the reader has these left, and this holds of the lines of both
abbrev pub IsReading : (List (List ℕ) → List (List ℕ) → Type 0) → Option (List ℕ) → Option (List ℕ) → Type 0
IsReading Holds known now = IfSome known (λ all. (rest : List ℕ) × (now ≡ Some rest) × Holds (lines all) (lines rest))

module _ (Holds : List (List ℕ) → List (List ℕ) → Type 0) (known old new : Option (List ℕ)) where
  pub reading_end : IsReading Holds known old → TakesNone old new → IfSome known (λ all. Holds (lines all) [])
  reading_end h t = grind (arith, common_steps)

  -- one line more
  pub reading_step : (Then : List (List ℕ) → List (List ℕ) → Type 0) (is_such : List ℕ → Type 0)
      → ((all rest : List (List ℕ)) (line : List ℕ) → is_such line → Holds all (line ∷ rest) → Then all rest)
      → IsReading Holds known old → TakesLine old new is_such → IsReading Then known new
  reading_step Then is_such step h t = grind (arith, common_steps)

-- the lines before this number gave these records
pub record Follows (known now : Option (List ℕ)) (records : List RawRecord) (number : ℕ) : Type 0 where
  pub reading : IsReading (λ all rest. Continues all rest records number) known now

module _ (known old new : Option (List ℕ)) (records : List RawRecord) (number : ℕ) (h : Follows known old records number) where
  pub follows_end : TakesNone old new → IfSome known (λ all. Give (lines all) records)
  follows_end t =
      known_so _ (λ all. Give (lines all) records) known (λ all c. grind (arith, common_steps, (c.gives []), (append-nil records)))
      (reading_end (λ all rest. Continues all rest records number) known old new h.reading t)

  module _ (said : Line) (t : TakesLine old new (λ line. Says line said)) where
    pub follows_skip : said ≡ Nothing → Follows known new records (number + 1)
    follows_skip is = record {
      reading = reading_step (λ all rest. Continues all rest records number) known old new (λ all rest. Continues all rest records (number + 1)) _
          (λ all rest line s c. record {
            gives = λ more g. c.gives more (inl (s, g));
            bad = λ k n p b. c.bad (k + 1) n (omega arith) (inr (inl s, (k, refl, b)));
          })
          h.reading (rw is at t);
    }

    pub follows_record : (r : RawRecord) → said ≡ Record r → Follows known new (records ++ r ∷ []) (number + 1)
    follows_record r is = record {
      reading = reading_step (λ all rest. Continues all rest records number) known old new
          (λ all rest. Continues all rest (records ++ r ∷ []) (number + 1)) _
          (λ all rest line s c. record {
            gives = λ more g. subst (Give all) (sym (append_assoc records (r ∷ []) more)) (c.gives (r ∷ more) (inr (r, more, refl, s, g)));
            bad = λ k n p b. c.bad (k + 1) n (omega arith) (inr (inr (r, s), (k, refl, b)));
          })
          h.reading (rw is at t);
    }

    -- the line that was taken is bad
    pub follows_bad : said ≡ Bad → IfSome known (λ all. IsFirstBad (lines all) number)
    follows_bad is =
        known_so _ _ known (λ all c. c.2)
        (reading_step (λ all rest. Continues all rest records number) known old new (λ all rest. IsFirstBad all number) _
        (λ all rest line s c. c.bad 1 number (omega arith) (inl (refl, s))) h.reading (rw is at t))

-- where the octets of the input were known, those that are left are too
abbrev pub StaysKnown : Option (List ℕ) → Option (List ℕ) → Type 0
StaysKnown known now = IfSome known (λ all. (rest : List ℕ) × (now ≡ Some rest))

pub known_start : (known : Option (List ℕ)) → StaysKnown known known
known_start known = grind (arith, common_steps)
