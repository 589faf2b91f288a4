-- bitmaps whose octets stand one after another
use Rattle.std.proofs.Common.{subst, ◌≡◌, ℕ, ◌+◌, ◌<◌, ◌≤◌, List, [], ◌∷◌, ◌++◌, length, get_or, refl, sym, ap, ◌∙◌, inl, inr, arith, length-append}
use Rattle.std.proofs.lemmas.{List.get_or_append_left, Bool.Decides.leb_tells, Grind.common_steps}
use Rattle.std.proofs.lemmas.List.FromFn.{length-map-range_with_len, get_or-map-range_with_len, fill_by_all}
use Rattle.domain_bitmap.specs.Blocks.{IsBitmap, part_at, parts_of, IsPart, AreBitmaps}

-- there are as many as there are ends
pub length-parts_of : (ends octets : List ℕ) → length (parts_of ends octets) ≡ length ends
length-parts_of ends octets = length-map-range_with_len (part_at ends octets) 0 (length ends)

pub none_cut : (ends octets : List ℕ) → parts_of ends octets ≡ [] → length ends ≡ 0
none_cut ends octets none = sym (length-parts_of ends octets) ∙ ap length none

pub no_ends : (ends octets : List ℕ) → length ends ≡ 0 → parts_of ends octets ≡ []
no_ends ends octets none = rw none refl

pub ruleset count_steps = (length-parts_of, none_cut, no_ends)

-- ---- the one at a place

pub part_is : (ends octets : List ℕ) (place : ℕ) (d : List ℕ) → place < length ends → get_or (parts_of ends octets) place d ≡ part_at ends octets place
part_is ends octets place d inside = get_or-map-range_with_len (part_at ends octets) 0 (length ends) place place d inside (omega arith)

pub ruleset get_steps = (length-parts_of, part_is)

-- ---- one more

start_kept : (ends : List ℕ) (end place : ℕ) → place ≤ length ends → get_or (0 ∷ (ends ++ end ∷ [])) place 0 ≡ get_or (0 ∷ ends) place 0
start_kept ends end place before = get_or_append_left (0 ∷ ends) (end ∷ []) 0 place (omega (arith, before))

kept : (ends octets more : List ℕ) (end place : ℕ) → IsPart ends octets place → place < length ends
    → part_at (ends ++ end ∷ []) (octets ++ more) place ≡ part_at ends octets place
kept ends octets more end place is inside = grind (arith, common_steps, start_kept, is.ordered, is.inside)

last : (ends octets more : List ℕ) (end : ℕ) → AreBitmaps ends octets → end ≡ length octets + length more
    → part_at (ends ++ end ∷ []) (octets ++ more) (length ends) ≡ more
last ends octets more end are is = grind (arith, common_steps, start_kept, are.whole)

pub parts_pushed : (ends octets more : List ℕ) (end : ℕ) → AreBitmaps ends octets → end ≡ length octets + length more
    → parts_of (ends ++ end ∷ []) (octets ++ more) ≡ parts_of ends octets ++ more ∷ []
parts_pushed ends octets more end are is =
    sym (fill_by_all _ (parts_of ends octets ++ more ∷ []) _ [] (grind (arith, common_steps, length-parts_of)) (λ k below.
    elim (leb_tells (length ends) k) [
      | inl h ↦ grind (arith, common_steps, last, length-parts_of)
      | inr h ↦ grind (arith, common_steps, kept, part_is, length-parts_of, (are.parts k h.1))
    ]))

last_end : (ends : List ℕ) (end : ℕ) → get_or (0 ∷ (ends ++ end ∷ [])) (length (ends ++ end ∷ [])) 0 ≡ end
last_end ends end = grind (arith, common_steps)

more_bitmaps : (ends octets more : List ℕ) (end : ℕ) → AreBitmaps ends octets → IsBitmap more
    → end ≡ length octets + length more → AreBitmaps (ends ++ end ∷ []) (octets ++ more)
more_bitmaps ends octets more end are bitmap is = record {
  whole = last_end ends end ∙ is ∙ sym (length-append octets more);
  parts = λ place below. elim (leb_tells (length ends) place) [
    | inl h ↦ let here : place ≡ length ends = omega (arith, h.1, below, length-append ends (end ∷ [])) in
        rw here (record {
          ordered = grind (arith, common_steps, start_kept, are.whole);
          inside = grind (arith, common_steps);
          bitmap = subst IsBitmap (sym (last ends octets more end are is)) bitmap;
        })
    | inr h ↦ let was = are.parts place h.1 in record {
      ordered = grind (arith, common_steps, start_kept);
      inside = grind (arith, common_steps);
      bitmap = subst IsBitmap (sym (kept ends octets more end place was h.1)) was.bitmap;
    }
  ];
}

pub AreBitmaps-push : (ends octets more all whole : List ℕ) (end : ℕ) → AreBitmaps ends octets → IsBitmap more → end ≡ length octets + length more
    → all ≡ ends ++ end ∷ [] → whole ≡ octets ++ more → AreBitmaps all whole
AreBitmaps-push ends octets more all whole end are bitmap is all_is whole_is = rw (all_is, whole_is) (more_bitmaps ends octets more end are bitmap is)

pub ruleset push_steps = (parts_pushed)
