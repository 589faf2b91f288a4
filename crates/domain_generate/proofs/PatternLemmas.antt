-- The parts of a pattern, seen from a place in it.
use Rattle.std.proofs.Common.{arith, ℕ, zero, suc, ◌+◌, ◌-◌, ◌<◌, ◌≤◌, ◌≡◌, ◌∷◌, ◌++◌, [], refl, ap, ◌∙◌, sym}
use Rattle.std.proofs.Common.{length, take, drop, get_or, Option, Some, None, append_assoc}
use Rattle.std.proofs.lemmas.{Grind.common_steps, List.drop-drop}
use Rattle.std.specs.{List.flat_map, Option.option_or}
use Rattle.domain_octets.specs.Octets.{Octets}
use Rattle.domain_generate.specs.Patterns.{pattern_part, part_len, parts_from, pattern_parts, part_fault, pattern_fault}
use Rattle.domain_generate.specs.declared.pattern.Part.{Part}
use Rattle.domain_generate.specs.declared.fault.GenerateFaultKind.{GenerateFaultKind}
use Rattle.domain_generate.proofs.CutLemmas.{split_at}

skipped : (skip : ℕ) (text : Octets) → parts_from skip text ≡ pattern_parts (drop skip text)
unfolding parts_from
skipped zero text = refl
skipped (suc skip) [] = refl
skipped (suc skip) (c ∷ text) = skipped skip text

parts_cons : (c : ℕ) (text : Octets) → pattern_parts (c ∷ text) ≡ pattern_part c text ∷ parts_from (part_len (pattern_part c text) - 1) text
unfolding parts_from
parts_cons c text = refl

-- no part is at the end
pub parts_end : (text : Octets) (n : ℕ) → length text ≤ n → pattern_parts (drop n text) ≡ []
unfolding parts_from
parts_end text n h = grind (arith, common_steps)

-- the part at a place, and those behind it
pub parts_step : (text : Octets) (n : ℕ) (part : Part) → n < length text → part ≡ pattern_part (get_or text n 0) (drop (n + 1) text) → 1 ≤ part_len part
    → pattern_parts (drop n text) ≡ part ∷ pattern_parts (drop (n + part_len part) text)
parts_step text n part h is some =
    let c = get_or text n 0 in
    let rest = drop (n + 1) text in
    let more : pattern_parts (drop n text) ≡ part ∷ pattern_parts (drop (part_len part - 1) rest) =
    ap pattern_parts (split_at text n h) ∙ parts_cons c rest
    ∙ rw is (ap (λ ps. pattern_part c rest ∷ ps) (skipped (part_len (pattern_part c rest) - 1) rest)) in
    more ∙ ap (λ t. part ∷ pattern_parts t) (drop-drop (part_len part - 1) (n + 1) text ∙ ap (λ k. drop k text) (omega arith))

-- the part of a text from a place on
pub rest_is : (text : Octets) (n : ℕ) → take (length text - n) (drop n text) ≡ drop n text
rest_is text n = grind (arith, common_steps)

-- what was written so far, and the text of the parts from a place on
pub written_more : (f : Part → Octets) (text line : Octets) (n : ℕ) (part : Part) (all : Octets) → n < length text
    → part ≡ pattern_part (get_or text n 0) (drop (n + 1) text) → 1 ≤ part_len part → line ++ flat_map f (pattern_parts (drop n text)) ≡ all
    → (line ++ f part) ++ flat_map f (pattern_parts (drop (n + part_len part) text)) ≡ all
written_more f text line n part all h is some so_far =
    append_assoc line (f part) _ ∙ ap (λ ps. line ++ flat_map f ps) (sym (parts_step text n part h is some)) ∙ so_far

-- the first fault, after parts without one
pub faultless_more : (first last : ℕ) (text : Octets) (n : ℕ) (part : Part) (all : Option GenerateFaultKind) → n < length text
    → part ≡ pattern_part (get_or text n 0) (drop (n + 1) text) → 1 ≤ part_len part → part_fault first last part ≡ None
    → pattern_fault first last (pattern_parts (drop n text)) ≡ all
    → pattern_fault first last (pattern_parts (drop (n + part_len part) text)) ≡ all
faultless_more first last text n part all h is some none so_far =
    sym (ap (pattern_fault first last) (parts_step text n part h is some)
    ∙ ap (λ (o : Option GenerateFaultKind). option_or o (pattern_fault first last (pattern_parts (drop (n + part_len part) text)))) none) ∙ so_far

pub fault_found : (first last : ℕ) (text : Octets) (n : ℕ) (part : Part) (kind : GenerateFaultKind) (all : Option GenerateFaultKind) → n < length text
    → part ≡ pattern_part (get_or text n 0) (drop (n + 1) text) → 1 ≤ part_len part → part_fault first last part ≡ Some kind
    → pattern_fault first last (pattern_parts (drop n text)) ≡ all → Some kind ≡ all
fault_found first last text n part kind all h is some found so_far =
    sym (ap (pattern_fault first last) (parts_step text n part h is some)
    ∙ ap (λ (o : Option GenerateFaultKind). option_or o (pattern_fault first last (pattern_parts (drop (n + part_len part) text)))) found) ∙ so_far
