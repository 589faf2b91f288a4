-- The places of lines.
use Rattle.std.proofs.Common.{arith, ◌≡◌, ◌∙◌, ◌++◌, ◌∷◌, ◌<◌, ◌≤◌, ◌-◌, ℕ, List, [], All, Vec, Global, length, get_or, map, refl, sym, ap, subst}
use Rattle.std.proofs.lemmas.List.{map-append, get_or-map, Elements.{All-append, All-cons, All-head, All-nil, All-tail}}
use Rattle.domain_octets.specs.Octets.{Octets}
use Rattle.zone_program.specs.Places.{IsHeldAs, PutsPlace, path_at, place_held, places_of}
use Rattle.zone_program.specs.declared.places.{HeldPlace.HeldPlace, ZoneLines.ZoneLines}

-- the last path has the number before their count
pub held_last : (paths : List (Vec ℕ Global)) (path : Octets) (last : Vec ℕ Global) (count : ℕ) → 1 ≤ length paths → count ≡ length paths
    → last ≡ get_or paths (length paths - 1) last → last.items ≡ path → IsHeldAs paths path (count - 1) paths
held_last paths path last count some counted at is = record {
  within = omega (arith, some, counted);
  is = get_or-map (λ p. p.items) paths (count - 1) last [] (omega (arith, some, counted))
      ∙ ap (λ n. (get_or paths (n - 1) last).items) counted ∙ sym (ap (λ p. p.items) at) ∙ is;
  longer = omega arith;
  kept = λ other below. refl;
}

-- places that are held are the same with more paths
held_longer : (old new : List (Vec ℕ Global)) (places : List HeldPlace) → All (λ held. held.file < length old) places
    → ((other : ℕ) → other < length old → path_at new other ≡ path_at old other) → map (place_held new) places ≡ map (place_held old) places
held_longer old new [] held kept = refl
held_longer old new (p ∷ ps) held kept =
    let first : place_held new p ≡ place_held old p = ap (λ path. record { path = path; line = p.line })
    (kept p.file (All-head (λ h. h.file < length old) p ps held)) in
    ap (λ x. x ∷ map (place_held new) ps) first
    ∙ ap (λ xs. place_held old p ∷ xs) (held_longer old new ps (All-tail (λ h. h.file < length old) p ps held) kept)

held_still : (old new : List (Vec ℕ Global)) (places : List HeldPlace) → length old ≤ length new → All (λ held. held.file < length old) places
    → All (λ held. held.file < length new) places
held_still old new [] longer held = All-nil _
held_still old new (p ∷ ps) longer held =
    All-cons (λ h. h.file < length new) p ps (let below = All-head (λ h. h.file < length old) p ps held in omega (arith, longer, below))
    (held_still old new ps longer (All-tail (λ h. h.file < length old) p ps held))

-- a place behind others
pub put_place : (old new : ZoneLines) (path : Octets) (line number : ℕ) → new.text ≡ old.text → IsHeldAs old.paths.items path number new.paths.items
    → new.places.items ≡ old.places.items ++ record { file = number; line = line } ∷ [] → PutsPlace old path line new
put_place old new path line number text is more = record {
  text = text;
  held = λ held.
      subst (λ ps. All (λ h. h.file < length new.paths.items) ps) (sym more)
      (All-append (λ h. h.file < length new.paths.items) old.places.items _ (held_still old.paths.items new.paths.items old.places.items is.longer held)
      (All-cons (λ h. h.file < length new.paths.items) _ [] is.within (All-nil _)));
  places = λ held.
      ap (map (place_held new.paths.items)) more
      ∙ map-append (place_held new.paths.items) old.places.items (record { file = number; line = line } ∷ [])
      ∙ ap (λ ps. ps ++ place_held new.paths.items (record { file = number; line = line }) ∷ [])
      (held_longer old.paths.items new.paths.items old.places.items held is.kept)
      ∙ ap (λ p. places_of old ++ record { path = p; line = line } ∷ []) is.is;
}
