-- Identifiers in a list.
use Rattle.std.proofs.Common.{◌≡◌, ℕ, suc, ◌+◌, ◌<◌, ◌≤◌, List, [], ◌∷◌, ◌++◌, length, get_or, drop, refl, sym, ap, ◌∙◌, subst, arith, true, false}
use Rattle.std.proofs.Common.{Bool, Option, Some, None}
use Rattle.std.proofs.Common.{add-one, drop-cons, append_assoc, append-nil}
use Rattle.std.proofs.lemmas.{Grind.common_steps}
use Rattle.domain_svcb.specs.Values.{counted_id, joined_ids, by_step, id_step, ids_from, TakesOctet}
use Rattle.domain_svcb.specs.declared.ids.IdStep.{IdStep, TheVariants.{Keep, Escape, End, Wrong}}

joined_none : (a : List ℕ) (o : Option (List ℕ)) → a ≡ [] → joined_ids (Some a) o ≡ o
joined_none a None none = refl
joined_none a (Some b) none = ap (λ x. Some (x ++ b)) none

joined_twice : (a b : List ℕ) (o : Option (List ℕ)) → joined_ids (Some a) (joined_ids (Some b) o) ≡ joined_ids (Some (a ++ b)) o
joined_twice a b None = refl
joined_twice a b (Some c) = ap Some (sym (append_assoc a b c))

goes : (id : List ℕ) (taken : Bool) (c : ℕ) (rest : List ℕ) (s : IdStep) → s ≡ id_step taken c
    → ids_from id taken (c ∷ rest) ≡ by_step s (ids_from (id ++ c ∷ []) false rest) (ids_from id true rest)
    (joined_ids (counted_id id) (ids_from [] false rest)) None
unfolding ids_from
goes id taken c rest s is = ap (λ s. by_step s (ids_from (id ++ c ∷ []) false rest) (ids_from id true rest)
    (joined_ids (counted_id id) (ids_from [] false rest)) None) (sym is)

pub octet_kept : (id : List ℕ) (taken : Bool) (c : ℕ) (next out : List ℕ) → Keep ≡ id_step taken c → next ≡ id ++ c ∷ []
    → TakesOctet id taken c next false out out
octet_kept id taken c next out is next_is = record {
  part = [];
  appended = sym (append-nil out);
  goes_on = λ rest. goes id taken c rest Keep is ∙ ap (λ i. ids_from i false rest) (sym next_is)
      ∙ sym (joined_none [] (ids_from next false rest) refl);
}

pub octet_escapes : (id : List ℕ) (taken : Bool) (c : ℕ) (out : List ℕ) → Escape ≡ id_step taken c → TakesOctet id taken c id true out out
octet_escapes id taken c out is = record {
  part = [];
  appended = sym (append-nil out);
  goes_on = λ rest. goes id taken c rest Escape is ∙ sym (joined_none [] (ids_from id true rest) refl);
}

pub octet_ends : (id : List ℕ) (taken : Bool) (c : ℕ) (next old new part : List ℕ) → End ≡ id_step taken c → counted_id id ≡ Some part
    → new ≡ old ++ part → next ≡ [] → TakesOctet id taken c next false old new
octet_ends id taken c next old new part is counted new_is next_is = record {
  part = part;
  appended = new_is;
  goes_on = λ rest. goes id taken c rest End is ∙ ap (λ p. joined_ids p (ids_from [] false rest)) counted
      ∙ ap (λ i. joined_ids (Some part) (ids_from i false rest)) (sym next_is);
}

none_joined : (p o : Option (List ℕ)) (ids : List ℕ) → joined_ids p o ≡ Some ids → (part : List ℕ) × (p ≡ Some part)
none_joined None o ids is = absurd (let e = is in cc)
none_joined (Some part) o ids is = (part, refl)

pub octet_no_end : (id : List ℕ) (taken : Bool) (c : ℕ) (ids rest : List ℕ) → End ≡ id_step taken c → ((part : List ℕ) → counted_id id ≡ Some part → ⊥)
    → ids_from id taken (c ∷ rest) ≡ Some ids → ⊥
octet_no_end id taken c ids rest is none whole =
    let found = none_joined (counted_id id) (ids_from [] false rest) ids (sym (goes id taken c rest End is) ∙ whole) in none found.0 found.1

pub octet_wrong : (id : List ℕ) (taken : Bool) (c : ℕ) (ids rest : List ℕ) → Wrong ≡ id_step taken c → ids_from id taken (c ∷ rest) ≡ Some ids → ⊥
octet_wrong id taken c ids rest is whole = let e : None ≡ Some ids = sym (goes id taken c rest Wrong is) ∙ whole in cc

pub ruleset id_steps = (octet_kept, octet_escapes, octet_ends, octet_no_end, octet_wrong)

-- ---- a whole list

-- the octets so far are taken, and identifiers appended
pub record TakesIds (string : List ℕ) (i : ℕ) (id : List ℕ) (taken : Bool) (old new : List ℕ) : Type 0 where
  pub done : List ℕ
  pub appended : new ≡ old ++ done
  pub goes_on : ids_from [] false string ≡ joined_ids (Some done) (ids_from id taken (drop i string))

rest_of : (string : List ℕ) (i : ℕ) → i < length string → drop i string ≡ get_or string i 0 ∷ drop (i + 1) string
rest_of string i below = drop-cons string i 0 below ∙ ap (λ k. get_or string i 0 ∷ drop k string) (sym (add-one i))

pub ids_next : (string : List ℕ) (i : ℕ) (id next_id : List ℕ) (taken next : Bool) (old mid new : List ℕ) → i < length string
    → TakesIds string i id taken old mid → TakesOctet id taken (get_or string i 0) next_id next mid new → TakesIds string (i + 1) next_id next old new
ids_next string i id next_id taken next old mid new below so step = record {
  done = so.done ++ step.part;
  appended = step.appended ∙ ap (λ m. m ++ step.part) so.appended ∙ append_assoc old so.done step.part;
  goes_on = so.goes_on ∙ ap (λ r. joined_ids (Some so.done) (ids_from id taken r)) (rest_of string i below)
      ∙ ap (λ o. joined_ids (Some so.done) o) (step.goes_on (drop (i + 1) string))
      ∙ joined_twice so.done step.part (ids_from next_id next (drop (i + 1) string));
}

later_some : (done : List ℕ) (o : Option (List ℕ)) (ids : List ℕ) → joined_ids (Some done) o ≡ Some ids → (part : List ℕ) × (o ≡ Some part)
later_some done None ids is = absurd (let e = is in cc)
later_some done (Some part) ids is = (part, refl)

pub ids_refused : (string : List ℕ) (i : ℕ) (id : List ℕ) (taken : Bool) (old mid : List ℕ) → i < length string → TakesIds string i id taken old mid
    → ((v : List ℕ) → ((rest : List ℕ) × (ids_from id taken (get_or string i 0 ∷ rest) ≡ Some v)) → ⊥)
    → (ids : List ℕ) → ids_from [] false string ≡ Some ids → ⊥
ids_refused string i id taken old mid below so none ids whole =
    let found = later_some so.done _ ids (sym so.goes_on ∙ whole) in
    none found.0 (drop (i + 1) string, ap (ids_from id taken) (sym (rest_of string i below)) ∙ found.1)

all_taken : (string : List ℕ) (i : ℕ) → length string ≤ i → drop i string ≡ []
all_taken string i over = grind (arith, common_steps)

pub ids_end : (string : List ℕ) (i : ℕ) (id old mid new part : List ℕ) → length string ≤ i → TakesIds string i id false old mid
    → counted_id id ≡ Some part → new ≡ mid ++ part → (ids : List ℕ) × (ids_from [] false string ≡ Some ids) × (new ≡ old ++ ids)
unfolding ids_from
ids_end string i id old mid new part over so counted new_is = (
  so.done ++ part,
  so.goes_on ∙ ap (λ r. joined_ids (Some so.done) (ids_from id false r)) (all_taken string i over) ∙ ap (λ o. joined_ids (Some so.done) o) counted,
  new_is ∙ ap (λ m. m ++ part) so.appended ∙ append_assoc old so.done part,
)

pub ids_open : (string : List ℕ) (i : ℕ) (id old mid : List ℕ) → length string ≤ i → TakesIds string i id true old mid
    → (ids : List ℕ) → ids_from [] false string ≡ Some ids → ⊥
unfolding ids_from
ids_open string i id old mid over so ids whole =
    let e : None ≡ Some ids = sym (so.goes_on ∙ ap (λ r. joined_ids (Some so.done) (ids_from id true r)) (all_taken string i over)) ∙ whole in cc

pub ids_no_last : (string : List ℕ) (i : ℕ) (id old mid : List ℕ) → length string ≤ i → TakesIds string i id false old mid
    → ((part : List ℕ) → counted_id id ≡ Some part → ⊥) → (ids : List ℕ) → ids_from [] false string ≡ Some ids → ⊥
unfolding ids_from
ids_no_last string i id old mid over so none ids whole =
    let found = later_some so.done (counted_id id) ids (sym (so.goes_on
    ∙ ap (λ r. joined_ids (Some so.done) (ids_from id false r)) (all_taken string i over)) ∙ whole) in
    none found.0 found.1
