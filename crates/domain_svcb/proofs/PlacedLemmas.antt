-- Parameters in the order of their keys, and the map that holds them.
use Rattle.std.proofs.Common.{◌≡◌, ℕ, ◌<◌, List, [], ◌∷◌, ◌++◌, map, refl, sym, ap, ◌∙◌, subst, arith, true, false, Bool, Option, Some, None}
use Rattle.std.proofs.lemmas.{Grind.common_steps, Bool.Decides.nat_tests}
use Rattle.std.specs.{Prelude.{nat_lt, nat_eq, ◌==◌, is_some}, Ordering.{nat_cmp, is_eq}, Map.lookup, BTreeMap.{insert_entry, is_at}}
use Rattle.domain_svcb.specs.Values.{Parameter, has_key, parameter_placed}
use Rattle.domain_svcb.specs.{Gathered.parameter_of, Parameters.value_of}
use Rattle.domain_svcb.specs.declared.short.ShortValue.{ShortValue}

pub has_key_is : (entries : List (ℕ × ShortValue)) (key : ℕ) → is_some (lookup (is_at (nat_cmp key)) entries) ≡ has_key key (map parameter_of entries)
has_key_is [] key = refl
has_key_is (e ∷ entries) key = grind (arith, common_steps, nat_tests, (has_key_is entries key))

pub value_found : (entries : List (ℕ × ShortValue)) (key : ℕ) (value : ShortValue) → lookup (is_at (nat_cmp key)) entries ≡ Some value
    → value_of key (map parameter_of entries) ≡ value.octets.items
value_found [] key value is = absurd (let e = is in cc)
value_found (e ∷ entries) key value is = grind (arith, common_steps, nat_tests, (value_found entries key value))

pub value_none : (entries : List (ℕ × ShortValue)) (key : ℕ) → lookup (is_at (nat_cmp key)) entries ≡ None
    → value_of key (map parameter_of entries) ≡ []
value_none [] key is = refl
value_none (e ∷ entries) key is = grind (arith, common_steps, nat_tests, (value_none entries key))

pub placed_entry : (entries : List (ℕ × ShortValue)) (key : ℕ) (value : ShortValue) → lookup (is_at (nat_cmp key)) entries ≡ None
    → map parameter_of (insert_entry nat_cmp entries key value) ≡ parameter_placed (parameter_of (key, value)) (map parameter_of entries)
placed_entry [] key value is = refl
placed_entry (e ∷ entries) key value is = grind (arith, common_steps, nat_tests, (placed_entry entries key value))
