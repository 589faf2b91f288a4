-- Values and parameters as text.
use Rattle.std.proofs.Common.{◌≡◌, ℕ, ◌^◌, ◌<◌, ◌≤◌, List, [], ◌∷◌, ◌++◌, length, refl, sym, ap, ◌∙◌, subst, arith, true, false, Bool, Option, Some}
use Rattle.std.proofs.Common.{None, map}
use Rattle.std.proofs.NetLemmas.Theorems.{IsIpv4Text_unique, IsIpv6Text_unique}
use Rattle.std.specs.{Int.{w16, to_be_bytes}, List.concat, Net.{Grammar.IsDotted, Addr.{ipv4_octets, ipv6_octets}}, Prelude.{Result, Ok}}
use Rattle.domain_svcb.specs.Strings.{SpellsNothing, StringText}
use Rattle.domain_svcb.specs.Keys.{KeyName, KeyNumber, ParameterKeyText, named, numbered, kind_of_key, number_of_name, key_names}
use Rattle.domain_svcb.specs.Values.{Parameter, AddressItem, ids_from, comma_items, ValueText, mandatory_octets, is_value}
use Rattle.domain_svcb.specs.Parameters.{ParameterText, by_name, by_number, key_part, value_part, parameter_fault, RefusesText}
use Rattle.domain_svcb.specs.declared.key.ValueKind.{ValueKind, TheVariants.{Keys, Protocols, Nothing, Port, Ipv4List, Base64, Ipv6List, Text}}
use Rattle.domain_svcb.specs.declared.fault.SpellFault.{SpellFault, TheVariants.{Invalid, OutOfMemory}}
use Rattle.domain_svcb.specs.declared.fault.ParameterFault.{ParameterFault}
use Rattle.domain_svcb.proofs.{KeyLemmas.{one_key, not_named, one_number}, StringLemmas.one_string, ItemLemmas.{one_items, one_keys}}

-- ---- a text spells one value

one_address : (is_long : Bool) (text a b : List ℕ) → AddressItem is_long text a → AddressItem is_long text b → a ≡ b
one_address false text a b is other = ap ipv4_octets (IsIpv4Text_unique text (record { octets = a }) (record { octets = b }) is other)
one_address true text a b is other = is.2 ∙ ap ipv6_octets (IsIpv6Text_unique text is.0 other.0 is.1 other.1) ∙ sym other.2

pub one_value : (kind : ValueKind) (text a b : List ℕ) → ValueText kind text a → ValueText kind text b → a ≡ b
one_value Keys text a b is other = is.2 ∙ ap (λ ks. concat (map mandatory_octets ks)) (one_keys (comma_items text) [] is.0 other.0 is.1 other.1) ∙ sym other.2
one_value Protocols text a b is other =
    let same = one_string text is.0 other.0 is.1 other.1 in
    let e : ◌≡◌ {A = Option (List ℕ)} (Some a) (Some b) = sym is.2 ∙ ap (ids_from [] false) same ∙ other.2 in cc
one_value Nothing text a b is other = is.1 ∙ sym other.1
one_value Port text a b is other = is.2 ∙ ap (to_be_bytes w16) (is.1.value ∙ sym other.1.value) ∙ sym other.2
one_value Ipv4List text a b is other = one_items (AddressItem false) (one_address false) (comma_items text) a b is other
one_value Base64 text a b is other = let e = sym is ∙ other in cc
one_value Ipv6List text a b is other = one_items (AddressItem true) (one_address true) (comma_items text) a b is other
one_value Text text a b is other = one_string text a b is other

pub long_value : (kind : ValueKind) (text long value : List ℕ) → ValueText kind text long → 65535 < length long
    → ValueText kind text value × (length value < 65536) → ⊥
long_value kind text long value is over has = omega (arith, over, has.1, ap length (one_value kind text long value is has.0))

pub long_string : (text long value : List ℕ) → StringText text long → 65535 < length long → StringText text value → length value < 65536 → ⊥
long_string text long value is over has fits = omega (arith, over, fits, ap length (one_string text long value is has))

pub other_string : (kind : ValueKind) (text other value : List ℕ) → StringText text other → is_value kind other ≡ false
    → StringText text value → is_value kind value ≡ true → ⊥
other_string kind text other value is bad has good = let same = ap (is_value kind) (one_string text other value is has) in cc

-- ---- a text spells one parameter

same_parameter : (p q : Parameter) → p.key ≡ q.key → p.value ≡ q.value → p ≡ q
same_parameter p q key value =
    let Make : ℕ → List ℕ → Parameter = λ k v. record { key = k; value = v } in ap (λ k. Make k p.value) key ∙ ap (λ v. Make q.key v) value

pub one_parameter : (text : List ℕ) (p q : Parameter) → ParameterText text p → ParameterText text q → p ≡ q
one_parameter text p q (by_name key value fits) (by_name other_key other_value other_fits) =
    let k : p.key ≡ q.key = one_key (key_part text) p.key q.key (named key) (named other_key) in
    let v : p.value ≡ q.value = one_value (kind_of_key q.key) (value_part text) p.value q.value
    (subst (λ n. ValueText (kind_of_key n) (value_part text) p.value) k value) other_value in
    same_parameter p q k v
one_parameter text p q (by_name key value fits) (by_number other_key other_value good other_fits) =
    absurd (not_named (key_part text) p.key q.key key other_key)
one_parameter text p q (by_number key value good fits) (by_name other_key other_value other_fits) =
    absurd (not_named (key_part text) q.key p.key other_key key)
one_parameter text p q (by_number key value good fits) (by_number other_key other_value other_good other_fits) =
    same_parameter p q (one_number (key_part text) p.key q.key key other_key) (one_string (value_part text) p.value q.value value other_value)

-- ---- texts that spell no parameter

no_named : (text : List ℕ) (key : ℕ) → KeyName (key_part text) key
    → ((value : List ℕ) → ValueText (kind_of_key key) (value_part text) value × (length value < 65536) → ⊥)
    → (p : Parameter) → ParameterText text p → ⊥
no_named text key name none p (by_name other value fits) =
    let same = one_key (key_part text) p.key key (named other) (named name) in
    none p.value (subst (λ n. ValueText (kind_of_key n) (value_part text) p.value) same value, fits)
no_named text key name none p (by_number other value good fits) = not_named (key_part text) key p.key name other

pub named_refused : (text : List ℕ) (key : ℕ) (fault : SpellFault) → KeyName (key_part text) key
    → SpellsNothing (λ value. ValueText (kind_of_key key) (value_part text) value × (length value < 65536)) fault
    → RefusesText text (parameter_fault (kind_of_key key) fault)
named_refused text key Invalid name none = ((key, named name, refl), no_named text key name none)
named_refused text key OutOfMemory name none = tt

no_numbered : (text : List ℕ) (key : ℕ) → KeyNumber (key_part text) key
    → ((value : List ℕ) → StringText (value_part text) value × (is_value (kind_of_key key) value ≡ true) × (length value < 65536) → ⊥)
    → (p : Parameter) → ParameterText text p → ⊥
no_numbered text key number none p (by_name other value fits) = not_named (key_part text) p.key key other number
no_numbered text key number none p (by_number other value good fits) =
    let same = one_number (key_part text) p.key key other number in
    none p.value (value, subst (λ n. is_value (kind_of_key n) p.value ≡ true) same good, fits)

pub numbered_refused : (text : List ℕ) (key : ℕ) (fault : SpellFault) → KeyNumber (key_part text) key
    → SpellsNothing (λ value. StringText (value_part text) value × (is_value (kind_of_key key) value ≡ true) × (length value < 65536)) fault
    → RefusesText text (parameter_fault (kind_of_key key) fault)
numbered_refused text key Invalid number none = ((key, numbered number, refl), no_numbered text key number none)
numbered_refused text key OutOfMemory number none = tt

-- ---- what the code finds out of a text

pub named_fault : (text key_text value_text : List ℕ) (key : ℕ) (kind : ValueKind) (fault : SpellFault) (result : ParameterFault)
    → key_text ≡ key_part text → value_text ≡ value_part text → kind ≡ kind_of_key key → KeyName key_text key
    → SpellsNothing (λ value. ValueText kind value_text value × (length value < 65536)) fault → result ≡ parameter_fault kind fault
    → RefusesText text result
named_fault text key_text value_text key kind fault result key_is value_is kind_is name none is =
    let at_kind = subst (λ k. SpellsNothing (λ value. ValueText k value_text value × (length value < 65536)) fault) kind_is none in
    let at_value = subst (λ t. SpellsNothing (λ value. ValueText (kind_of_key key) t value × (length value < 65536)) fault) value_is at_kind in
    subst (RefusesText text) (sym (is ∙ ap (λ k. parameter_fault k fault) kind_is))
    (named_refused text key fault (subst (λ t. KeyName t key) key_is name) at_value)

pub numbered_fault : (text key_text value_text : List ℕ) (key : ℕ) (kind : ValueKind) (fault : SpellFault) (result : ParameterFault)
    → key_text ≡ key_part text → value_text ≡ value_part text → kind ≡ kind_of_key key → KeyNumber key_text key
    → SpellsNothing (λ value. StringText value_text value × (is_value kind value ≡ true) × (length value < 65536)) fault
    → result ≡ parameter_fault kind fault → RefusesText text result
numbered_fault text key_text value_text key kind fault result key_is value_is kind_is number none is =
    let at_kind = subst (λ k. SpellsNothing (λ value. StringText value_text value × (is_value k value ≡ true) × (length value < 65536)) fault)
    kind_is none in
    let at_value = subst (λ t. SpellsNothing (λ value. StringText t value × (is_value (kind_of_key key) value ≡ true) × (length value < 65536)) fault)
    value_is at_kind in
    subst (RefusesText text) (sym (is ∙ ap (λ k. parameter_fault k fault) kind_is))
    (numbered_refused text key fault (subst (λ t. KeyNumber t key) key_is number) at_value)
