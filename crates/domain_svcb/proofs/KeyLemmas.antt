-- Keys as text.
use Rattle.std.proofs.Common.{◌≡◌, ℕ, ◌^◌, ◌<◌, ◌≤◌, List, [], ◌∷◌, ◌++◌, length, get_or, refl, sym, ap, ◌∙◌, subst, arith, true, false, Option}
use Rattle.std.proofs.Common.{Some, None, zero, suc, inl, inr}
use Rattle.std.proofs.lemmas.{Grind.common_steps, Bool.{cases_Bool, Decides.nat_tests}, List.drop_more}
use Rattle.std.proofs.lemmas.{Fmt.{first_decimal, length-decimal-le_succ, decimal-digits_value}, Str.Parse.{numerals_by_value, tells_digits}}
use Rattle.std.specs.{Cmp.Lexicographic.pointwise, Fmt.decimal, Str.Parse.{AllDigits, digits_value}, Prelude.{codes, nat_eq, nat_lt, ◌&&◌, ◌==◌, slice_index}}
use Rattle.domain_base.specs.Scan.{IsNumber}
use Rattle.domain_base.proofs.TextLemmas.{number_back}
use Rattle.domain_svcb.specs.Keys.{key_names, number_of_name, KeyName, KeyNumber, ParameterKeyText, named, numbered}

-- ---- names

pub ruleset name_steps = (common_steps, nat_tests, drop_more)

-- ---- numbers

-- whether the digits begin with a zero and go on
abbrev pub leads : List ℕ → Type 0
leads digits = (nat_lt 1 (length digits) && slice_index digits 0 == 48) ≡ true

no_lead : (key : ℕ) → key < 65536 → (nat_lt 1 (length (decimal key)) && slice_index (decimal key) 0 == 48) ≡ false
no_lead zero small = let short : length (decimal 0) ≤ 1 = length-decimal-le_succ 0 (omega arith) in grind (arith, common_steps, nat_tests)
no_lead (suc k) small = grind (arith, common_steps, nat_tests, (first_decimal (suc k) (omega arith) (omega (arith, small))))

pub key_number : (text digits : List ℕ) (n : ℕ) → text ≡ codes "key" ++ digits
    → (nat_lt 1 (length digits) && slice_index digits 0 == 48) ≡ false → IsNumber 16 digits n → KeyNumber text n
key_number text digits n is plain number =
    let lead : get_or digits 0 0 ≡ 48 → length digits ≡ 1 = λ zero_first. grind (arith, common_steps, nat_tests, number.digits.0) in
    let written = decimal-digits_value (numerals_by_value (AllDigits 10) tells_digits) digits number.digits.1
    number.digits.0 lead (omega (arith, number.fits)) in
    record {
      spelled = is ∙ ap (λ d. codes "key" ++ d) (sym written ∙ ap decimal (sym number.value));
      fits = omega (arith, number.fits, number.value);
    }

rest_is : (text digits : List ℕ) (key : ℕ) → text ≡ codes "key" ++ digits → KeyNumber text key → digits ≡ decimal key
rest_is text digits key is has = let e : codes "key" ++ digits ≡ codes "key" ++ decimal key = sym is ∙ has.spelled in cc

pub no_key_zero : (text digits : List ℕ) (key : ℕ) → text ≡ codes "key" ++ digits
    → (nat_lt 1 (length digits) && slice_index digits 0 == 48) ≡ true → KeyNumber text key → ⊥
no_key_zero text digits key is zero_first has =
    let plain = no_lead key has.fits in
    let same = ap (λ d. nat_lt 1 (length d) && slice_index d 0 == 48) (rest_is text digits key is has) in
    cc

pub no_key_digits : (text digits : List ℕ) (key : ℕ) → text ≡ codes "key" ++ digits → ((n : ℕ) → IsNumber 16 digits n → ⊥) → KeyNumber text key → ⊥
no_key_digits text digits key is none has =
    none key (subst (λ d. IsNumber 16 d key) (sym (rest_is text digits key is has)) (number_back 16 key has.fits (omega (arith, has.fits))))

pub no_key_front : (text : List ℕ) (key : ℕ) → ((rest : List ℕ) → text ≡ codes "key" ++ rest → ⊥) → KeyNumber text key → ⊥
no_key_front text key none has = none (decimal key) has.spelled

pub ruleset key_steps = (common_steps, key_number, no_key_zero, no_key_digits, no_key_front)

-- ---- a text spells one key

number_has_no_name : (digits : List ℕ) → number_of_name key_names (codes "key" ++ digits) ≡ None
number_has_no_name digits = refl

pub not_named : (text : List ℕ) (n m : ℕ) → KeyName text n → KeyNumber text m → ⊥
not_named text n m name number =
    let e : ◌≡◌ {A = Option ℕ} (Some n) None = sym name ∙ ap (number_of_name key_names) number.spelled ∙ number_has_no_name (decimal m) in cc

pub one_number : (text : List ℕ) (n m : ℕ) → KeyNumber text n → KeyNumber text m → n ≡ m
one_number text n m is other =
    let same : decimal n ≡ decimal m = rest_is text (decimal n) m is.spelled other in
    let back = number_back 16 n is.fits (omega (arith, is.fits)) in
    let there = number_back 16 m other.fits (omega (arith, other.fits)) in
    back.value ∙ ap (λ d. digits_value 10 d) same ∙ sym there.value

pub one_key : (text : List ℕ) (n m : ℕ) → ParameterKeyText text n → ParameterKeyText text m → n ≡ m
one_key text n m (named is) (named other) = let e : ◌≡◌ {A = Option ℕ} (Some n) (Some m) = sym is ∙ other in cc
one_key text n m (named is) (numbered other) = absurd (not_named text n m is other)
one_key text n m (numbered is) (named other) = absurd (not_named text m n other is)
one_key text n m (numbered is) (numbered other) = one_number text n m is other
