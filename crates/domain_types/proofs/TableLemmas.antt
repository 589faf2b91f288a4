-- Types by number and by mnemonic.
use Rattle.std.proofs.Common.{◌≡◌, ℕ, ◌<◌, List, [], ◌∷◌, arith, length, map, take, sym, ap, ◌∙◌}
use Rattle.std.proofs.lemmas.{Grind.common_steps, List.{length-map, take_at}, Bool.Decides.nat_tests}
use Rattle.std.specs.{Char.{to_ascii_lowercase}, Prelude.{codes}}
use Rattle.domain_base.specs.{Scan.{IsNumber}, Numbers.HasPrefix}
use Rattle.std.proofs.Common.{Option, Some, None, refl, rules, ◌++◌}
use Rattle.std.specs.{List.AllByRecursion, Fmt.decimal}
use Rattle.domain_base.specs.Numbers.{Named, name_of, number_named, by_name, by_number}
use Rattle.domain_base.proofs.TextLemmas.{one_named}
use Rattle.domain_base.proofs.TextLemmas.{number_back as decimal_number}
use Rattle.domain_types.specs.Mnemonics.{NumberOrMnemonic, as_mnemonic, in_decimal}
use Rattle.domain_types.specs.Table.{type_rows, row_in, names_of, mnemonic_of, MnemonicText}

-- a text that begins with TYPE has it as its first four octets
pub type_front : (text rest : List ℕ) → HasPrefix (codes "TYPE") text rest → map to_ascii_lowercase (take 4 text) ≡ map to_ascii_lowercase (codes "TYPE")
type_front text rest has =
    let long : length has.front ≡ 4 = sym (length-map has.front to_ascii_lowercase) ∙ ap length has.same in
    ap (λ t. map to_ascii_lowercase (take 4 t)) has.parts ∙ ap (map to_ascii_lowercase) (take_at has.front rest 4 long) ∙ has.same

-- ---- the table

pub rows_stand : AllByRecursion (λ r. row_in type_rows r.number ≡ r) type_rows
unfolding type_rows
rows_stand = search rules

-- each name of these entries stands for its number in the whole table
abbrev NamesStand : List Named → List Named → Type 0
NamesStand table entries = AllByRecursion (λ entry. number_named table entry.name ≡ Some entry.number) entries

names_stand : NamesStand (names_of type_rows) (names_of type_rows)
unfolding type_rows
names_stand = search rules

named_back : (table entries : List Named) (n : ℕ) (name : List ℕ) → NamesStand table entries → name_of entries n ≡ Some name → number_named table name ≡ Some n
named_back table [] n name stand is = absurd (let e = is in cc)
named_back table (entry ∷ entries) n name stand is = grind (arith, common_steps, nat_tests, (named_back table entries n name stand.1))

pub mnemonic_back : (t : ℕ) (name : List ℕ) → mnemonic_of t ≡ Some name → MnemonicText name t
mnemonic_back t name is = by_name name t (named_back (names_of type_rows) (names_of type_rows) t name names_stand is)

type_digits : (digits : List ℕ) → number_named (names_of type_rows) (codes "TYPE" ++ digits) ≡ None
unfolding type_rows
type_digits digits = refl

pub number_back : (t : ℕ) → t < 65536 → MnemonicText (codes "TYPE" ++ decimal t) t
number_back t fits = by_number (codes "TYPE" ++ decimal t) (decimal t) t (type_digits (decimal t)) (record { front = codes "TYPE"; parts = refl; same = refl })
    (decimal_number 16 t fits (omega (arith, fits)))

pub one_type : (text : List ℕ) (x y : ℕ) → MnemonicText text x → MnemonicText text y → x ≡ y
one_type text x y = one_named (names_of type_rows) (codes "TYPE") text x y

-- ---- mnemonics of numbers

-- a text that is no mnemonic of the table and no number
pub not_in_either_way : (table : List Named) (text : List ℕ) (n : ℕ) → number_named table text ≡ None → ((m : ℕ) → IsNumber 32 text m → ⊥)
    → NumberOrMnemonic table text n → ⊥
not_in_either_way table text n none no_number (as_mnemonic t m is) = let e : ◌≡◌ {A = Option ℕ} (Some m) None = sym is ∙ none in cc
not_in_either_way table text n none no_number (in_decimal t m other is) = no_number m is
