-- Numbers that have names, types and classes of records as text, and serial numbers.
use Rattle.std.specs.Prelude.{◌≡◌, ℕ, ◌==◌, List, [], ◌∷◌, ◌++◌, map, Bool, if◌then◌else◌, Option, Some, None, unwrap_or, nat_eq, codes, ◌+◌, ◌-◌, ◌%◌, ◌^◌}
use Rattle.std.specs.{Prelude.{nat_lt, Result, MatchResult}, Char.to_ascii_lowercase, Cmp.Lexicographic.pointwise, Fmt.decimal, Borrow.Bor}
use Rattle.std.specs.{Str.Parse.without_leading_plus, declared.cmp.Ordering.{Ordering, TheVariants.{Less, Equal, Greater}}}
use Rattle.domain_octets.specs.Octets.{Octets}
use Rattle.domain_base.specs.{Scan.{IsNumber, IsNoNumber}, Classes.in_class}
use Rattle.domain_names.specs.{Text.{ScanFault, illegal, scan_fault_of}, declared.error.ScanError.ScanError}
use Rattle.domain_base.specs.Types as rtypes

-- ---- numbers, some of which have names

-- a number and its name
pub record Named : Type 0 where
  pub number : ℕ
  pub name : Octets

-- whether the texts differ at most in the case of letters
abbrev pub same_text : Octets → Octets → Bool
same_text a b = pointwise nat_eq (map to_ascii_lowercase a) (map to_ascii_lowercase b)

-- the number of a name in the table, in either case
abbrev pub number_named : List Named → Octets → Option ℕ
number_named [] text = None
number_named (entry ∷ table) text =
    if same_text entry.name text then Some entry.number else number_named table text

-- the name of a number in the table
abbrev pub name_of : List Named → ℕ → Option Octets
name_of [] n = None
name_of (entry ∷ table) n = if entry.number == n then Some entry.name else name_of table n

-- the text is the prefix, in either case, followed by the rest
pub record HasPrefix (prefix text rest : Octets) : Type 0 where
  pub front : Octets
  pub parts : text ≡ front ++ rest
  pub same : map to_ascii_lowercase front ≡ map to_ascii_lowercase prefix

abbrev pub IsWithoutPrefix : Octets → Octets → Type 0
IsWithoutPrefix prefix text = (rest : Octets) → HasPrefix prefix text rest → ⊥

-- a name in either case, or the prefix in either case and then a decimal number of 16 bits
pub data NumberText (table : List Named) (prefix : Octets) : Octets → ℕ → Type 0 where
  by_name : (text : Octets) (n : ℕ) → number_named table text ≡ Some n
      → NumberText table prefix text n
  by_number : (text digits : Octets) (n : ℕ) → number_named table text ≡ None
      → HasPrefix prefix text digits → IsNumber 16 digits n → NumberText table prefix text n

-- the name of a number, or the prefix and the number in decimal digits
abbrev pub number_text : List Named → Octets → ℕ → Octets
number_text table prefix n = unwrap_or (name_of table n) (prefix ++ decimal n)

-- a table of the code, as a list of numbers with their names
abbrev pub entries : List (ℕ × Bor Octets) → List Named
entries = map (λ entry. record { number = entry.0; name = entry.1.now })

-- ---- types and classes of records as text

-- the types that have a name, in the order of the code's table
abbrev pub type_names : List Named
type_names =
    record { number = rtypes.ns; name = codes "NS" }
    ∷ record { number = rtypes.a; name = codes "A" }
    ∷ record { number = rtypes.ds; name = codes "DS" }
    ∷ record { number = rtypes.rrsig; name = codes "RRSIG" }
    ∷ record { number = rtypes.nsec; name = codes "NSEC" }
    ∷ record { number = rtypes.aaaa; name = codes "AAAA" }
    ∷ record { number = rtypes.mx; name = codes "MX" }
    ∷ record { number = rtypes.txt; name = codes "TXT" }
    ∷ record { number = rtypes.soa; name = codes "SOA" }
    ∷ record { number = rtypes.ptr; name = codes "PTR" }
    ∷ record { number = rtypes.cname; name = codes "CNAME" }
    ∷ record { number = rtypes.dnskey; name = codes "DNSKEY" }
    ∷ record { number = rtypes.nsec3; name = codes "NSEC3" }
    ∷ record { number = rtypes.nsec3param; name = codes "NSEC3PARAM" }
    ∷ record { number = 13; name = codes "HINFO" }
    ∷ record { number = rtypes.srv; name = codes "SRV" }
    ∷ record { number = 35; name = codes "NAPTR" }
    ∷ record { number = rtypes.dname; name = codes "DNAME" }
    ∷ record { number = 44; name = codes "SSHFP" }
    ∷ record { number = 52; name = codes "TLSA" }
    ∷ record { number = 59; name = codes "CDS" }
    ∷ record { number = 60; name = codes "CDNSKEY" }
    ∷ record { number = 62; name = codes "CSYNC" }
    ∷ record { number = 63; name = codes "ZONEMD" }
    ∷ record { number = 64; name = codes "SVCB" }
    ∷ record { number = 65; name = codes "HTTPS" }
    ∷ record { number = 99; name = codes "SPF" }
    ∷ record { number = 257; name = codes "CAA" }
    ∷ []

-- the text is the name of a type in either case, or TYPE and its number (RFC 3597, section 5)
abbrev pub TypeText : Octets → ℕ → Type 0
TypeText = NumberText type_names (codes "TYPE")

abbrev pub type_text : ℕ → Octets
type_text = number_text type_names (codes "TYPE")

-- the text spells no type, and this is the fault
pub record IsNoType (fault : ScanFault) (text : Octets) : Type 0 where
  pub said : fault ≡ illegal (codes "unknown record type")
  pub none : (n : ℕ) → TypeText text n → ⊥

-- the classes that have a name
abbrev pub class_names : List Named
class_names =
    record { number = in_class; name = codes "IN" }
    ∷ record { number = 3; name = codes "CH" }
    ∷ record { number = 4; name = codes "HS" }
    ∷ []

-- the text is the name of a class in either case, or CLASS and its number (RFC 3597, section 5)
abbrev pub ClassText : Octets → ℕ → Type 0
ClassText = NumberText class_names (codes "CLASS")

abbrev pub class_text : ℕ → Octets
class_text = number_text class_names (codes "CLASS")

-- the text spells no class, and this is the fault
pub record IsNoClass (fault : ScanFault) (text : Octets) : Type 0 where
  pub said : fault ≡ illegal (codes "unknown class")
  pub none : (n : ℕ) → ClassText text n → ⊥

-- ---- serial numbers (RFC 1982)

-- how far `b` is ahead of `a` in the circle
abbrev pub serial_distance : ℕ → ℕ → ℕ
serial_distance a b = (b + 2 ^ 32 - a) % 2 ^ 32

-- a number is after those that it is ahead of by less than half the circle, and has no order with
-- the one that is exactly half the circle away (RFC 1982, section 3.2)
abbrev pub serial_cmp : ℕ → ℕ → Option Ordering
serial_cmp a b =
    let ahead = serial_distance a b in
    if ahead == 0 then Some Equal
    else (if nat_lt ahead (2 ^ 31) then Some Less
    else (if ahead == 2 ^ 31 then None else Some Greater))

-- the result of reading a text as a serial number: the number, which may have one plus sign before
-- it, or the fault if there is none
abbrev pub ReadsSerial : Octets → Result ℕ ScanError → Type 0
ReadsSerial text result =
    MatchResult result (IsNumber 32 (without_leading_plus text))
    (λ e. IsNoNumber 32 (scan_fault_of e) (without_leading_plus text))
