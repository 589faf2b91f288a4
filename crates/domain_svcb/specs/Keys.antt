-- The keys of parameters (RFC 9460, sections 2.1 and 14.3; RFC 9461, section 5; RFC 9540, section 4).
use Rattle.std.specs.Prelude.{◌≡◌, ℕ, ◌^◌, ◌<◌, ◌==◌, List, [], ◌∷◌, ◌++◌, Option, Some, None, codes, if◌then◌else◌, nat_eq}
use Rattle.std.specs.{Cmp.Lexicographic.pointwise, Fmt.decimal}
use Rattle.domain_octets.specs.Octets.{Octets}
use Rattle.domain_base.specs.Numbers.{Named}
use Rattle.domain_svcb.specs.declared.key.ValueKind.{ValueKind, TheVariants.{Keys, Protocols, Nothing, Port, Ipv4List, Base64, Ipv6List, Text}}

abbrev pub keyed : ℕ → Octets → Named
keyed number name = record { number = number; name = name }

-- the keys that have names
abbrev pub key_names : List Named
key_names =
    keyed 0 (codes "mandatory")
    ∷ keyed 1 (codes "alpn")
    ∷ keyed 2 (codes "no-default-alpn")
    ∷ keyed 3 (codes "port")
    ∷ keyed 4 (codes "ipv4hint")
    ∷ keyed 5 (codes "ech")
    ∷ keyed 6 (codes "ipv6hint")
    ∷ keyed 7 (codes "dohpath")
    ∷ keyed 8 (codes "ohttp")
    ∷ []

-- the number of a name in a table, in lower case
abbrev pub number_of_name : List Named → Octets → Option ℕ
number_of_name [] text = None
number_of_name (entry ∷ table) text =
    if pointwise nat_eq entry.name text then Some entry.number else number_of_name table text

-- the text is the name of this key
abbrev pub KeyName : Octets → ℕ → Type 0
KeyName text key = number_of_name key_names text ≡ Some key

-- the text is `key` and the number of this key, without leading zeros
pub record KeyNumber (text : Octets) (key : ℕ) : Type 0 where
  pub spelled : text ≡ codes "key" ++ decimal key
  pub fits : key < 2 ^ 16

-- the text spells this key
pub data ParameterKeyText (text : Octets) (key : ℕ) : Type 0 where
  named : KeyName text key → ParameterKeyText text key
  numbered : KeyNumber text key → ParameterKeyText text key

-- the kind of the values of a key
abbrev pub kind_of_key : ℕ → ValueKind
kind_of_key key =
    if key == 0 then Keys
    else (if key == 1 then Protocols
    else (if key == 2 then Nothing
    else (if key == 3 then Port
    else (if key == 4 then Ipv4List
    else (if key == 5 then Base64
    else (if key == 6 then Ipv6List
    else (if key == 8 then Nothing else Text)))))))
