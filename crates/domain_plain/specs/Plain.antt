-- Plain data, in the order of the wire, and data of any type in presentation format.
use Rattle.std.specs.{Prelude.{ℕ, ◌≡◌, Option, Some, ◌≢◌, ◌==◌, [], ◌∷◌, ◌++◌, length, codes, if◌then◌else◌}, Net.Addr.ipv4_octets}
use Rattle.std.specs.{List.join_with_byte, Fmt.decimal}
use Rattle.domain_octets.specs.{Octets.Octets, Text.space}
use Rattle.domain_fields.specs.{Layout.{short, long, name, exactly, at_most, rest, Layout, one, ◌▸◌, Values}, Scan.{printed, Spells}}
use Rattle.domain_fields.specs.Scan.{RefusesData, Both, RefusesBoth}
use Rattle.domain_plain.specs.declared.{a.A.A, ns.Ns.Ns, soa.Soa.Soa, mx.Mx.Mx}
use Rattle.domain_names.specs.{Name.{Name, Tokens, Token}, Text.{ScanFault, illegal}}
use Rattle.hex.specs.Hex.{encode_upper}
use Rattle.domain_codecs.specs.declared.codec.Codec.TheVariants.{Base16}
use Rattle.domain_base.specs.Scan.{OneToken, Grammar, Refusal, IsNumber, IsNoNumber, RefusesToken}

-- ---- data of an unknown type, as contracts see them

pub record UnknownData (O : Type 0) : Type 0 where
  pub rtype : ℕ
  pub «data» : O

-- ---- the fields of plain data, in the order of the wire

-- the address (RFC 1035, section 3.4.1)
abbrev pub a_layout : Layout
a_layout = one (exactly 4)

abbrev pub a_values : A → Values a_layout
a_values d = ipv4_octets d.addr

-- the name of the server (RFC 1035, section 3.3.11)
abbrev pub ns_layout : Layout
ns_layout = one name

abbrev pub ns_values : {N : Type 0} → (N → Name) → Ns N → Values ns_layout
ns_values labels d = labels d.nsdname

-- the two names, and serial, refresh, retry, expire and minimum (RFC 1035, section 3.3.13)
abbrev pub soa_layout : Layout
soa_layout = (one name ▸ one name) ▸ (one long ▸ one long ▸ one long) ▸ one long ▸ one long

abbrev pub soa_values : {N : Type 0} → (N → Name) → Soa N → Values soa_layout
soa_values labels d =
    ((labels d.mname, labels d.rname), ((d.serial, (d.refresh, d.retry)), (d.expire, d.minimum)))

-- the preference and the name of the exchange (RFC 1035, section 3.3.9)
abbrev pub mx_layout : Layout
mx_layout = one short ▸ one name

abbrev pub mx_values : {N : Type 0} → (N → Name) → Mx N → Values mx_layout
mx_values labels d = (d.preference, labels d.exchange)

-- the octets as they are, at most as many as a record can hold (RFC 3597, section 5; RFC 1035,
-- section 3.2.1)
abbrev pub unknown_layout : Layout
unknown_layout = one (at_most 65535) ▸ one rest

abbrev pub unknown_values : {O : Type 0} → (O → Octets) → UnknownData O → Values unknown_layout
unknown_values octets d = (tt, octets d.«data»)

-- ---- SOA data over other names, and in presentation format

-- each name is the same as the other one, and the numbers are the same
pub record IsSoaWith {M N : Type 0} (is_same : M → N → Type 0) (source : Soa M)
    (made : Soa N) : Type 0 where
  pub mname : is_same source.mname made.mname
  pub rname : is_same source.rname made.rname
  pub serial : made.serial ≡ source.serial
  pub refresh : made.refresh ≡ source.refresh
  pub retry : made.retry ≡ source.retry
  pub expire : made.expire ≡ source.expire
  pub minimum : made.minimum ≡ source.minimum

-- the two names with their last dots, and the numbers, with single spaces between them
abbrev pub soa_text : {N : Type 0} → (N → Name) → Soa N → Option Octets
soa_text labels d = Some (join_with_byte space (printed soa_layout (soa_values labels d)))

-- ---- data of any type in presentation format (RFC 3597, section 5)

-- the first token of generic text
abbrev pub generic_mark : Token
generic_mark = codes "\\#"

-- the token is the mark; generic text begins with the mark and the number of octets
abbrev pub IsMark : Token → Unit {0} → Type 0
IsMark text mark = text ≡ generic_mark

abbrev pub generic_head : Grammar (Unit {0} × ℕ)
generic_head = Both (OneToken IsMark) (OneToken (IsNumber 16))

-- the tokens spell the octets: the mark and their number, and then Base 16 in any number of tokens
abbrev pub GenericText : Tokens → Octets → Type 0
GenericText tokens octets = Spells generic_head Base16 tokens (tt, length octets) octets

-- the token is not the mark, and this is the fault
pub record IsNoMark (fault : ScanFault) (text : Token) : Type 0 where
  pub said : fault ≡ illegal (codes "illegal data")
  pub other : text ≢ generic_mark

-- the first fault, for octets with this limit, and the tokens that are left after it; the number of
-- octets is compared only if there is room for them
abbrev pub GenericFault : Option ℕ → Refusal
GenericFault limit =
    RefusesData generic_head
    (RefusesBoth (OneToken IsMark) (RefusesToken IsNoMark) (RefusesToken (IsNoNumber 16))) limit
    (λ head octets. head.1 ≢ length octets) (codes "illegal data") Base16

-- the mark, the number of octets, and the octets in upper case; without octets the text ends after
-- the number
abbrev pub generic_text : Octets → Octets
generic_text octets =
    generic_mark ++ space ∷ decimal (length octets)
    ++ (if length octets == 0 then [] else space ∷ encode_upper octets)
