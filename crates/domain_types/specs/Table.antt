-- The types of records: a row for each type of IANA's registry "Resource Record (RR) TYPEs".
use Rattle.std.specs.Prelude.{ℕ, ◌==◌, List, [], ◌∷◌, map, Option, codes, if◌then◌else◌}
use Rattle.domain_octets.specs.Octets.{Octets}
use Rattle.domain_base.specs.Numbers.{Named, NumberText, name_of}
use Rattle.domain_types.specs.declared.field.Field.{Field, TheVariants.{Number8, Number16, Number32, Algorithm, Scheme, CertificateType, RecordType}}
use Rattle.domain_types.specs.declared.field.Field.TheVariants.{Period, Time, LoweredName, Name, Ipv4, Ipv6, CharacterString, Tag, Salt, HashedOwner}
use Rattle.domain_types.specs.declared.field.Field.TheVariants.{Locator64, Eui48, Eui64, Prefix}
use Rattle.domain_types.specs.declared.field.Tail.{Tail, TheVariants.{Nothing, Base16, Base64, Quoted, Opaque, Types, Parameters, Many, AtLeastOne, AtMostOne}}
use Rattle.domain_types.specs.declared.field.Tail.TheVariants.{GatewayAndKey, FlagAndRelay, IdentityAndServers, Coordinates}
use Rattle.domain_types.specs.declared.table.Row.{Row}

-- a type: its number, its mnemonic, the fields of its data, and what follows them
pub record TypeRow : Type 0 where
  pub number : ℕ
  pub mnemonic : Octets
  pub fields : List Field
  pub tail : Tail

-- a row of the code's table
abbrev pub type_row : Row → TypeRow
type_row r = record { number = r.0; mnemonic = r.1.now; fields = r.2.now; tail = r.3 }

abbrev pub type_of : ℕ → Octets → List Field → Tail → TypeRow
type_of number mnemonic fields tail =
    record { number = number; mnemonic = mnemonic; fields = fields; tail = tail }

-- all types, in the order of the code's table
unfoldable pub type_rows : List TypeRow
type_rows =
    type_of 2 (codes "NS") (LoweredName ∷ []) Nothing
    ∷ type_of 1 (codes "A") (Ipv4 ∷ []) Nothing
    ∷ type_of 43 (codes "DS") (Number16 ∷ Algorithm ∷ Number8 ∷ []) Base16
    ∷ type_of 46 (codes "RRSIG") (RecordType ∷ Algorithm ∷ Number8 ∷ Number32 ∷ Time ∷ Time
    ∷ Number16 ∷ LoweredName ∷ []) Base64
    ∷ type_of 47 (codes "NSEC") (Name ∷ []) Types
    ∷ type_of 28 (codes "AAAA") (Ipv6 ∷ []) Nothing
    ∷ type_of 15 (codes "MX") (Number16 ∷ LoweredName ∷ []) Nothing
    ∷ type_of 16 (codes "TXT") [] (AtLeastOne CharacterString)
    ∷ type_of 6 (codes "SOA") (LoweredName ∷ LoweredName ∷ Number32 ∷ Period ∷ Period ∷ Period
    ∷ Period ∷ []) Nothing
    ∷ type_of 12 (codes "PTR") (LoweredName ∷ []) Nothing
    ∷ type_of 5 (codes "CNAME") (LoweredName ∷ []) Nothing
    ∷ type_of 48 (codes "DNSKEY") (Number16 ∷ Number8 ∷ Algorithm ∷ []) Base64
    ∷ type_of 50 (codes "NSEC3") (Number8 ∷ Number8 ∷ Number16 ∷ Salt ∷ HashedOwner ∷ []) Types
    ∷ type_of 51 (codes "NSEC3PARAM") (Number8 ∷ Number8 ∷ Number16 ∷ Salt ∷ []) Nothing
    ∷ type_of 13 (codes "HINFO") (CharacterString ∷ CharacterString ∷ []) Nothing
    ∷ type_of 33 (codes "SRV") (Number16 ∷ Number16 ∷ Number16 ∷ LoweredName ∷ []) Nothing
    ∷ type_of 35 (codes "NAPTR") (Number16 ∷ Number16 ∷ CharacterString ∷ CharacterString
    ∷ CharacterString ∷ LoweredName ∷ []) Nothing
    ∷ type_of 39 (codes "DNAME") (LoweredName ∷ []) Nothing
    ∷ type_of 44 (codes "SSHFP") (Number8 ∷ Number8 ∷ []) Base16
    ∷ type_of 52 (codes "TLSA") (Number8 ∷ Number8 ∷ Number8 ∷ []) Base16
    ∷ type_of 59 (codes "CDS") (Number16 ∷ Algorithm ∷ Number8 ∷ []) Base16
    ∷ type_of 60 (codes "CDNSKEY") (Number16 ∷ Number8 ∷ Algorithm ∷ []) Base64
    ∷ type_of 62 (codes "CSYNC") (Number32 ∷ Number16 ∷ []) Types
    ∷ type_of 63 (codes "ZONEMD") (Number32 ∷ Number8 ∷ Number8 ∷ []) Base16
    ∷ type_of 64 (codes "SVCB") (Number16 ∷ Name ∷ []) Parameters
    ∷ type_of 65 (codes "HTTPS") (Number16 ∷ Name ∷ []) Parameters
    ∷ type_of 99 (codes "SPF") [] (AtLeastOne CharacterString)
    ∷ type_of 257 (codes "CAA") (Number8 ∷ Tag ∷ []) Quoted
    ∷ type_of 3 (codes "MD") (LoweredName ∷ []) Nothing
    ∷ type_of 4 (codes "MF") (LoweredName ∷ []) Nothing
    ∷ type_of 7 (codes "MB") (LoweredName ∷ []) Nothing
    ∷ type_of 8 (codes "MG") (LoweredName ∷ []) Nothing
    ∷ type_of 9 (codes "MR") (LoweredName ∷ []) Nothing
    ∷ type_of 10 (codes "NULL") [] Opaque
    ∷ type_of 11 (codes "WKS") (Ipv4 ∷ Number8 ∷ []) Opaque
    ∷ type_of 14 (codes "MINFO") (LoweredName ∷ LoweredName ∷ []) Nothing
    ∷ type_of 17 (codes "RP") (LoweredName ∷ LoweredName ∷ []) Nothing
    ∷ type_of 18 (codes "AFSDB") (Number16 ∷ LoweredName ∷ []) Nothing
    ∷ type_of 19 (codes "X25") (CharacterString ∷ []) Nothing
    ∷ type_of 20 (codes "ISDN") (CharacterString ∷ []) (AtMostOne CharacterString)
    ∷ type_of 21 (codes "RT") (Number16 ∷ LoweredName ∷ []) Nothing
    ∷ type_of 22 (codes "NSAP") [] Opaque
    ∷ type_of 23 (codes "NSAP-PTR") (Name ∷ []) Nothing
    ∷ type_of 24 (codes "SIG") (RecordType ∷ Algorithm ∷ Number8 ∷ Number32 ∷ Time ∷ Time
    ∷ Number16 ∷ LoweredName ∷ []) Base64
    ∷ type_of 25 (codes "KEY") (Number16 ∷ Number8 ∷ Algorithm ∷ []) Base64
    ∷ type_of 26 (codes "PX") (Number16 ∷ LoweredName ∷ LoweredName ∷ []) Nothing
    ∷ type_of 27 (codes "GPOS") (CharacterString ∷ CharacterString ∷ CharacterString ∷ []) Nothing
    ∷ type_of 29 (codes "LOC") [] Coordinates
    ∷ type_of 30 (codes "NXT") (LoweredName ∷ []) Opaque
    ∷ type_of 31 (codes "EID") [] Opaque
    ∷ type_of 32 (codes "NIMLOC") [] Opaque
    ∷ type_of 34 (codes "ATMA") [] Opaque
    ∷ type_of 36 (codes "KX") (Number16 ∷ LoweredName ∷ []) Nothing
    ∷ type_of 37 (codes "CERT") (CertificateType ∷ Number16 ∷ Algorithm ∷ []) Base64
    ∷ type_of 38 (codes "A6") [] Opaque
    ∷ type_of 40 (codes "SINK") (Number8 ∷ Number8 ∷ Number8 ∷ []) Base64
    ∷ type_of 41 (codes "OPT") [] Opaque
    ∷ type_of 42 (codes "APL") [] (Many Prefix)
    ∷ type_of 45 (codes "IPSECKEY") (Number8 ∷ []) GatewayAndKey
    ∷ type_of 49 (codes "DHCID") [] Base64
    ∷ type_of 53 (codes "SMIMEA") (Number8 ∷ Number8 ∷ Number8 ∷ []) Base16
    ∷ type_of 55 (codes "HIP") [] IdentityAndServers
    ∷ type_of 56 (codes "NINFO") [] (AtLeastOne CharacterString)
    ∷ type_of 57 (codes "RKEY") (Number16 ∷ Number8 ∷ Algorithm ∷ []) Base64
    ∷ type_of 58 (codes "TALINK") (Name ∷ Name ∷ []) Nothing
    ∷ type_of 61 (codes "OPENPGPKEY") [] Base64
    ∷ type_of 66 (codes "DSYNC") (RecordType ∷ Scheme ∷ Number16 ∷ Name ∷ []) Nothing
    ∷ type_of 67 (codes "HHIT") [] Base64
    ∷ type_of 68 (codes "BRID") [] Base64
    ∷ type_of 100 (codes "UINFO") [] Opaque
    ∷ type_of 101 (codes "UID") [] Opaque
    ∷ type_of 102 (codes "GID") [] Opaque
    ∷ type_of 103 (codes "UNSPEC") [] Opaque
    ∷ type_of 104 (codes "NID") (Number16 ∷ Locator64 ∷ []) Nothing
    ∷ type_of 105 (codes "L32") (Number16 ∷ Ipv4 ∷ []) Nothing
    ∷ type_of 106 (codes "L64") (Number16 ∷ Locator64 ∷ []) Nothing
    ∷ type_of 107 (codes "LP") (Number16 ∷ Name ∷ []) Nothing
    ∷ type_of 108 (codes "EUI48") (Eui48 ∷ []) Nothing
    ∷ type_of 109 (codes "EUI64") (Eui64 ∷ []) Nothing
    ∷ type_of 128 (codes "NXNAME") [] Opaque
    ∷ type_of 249 (codes "TKEY") [] Opaque
    ∷ type_of 250 (codes "TSIG") [] Opaque
    ∷ type_of 251 (codes "IXFR") [] Opaque
    ∷ type_of 252 (codes "AXFR") [] Opaque
    ∷ type_of 253 (codes "MAILB") [] Opaque
    ∷ type_of 254 (codes "MAILA") [] Opaque
    ∷ type_of 255 (codes "ANY") [] Opaque
    ∷ type_of 256 (codes "URI") (Number16 ∷ Number16 ∷ []) Quoted
    ∷ type_of 258 (codes "AVC") [] (AtLeastOne CharacterString)
    ∷ type_of 259 (codes "DOA") (Number32 ∷ Number32 ∷ Number8 ∷ CharacterString ∷ []) Base64
    ∷ type_of 260 (codes "AMTRELAY") (Number8 ∷ []) FlagAndRelay
    ∷ type_of 261 (codes "RESINFO") [] (AtLeastOne CharacterString)
    ∷ type_of 262 (codes "WALLET") [] (AtLeastOne CharacterString)
    ∷ type_of 263 (codes "CLA") [] (AtLeastOne CharacterString)
    ∷ type_of 264 (codes "IPN") [] Opaque
    ∷ type_of 32768 (codes "TA") (Number16 ∷ Algorithm ∷ Number8 ∷ []) Base16
    ∷ type_of 32769 (codes "DLV") (Number16 ∷ Algorithm ∷ Number8 ∷ []) Base16
    ∷ []

-- the numbers and mnemonics of these rows
abbrev pub names_of : List TypeRow → List Named
names_of = map (λ r. record { number = r.number; name = r.mnemonic })

-- the mnemonic of a type
abbrev pub mnemonic_of : ℕ → Option Octets
mnemonic_of = name_of (names_of type_rows)

-- the text is the mnemonic of a type in either case, or TYPE and its number (RFC 3597, section 5)
abbrev pub MnemonicText : Octets → ℕ → Type 0
MnemonicText = NumberText (names_of type_rows) (codes "TYPE")

-- the row of a type in these rows; a type without a row has octets of any form
abbrev pub row_in : List TypeRow → ℕ → TypeRow
row_in [] t = type_of t [] [] Opaque
row_in (r ∷ rows) t = if r.number == t then r else row_in rows t

-- the fields of the data of a type, and what follows them
abbrev pub fields_of : ℕ → List Field
fields_of t = (row_in type_rows t).fields

abbrev pub tail_of : ℕ → Tail
tail_of t = (row_in type_rows t).tail
