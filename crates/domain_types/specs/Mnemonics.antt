-- Numbers that have mnemonics: algorithms of DNSSEC, types of certificates, and schemes of
-- notifications.
use Rattle.std.specs.Prelude.{◌≡◌, ℕ, ◌^◌, ◌<◌, List, [], ◌∷◌, Some, None, codes}
use Rattle.std.specs.Int.{w16, to_be_bytes}
use Rattle.domain_octets.specs.Octets.{Octets}
use Rattle.domain_base.specs.{Scan.IsNumber, Numbers.{Named, number_named}}

abbrev pub numbered : ℕ → Octets → Named
numbered number name = record { number = number; name = name }

-- the algorithms by IANA's mnemonics (RFC 4034, appendix A.1; RFC 5155, section 2; RFC 5702, 5933,
-- 6605 and 8080), and then by those of BIND
abbrev pub algorithm_names : List Named
algorithm_names =
    numbered 1 (codes "RSAMD5")
    ∷ numbered 2 (codes "DH")
    ∷ numbered 3 (codes "DSA")
    ∷ numbered 5 (codes "RSASHA1")
    ∷ numbered 6 (codes "DSA-NSEC3-SHA1")
    ∷ numbered 7 (codes "RSASHA1-NSEC3-SHA1")
    ∷ numbered 8 (codes "RSASHA256")
    ∷ numbered 10 (codes "RSASHA512")
    ∷ numbered 12 (codes "ECC-GOST")
    ∷ numbered 13 (codes "ECDSAP256SHA256")
    ∷ numbered 14 (codes "ECDSAP384SHA384")
    ∷ numbered 15 (codes "ED25519")
    ∷ numbered 16 (codes "ED448")
    ∷ numbered 252 (codes "INDIRECT")
    ∷ numbered 253 (codes "PRIVATEDNS")
    ∷ numbered 254 (codes "PRIVATEOID")
    ∷ numbered 6 (codes "NSEC3DSA")
    ∷ numbered 7 (codes "NSEC3RSASHA1")
    ∷ numbered 12 (codes "ECCGOST")
    ∷ []

-- the types of certificates (RFC 4398, section 2.1)
abbrev pub certificate_names : List Named
certificate_names =
    numbered 1 (codes "PKIX")
    ∷ numbered 2 (codes "SPKI")
    ∷ numbered 3 (codes "PGP")
    ∷ numbered 4 (codes "IPKIX")
    ∷ numbered 5 (codes "ISPKI")
    ∷ numbered 6 (codes "IPGP")
    ∷ numbered 7 (codes "ACPKIX")
    ∷ numbered 8 (codes "IACPKIX")
    ∷ numbered 253 (codes "URI")
    ∷ numbered 254 (codes "OID")
    ∷ []

-- the schemes of notifications (RFC 9859, section 2.1)
abbrev pub scheme_names : List Named
scheme_names = numbered 1 (codes "NOTIFY") ∷ []

-- the number of a mnemonic of the table, in either case, or a number in decimal digits
pub data NumberOrMnemonic (table : List Named) : Octets → ℕ → Type 0 where
  as_mnemonic : (text : Octets) (n : ℕ) → number_named table text ≡ Some n
      → NumberOrMnemonic table text n
  in_decimal : (text : Octets) (n : ℕ) → number_named table text ≡ None → IsNumber 32 text n
      → NumberOrMnemonic table text n

-- such a number of 8 or 16 bits
abbrev pub ByteOrMnemonic : List Named → Octets → Octets → Type 0
ByteOrMnemonic table text octets = (n : ℕ) × NumberOrMnemonic table text n × (n < 2 ^ 8) × (octets ≡ n ∷ [])

abbrev pub ShortOrMnemonic : List Named → Octets → Octets → Type 0
ShortOrMnemonic table text octets =
    (n : ℕ) × NumberOrMnemonic table text n × (n < 2 ^ 16) × (octets ≡ to_be_bytes w16 n)
