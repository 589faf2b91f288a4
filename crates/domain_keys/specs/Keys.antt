-- DNSKEY and DS data: on the wire, their flags and key tags, and in presentation format.
use Rattle.std.specs.Prelude.{ℕ, ◌==◌, Bool, [], ◌++◌, codes, if◌then◌else◌, ◌+◌, ◌-◌, ◌*◌, ◌/◌, ◌%◌, nat_lt, ◌∷◌, length, slice_index, ◌<◌, ◌≤◌, Option, List}
use Rattle.std.specs.{Fmt.decimal, List.join_with_byte}
use Rattle.domain_octets.specs.{Octets.Octets, Text.{space, PieceText, token, comment, opens, closes}}
use Rattle.domain_fields.specs.{Layout.{has_flag, octet, short, at_most, rest, Layout, one, ◌▸◌, Values, octets_of}, Scan.{Spells, RefusesData, Scans, Refuses}}
use Rattle.domain_codecs.specs.declared.codec.Codec.{Codec}
use Rattle.domain_base.specs.Scan.{Refusal}
use Rattle.domain_names.specs.Name.{Tokens}
use Rattle.hex.specs.Hex.{encode_lower, encode_upper}
use Rattle.base64.specs.{GeneralPurpose.encode_of, Engines.standard}

-- ---- the flags of a key

-- whether signatures of records may be checked with the key (RFC 4034, section 2.1.1)
abbrev pub is_zone_key : ℕ → Bool
is_zone_key = has_flag 256

-- whether the owner of the key no longer trusts it (RFC 5011, section 3)
abbrev pub is_revoked : ℕ → Bool
is_revoked = has_flag 128

-- whether other zones may point to the key (RFC 4034, section 2.1.1)
abbrev pub is_secure_entry_point : ℕ → Bool
is_secure_entry_point = has_flag 1

abbrev pub word_if : Bool → Octets → Octets
word_if set word = if set then word else []

-- the names of the flags that are set
abbrev pub flags_comment : ℕ → Octets
flags_comment flags =
    codes "flags:" ++ word_if (is_revoked flags) (codes " revoked")
    ++ word_if (is_secure_entry_point flags) (codes " sep")
    ++ word_if (is_zone_key flags) (codes " zone_key") ++ word_if (flags == 0) (codes " <none>")

-- ---- DNSKEY and DS data

-- a number of 16 bits, two of 8 bits, and octets
pub record KeyData : Type 0 where
  pub number : ℕ
  pub first : ℕ
  pub second : ℕ
  pub octets : Octets

abbrev pub key_data : ℕ → ℕ → ℕ → Octets → KeyData
key_data number first second octets =
    record { number = number; first = first; second = second; octets = octets }

-- the fields in the order of the wire, for data of at most 65,535 octets
abbrev pub key_fields : Layout
key_fields = one short ▸ one octet ▸ one octet ▸ one (at_most 65531) ▸ one rest

abbrev pub key_values : KeyData → Values key_fields
key_values d = (d.number, (d.first, (d.second, (tt, d.octets))))

-- the octets of the data, in wire form and in canonical form
abbrev pub key_octets : KeyData → Octets
key_octets d = octets_of key_fields (key_values d)

-- the fields of a DNSKEY (RFC 4034, section 2.1)
abbrev pub dnskey_flags : KeyData → ℕ
dnskey_flags d = d.number

abbrev pub dnskey_protocol : KeyData → ℕ
dnskey_protocol d = d.first

abbrev pub dnskey_algorithm : KeyData → ℕ
dnskey_algorithm d = d.second

abbrev pub dnskey_public_key : KeyData → Octets
dnskey_public_key d = d.octets

-- the fields of a DS (RFC 4034, section 5.1)
abbrev pub ds_key_tag : KeyData → ℕ
ds_key_tag d = d.number

abbrev pub ds_algorithm : KeyData → ℕ
ds_algorithm d = d.first

abbrev pub ds_digest_type : KeyData → ℕ
ds_digest_type d = d.second

abbrev pub ds_digest : KeyData → Octets
ds_digest d = d.octets

-- ---- the tag by which records refer to a key (RFC 4034, appendix B)

-- the sum of octets, where those at even positions count 256-fold
abbrev pub weighed : Octets → ℕ
weighed [] = 0
weighed (a ∷ []) = 256 * a
weighed (a ∷ b ∷ octets) = 256 * a + b + weighed octets

-- the sum with the carry above 16 bits added once, modulo 2^16
abbrev pub with_carry : ℕ → ℕ
with_carry sum = (sum + sum / 65536) % 65536

-- the number of the algorithm RSA over MD5 (RFC 4034, appendix A.1)
abbrev pub rsa_md5 : ℕ
rsa_md5 = 1

-- the tag of a key of that algorithm: its third and second octet from the end (RFC 4034, appendix
-- B.1), or 0 if it has fewer than three octets
abbrev pub rsa_md5_tag : Octets → ℕ
rsa_md5_tag key =
    if nat_lt (length key) 3 then 0
    else (256 * slice_index key (length key - 3) + slice_index key (length key - 2))

abbrev pub key_tag_of : KeyData → ℕ
key_tag_of d =
    if dnskey_algorithm d == rsa_md5 then rsa_md5_tag (dnskey_public_key d)
    else with_carry (weighed (key_octets d))

-- ---- data as tokens (RFC 4034, sections 2.2 and 5.3): three numbers, and then octets that all
-- remaining tokens spell together

-- a number of 16 bits and two of 8 bits
abbrev pub three_numbers : Layout
three_numbers = one short ▸ one octet ▸ one octet

-- these numbers, and at most 65,531 octets in a codec: Base 64 for a key, Base 16 for a digest
pub record KeyText (codec : Codec) (tokens : Tokens) (d : KeyData) : Type 0 where
  pub spelled : Spells (Scans three_numbers) codec tokens (d.number, (d.first, d.second)) d.octets
  pub fits : length d.octets ≤ 65531

abbrev pub RefusesKey : Codec → Option ℕ → Refusal
RefusesKey codec limit =
    RefusesData (Scans three_numbers) (Refuses limit three_numbers) limit
    (λ numbers octets. 65531 < length octets) (codes "record data too long") codec

-- ---- data in presentation format (RFC 4034, sections 2.2 and 5.3), and as pieces of zone file
-- text

-- flags, protocol, algorithm, and the key in Base 64, with single spaces
abbrev pub dnskey_text : KeyData → Octets
dnskey_text d =
    join_with_byte space (decimal (dnskey_flags d) ∷ decimal (dnskey_protocol d)
    ∷ decimal (dnskey_algorithm d) ∷ encode_of standard (dnskey_public_key d) ∷ [])

abbrev pub dnskey_pieces : KeyData → List PieceText
dnskey_pieces d =
    opens ∷ token (decimal (dnskey_flags d)) ∷ comment (flags_comment (dnskey_flags d))
    ∷ token (decimal (dnskey_protocol d)) ∷ comment (codes "protocol")
    ∷ token (decimal (dnskey_algorithm d)) ∷ token (encode_of standard (dnskey_public_key d))
    ∷ comment (codes "key tag: " ++ decimal (key_tag_of d)) ∷ closes ∷ []

-- key tag, algorithm, digest type, and the digest in Base 16, in lower case, with single spaces
abbrev pub ds_text : KeyData → Octets
ds_text d =
    join_with_byte space (decimal (ds_key_tag d) ∷ decimal (ds_algorithm d)
    ∷ decimal (ds_digest_type d) ∷ encode_lower (ds_digest d) ∷ [])

-- the pieces of a DS, with the digest in upper case
abbrev pub ds_pieces : KeyData → List PieceText
ds_pieces d =
    opens ∷ token (decimal (ds_key_tag d)) ∷ comment (codes "key tag")
    ∷ token (decimal (ds_algorithm d)) ∷ token (decimal (ds_digest_type d))
    ∷ token (encode_upper (ds_digest d)) ∷ closes ∷ []
