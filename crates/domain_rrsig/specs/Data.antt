-- RRSIG data: times, the order of the wire, and the presentation format.
use Rattle.std.specs.Prelude.{◌≡◌, ◌≢◌, ℕ, ◌+◌, ◌%◌, ◌<◌, ◌≤◌, ◌^◌, length, codes, Result, MatchResult, Option, List, [], ◌∷◌, ◌++◌}
use Rattle.std.specs.{Str.Parse.without_leading_plus, Fmt.decimal, List.join_with_byte}
use Rattle.domain_octets.specs.{Octets.Octets, Text.{space, PieceText, token, comment, opens, closes}}
use Rattle.domain_names.specs.{Text.{ScanFault, illegal, name_text}, Name.{Token, Name, Tokens, IsSame, wire_of}}
use Rattle.domain_base.specs.{Scan.{IsNumber, OneToken, Refusal, Grammar, RefusesToken}, Numbers.{TypeText, IsNoType, type_text}}
use Rattle.domain_fields.specs.Layout.{octet, short, long, name, at_most, rest, Layout, one, ◌▸◌, Values, octets_of, canonical_of}
use Rattle.domain_fields.specs.Scan.{Spells, RefusesData, Scans, Refuses, Both, RefusesBoth}
use Rattle.domain_codecs.specs.declared.codec.Codec.TheVariants.{Base64}
use Rattle.base64.specs.{GeneralPurpose.encode_of, Engines.standard}

-- ---- times of signatures: seconds since 1970 modulo 2^32 (RFC 4034, section 3.1.5)

-- a time with this stamp that is less than 2^31 seconds from the reference, or exactly 2^31 seconds
-- before it
pub record IsNear (stamp reference time : ℕ) : Type 0 where
  pub congruent : time % 2 ^ 32 ≡ stamp
  pub not_before : reference ≤ time + 2 ^ 31
  pub not_after : time < reference + 2 ^ 31

-- the time that is near the reference, or the stamp itself if that time would be before 1970
pub data TimeAt (stamp reference : ℕ) : ℕ → Type 0 where
  nearest : (time : ℕ) → IsNear stamp reference time → TimeAt stamp reference time
  before_1970 : ((time : ℕ) → IsNear stamp reference time → ⊥) → TimeAt stamp reference stamp

-- decimal digits, with at most one plus sign before them; a text of 14 characters would be a date,
-- which is not accepted
pub record TimeText (text : Octets) (stamp : ℕ) : Type 0 where
  pub number : IsNumber 32 (without_leading_plus text) stamp
  pub no_date : length text ≢ 14

-- decimal digits, with at most one plus sign before them, at most 10 characters
pub record TimeToken (text : Token) (stamp : ℕ) : Type 0 where
  pub number : IsNumber 32 (without_leading_plus text) stamp
  pub brief : length text ≤ 10

pub record IsNoTime (fault : ScanFault) (text : Token) : Type 0 where
  pub said : fault ≡ illegal (codes "illegal signature time")
  pub none : (stamp : ℕ) → TimeToken text stamp → ⊥

-- the result of reading a text as a time: the stamp, or an error for a text that has none
abbrev pub ReadsTime : {E : Type 0} → Octets → Result ℕ E → Type 0
ReadsTime text result =
    MatchResult result (TimeText text) (λ e. (stamp : ℕ) → TimeText text stamp → ⊥)

-- ---- RRSIG data, in the order of the wire

-- the part of RRSIG data that is signed (RFC 4034, section 3.1.8.1): all fields except the
-- signature
pub record ProtoRrsigData : Type 0 where
  pub type_covered : ℕ
  pub algorithm : ℕ
  pub labels : ℕ
  pub original_ttl : ℕ
  pub expiration : ℕ
  pub inception : ℕ
  pub key_tag : ℕ
  pub signer_name : Name

abbrev pub proto_rrsig_data : ℕ → ℕ → ℕ → ℕ → ℕ → ℕ → ℕ → Name → ProtoRrsigData
proto_rrsig_data type_covered algorithm labels original_ttl expiration inception key_tag
    signer_name = record {
      type_covered = type_covered;
      algorithm = algorithm;
      labels = labels;
      original_ttl = original_ttl;
      expiration = expiration;
      inception = inception;
      key_tag = key_tag;
      signer_name = signer_name;
    }

-- the fields type covered, algorithm, labels, original TTL, expiration, inception and key tag
abbrev pub rrsig_numbers : Layout
rrsig_numbers = (one short ▸ one octet ▸ one octet) ▸ (one long ▸ one long ▸ one long) ▸ one short

abbrev pub rrsig_numbers_values : ProtoRrsigData → Values rrsig_numbers
rrsig_numbers_values d = (
  (d.type_covered, (d.algorithm, d.labels)),
  ((d.original_ttl, (d.expiration, d.inception)), d.key_tag),
)

-- the fields with these numbers and this name
abbrev pub of_numbers : Values rrsig_numbers → Name → ProtoRrsigData
of_numbers numbers signer_name =
    proto_rrsig_data numbers.0.0 numbers.0.1.0 numbers.0.1.1 numbers.1.0.0 numbers.1.0.1.0
    numbers.1.0.1.1 numbers.1.1 signer_name

-- these numbers and the name of the signer
abbrev pub proto_rrsig : Layout
proto_rrsig = rrsig_numbers ▸ one name

abbrev pub proto_rrsig_values : ProtoRrsigData → Values proto_rrsig
proto_rrsig_values d = (rrsig_numbers_values d, d.signer_name)

-- RRSIG data: the fields, and the signature
pub record RrsigData : Type 0 where
  pub fields : ProtoRrsigData
  pub signature : Octets

abbrev pub rrsig_data : ProtoRrsigData → Octets → RrsigData
rrsig_data fields signature = record { fields = fields; signature = signature }

-- these fields and the signature, for data of at most 65,535 octets (RFC 4034, section 3.1)
abbrev pub rrsig_layout : Layout
rrsig_layout = one (at_most 65535) ▸ proto_rrsig ▸ one rest

abbrev pub rrsig_values : RrsigData → Values rrsig_layout
rrsig_values d = (tt, (proto_rrsig_values d.fields, d.signature))

abbrev pub rrsig_octets : RrsigData → Octets
rrsig_octets d = octets_of rrsig_layout (rrsig_values d)

-- the octets in canonical form, with the name of the signer lowered (RFC 4034, section 6.2)
abbrev pub rrsig_canonical : RrsigData → Octets
rrsig_canonical d = canonical_of rrsig_layout (rrsig_values d)

-- the data are the same, except for the case of letters in the name of the signer
pub record IsSameRrsig (a b : RrsigData) : Type 0 where
  pub numbers : rrsig_numbers_values a.fields ≡ rrsig_numbers_values b.fields
  pub signer : IsSame a.fields.signer_name b.fields.signer_name
  pub signature : a.signature ≡ b.signature

-- ---- signatures as tokens (RFC 4034, section 3.2): fields, and then octets that all remaining
-- tokens spell together

-- algorithm, labels and the TTL
abbrev pub lengths : Layout
lengths = one octet ▸ one octet ▸ one long

-- key tag and the name of the signer
abbrev pub signer : Layout
signer = one short ▸ one name

-- all fields except the signature, in the order of their tokens
abbrev pub RrsigFields : Type 0
RrsigFields = ℕ × (Values lengths × (ℕ × (ℕ × Values signer)))

abbrev pub rrsig_fields : ProtoRrsigData → RrsigFields
rrsig_fields d = (
  d.type_covered,
  (
    (d.algorithm, (d.labels, d.original_ttl)),
    (d.expiration, (d.inception, (d.key_tag, d.signer_name))),
  ),
)

abbrev pub rrsig_fields_text : Grammar RrsigFields
rrsig_fields_text =
    Both (OneToken TypeText)
    (Both (Scans lengths) (Both (OneToken TimeToken) (Both (OneToken TimeToken) (Scans signer))))

abbrev pub RefusesRrsigFields : Option ℕ → Refusal
RefusesRrsigFields limit =
    RefusesBoth (OneToken TypeText) (RefusesToken IsNoType)
    (RefusesBoth (Scans lengths) (Refuses limit lengths)
    (RefusesBoth (OneToken TimeToken) (RefusesToken IsNoTime)
    (RefusesBoth (OneToken TimeToken) (RefusesToken IsNoTime) (Refuses limit signer))))

-- these fields, and the signature in Base 64
pub record RrsigText (tokens : Tokens) (d : RrsigData) : Type 0 where
  pub spelled : Spells rrsig_fields_text Base64 tokens (rrsig_fields d.fields) d.signature
  pub fits : length (rrsig_octets d) ≤ 65535

abbrev pub RefusesRrsig : Option ℕ → Refusal
RefusesRrsig limit =
    RefusesData rrsig_fields_text (RefusesRrsigFields limit) limit
    (λ fields octets. 65535 < 18 + length (wire_of fields.1.1.1.1.1) + length octets)
    (codes "record data too long") Base64

-- ---- signatures in presentation format (RFC 4034, section 3.2), and as pieces of zone file text

-- the printed form of a name, with its last dot
abbrev pub dotted : Name → Octets
dotted labels = name_text labels ++ codes "."

-- the printed forms of all fields except the signature
abbrev pub rrsig_words : ProtoRrsigData → Tokens
rrsig_words d =
    type_text d.type_covered ∷ decimal d.algorithm ∷ decimal d.labels ∷ decimal d.original_ttl
    ∷ decimal d.expiration ∷ decimal d.inception ∷ decimal d.key_tag ∷ dotted d.signer_name ∷ []

-- the printed forms of all fields, with single spaces
abbrev pub rrsig_text : RrsigData → Octets
rrsig_text d = join_with_byte space (rrsig_words d.fields ++ encode_of standard d.signature ∷ [])

-- the pieces of a signature, with comments on all fields except type covered, algorithm and
-- signature
abbrev pub rrsig_pieces : RrsigData → List PieceText
rrsig_pieces d =
    opens ∷ token (type_text d.fields.type_covered) ∷ token (decimal d.fields.algorithm)
    ∷ token (decimal d.fields.labels) ∷ comment (codes "labels")
    ∷ token (decimal d.fields.original_ttl) ∷ comment (codes "original ttl")
    ∷ token (decimal d.fields.expiration) ∷ comment (codes "expiration")
    ∷ token (decimal d.fields.inception) ∷ comment (codes "inception")
    ∷ token (decimal d.fields.key_tag) ∷ comment (codes "key tag")
    ∷ token (dotted d.fields.signer_name) ∷ comment (codes "signer name")
    ∷ token (encode_of standard d.signature) ∷ closes ∷ []
