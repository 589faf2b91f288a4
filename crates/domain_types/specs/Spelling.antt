-- The presentation format of fields: the octets that a token spells (RFC 1035, section 5.1).
use Rattle.std.specs.Prelude.{◌≡◌, ◌≢◌, ℕ, ◌<◌, ◌≤◌, ◌==◌, Bool, true, false, if◌then◌else◌, [], ◌∷◌, ◌++◌}
use Rattle.std.specs.Prelude.{length, fold}
use Rattle.std.specs.{Int.{w16, w32, to_be_bytes}, Net.Grammar.IsDotted}
use Rattle.domain_octets.specs.{Octets.Octets, Text.{dot, at_sign, backslash}}
use Rattle.domain_names.specs.{Name.{Name, IsName, wire_of}, Text.NameText}
use Rattle.domain_base.specs.Scan.{IsNumber}
use Rattle.domain_bitmap.specs.Text.{SaltText, OwnerHashText}
use Rattle.domain_svcb.specs.Strings.{StringText}
use Rattle.domain_types.specs.{Table.MnemonicText, Fields.IsTag, Ttls.ttl_text, Times.StampText}
use Rattle.domain_types.specs.{Addresses.{LongAddressText, EuiText, LocatorText}, Prefixes.PrefixText}
use Rattle.domain_types.specs.Mnemonics.{ByteOrMnemonic, ShortOrMnemonic, algorithm_names, certificate_names, scheme_names}
use Rattle.domain_types.specs.declared.ttl.TtlText.{TheVariants.Seconds}
use Rattle.domain_types.specs.declared.field.Field.{Field}
use Rattle.domain_types.specs.declared.field.Field.TheVariants as fields
use Rattle.domain_types.specs.declared.spell.Going.{Going, TheVariants.{Inside, Escaped, AfterDot}}

-- ---- names

-- how the text of a name goes on after one more character
abbrev pub going_on : Going → ℕ → Going
going_on Escaped c = Inside
going_on _ c = if c == backslash then Escaped else (if c == dot then AfterDot else Inside)

abbrev pub is_after_dot : Going → Bool
is_after_dot AfterDot = true
is_after_dot _ = false

-- whether the text ends in a dot that no backslash escapes
abbrev pub ends_in_dot : Octets → Bool
ends_in_dot text = is_after_dot (fold going_on Inside text)

-- a token that is a name: the origin as @, a name that ends in a dot, or another name, which is
-- relative to the origin
pub data NameToken (origin : Name) : Octets → Name → Type 0 where
  at_origin : (text : Octets) → text ≡ at_sign ∷ [] → NameToken origin text origin
  absolute : (text : Octets) (labels : Name) → text ≢ at_sign ∷ [] → ends_in_dot text ≡ true
      → NameText text labels → NameToken origin text labels
  relative : (text : Octets) (labels : Name) → text ≢ at_sign ∷ [] → ends_in_dot text ≡ false
      → NameText text labels → IsName (labels ++ origin)
      → NameToken origin text (labels ++ origin)

-- the token is a name with these octets
abbrev pub NameField : Name → Octets → Octets → Type 0
NameField origin text octets =
    (labels : Name) × NameToken origin text labels × (octets ≡ wire_of labels)

-- ---- the fields, one token each

-- a number of 8, 16 or 32 bits in decimal digits
abbrev pub ByteText : Octets → Octets → Type 0
ByteText text octets = (n : ℕ) × IsNumber 8 text n × (octets ≡ n ∷ [])

abbrev pub ShortText : Octets → Octets → Type 0
ShortText text octets = (n : ℕ) × IsNumber 16 text n × (octets ≡ to_be_bytes w16 n)

abbrev pub LongText : Octets → Octets → Type 0
LongText text octets = (n : ℕ) × IsNumber 32 text n × (octets ≡ to_be_bytes w32 n)

-- a number up to a limit, in one octet
abbrev pub LimitedText : ℕ → Octets → Octets → Type 0
LimitedText limit text octets =
    (n : ℕ) × IsNumber 8 text n × (n ≤ limit) × (octets ≡ n ∷ [])

-- a type of records (RFC 3597, section 5)
abbrev pub TypeField : Octets → Octets → Type 0
TypeField text octets = (t : ℕ) × MnemonicText text t × (octets ≡ to_be_bytes w16 t)

-- a string of at most 255 octets, after its length
abbrev pub StringField : Octets → Octets → Type 0
StringField text octets =
    (string : Octets) × StringText text string × (length string ≤ 255)
    × (octets ≡ length string ∷ string)

-- letters and digits, after their length
abbrev pub TagText : Octets → Octets → Type 0
TagText text octets = (octets ≡ length text ∷ text) × (length text ≤ 255) × IsTag octets

-- a salt, after its length (RFC 5155, section 3.3)
abbrev pub SaltField : Octets → Octets → Type 0
SaltField text octets =
    (salt : Octets) × SaltText text salt × (octets ≡ length salt ∷ salt)

-- a hash of at least one octet, after its length (RFC 5155, section 3.3)
abbrev pub HashField : Octets → Octets → Type 0
HashField text octets =
    (hash : Octets) × OwnerHashText text hash × (0 < length hash)
    × (octets ≡ length hash ∷ hash)

-- a number of seconds, which may have units, in four octets
abbrev pub PeriodField : Octets → Octets → Type 0
PeriodField text octets =
    (n : ℕ) × (ttl_text text ≡ Seconds n) × (octets ≡ to_be_bytes w32 n)

-- a time, in four octets (RFC 4034, section 3.2)
abbrev pub TimeField : Octets → Octets → Type 0
TimeField text octets = (n : ℕ) × StampText text n × (octets ≡ to_be_bytes w32 n)

-- the text spells the octets of a field that is no name; the kinds that have no text of one token
-- are spelled by no text
abbrev pub PlainText : Field → Octets → Octets → Type 0
PlainText fields.Number8 text octets = ByteText text octets
PlainText fields.Number16 text octets = ShortText text octets
PlainText fields.Number32 text octets = LongText text octets
PlainText fields.Algorithm text octets = ByteOrMnemonic algorithm_names text octets
PlainText fields.Scheme text octets = ByteOrMnemonic scheme_names text octets
PlainText fields.CertificateType text octets = ShortOrMnemonic certificate_names text octets
PlainText fields.RecordType text octets = TypeField text octets
PlainText fields.Flag text octets = LimitedText 1 text octets
PlainText fields.GatewayType text octets = LimitedText 3 text octets
PlainText fields.Period text octets = PeriodField text octets
PlainText fields.Time text octets = TimeField text octets
PlainText fields.Ipv4 text octets = IsDotted text octets
PlainText fields.Ipv6 text octets = LongAddressText text octets
PlainText fields.CharacterString text octets = StringField text octets
PlainText fields.Tag text octets = TagText text octets
PlainText fields.Salt text octets = SaltField text octets
PlainText fields.HashedOwner text octets = HashField text octets
PlainText fields.Locator64 text octets = LocatorText text octets
PlainText fields.Eui48 text octets = EuiText 6 text octets
PlainText fields.Eui64 text octets = EuiText 8 text octets
PlainText fields.Prefix text octets = PrefixText text octets
PlainText _ text octets = ⊥

-- the text spells the octets of a field of this kind
abbrev pub FieldSpelling : Name → Field → Octets → Octets → Type 0
FieldSpelling origin fields.LoweredName text octets = NameField origin text octets
FieldSpelling origin fields.Name text octets = NameField origin text octets
FieldSpelling origin field text octets = PlainText field text octets
