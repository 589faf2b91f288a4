-- What data that lines spell have in common with those of links, and with the octets that are kept of them.
use Rattle.std.proofs.Common.{◌≡◌, ℕ, ◌*◌, ◌+◌, ◌/◌, ◌%◌, ◌<◌, ◌^◌, List, [], ◌∷◌, length, map, Some, None, unwrap_or, refl, sym, ap, ◌∙◌, subst, inl}
use Rattle.std.proofs.{Common.{inr, arith}, lemmas.{Bool.Decides.nat_tests, Grind.common_steps, List.Elements.{All-from_get_or, All-from_recursion}}}
use Rattle.std.specs.List.{AllByRecursion}
use Rattle.hex.proofs.HexLemmas.{decode_of-ok}
use Rattle.domain_octets.specs.Octets.{AreOctets, Octets}
use Rattle.domain_names.{specs.Name.{IsName, Name, Tokens}, proofs.TextLemmas.name_is_valid}
use Rattle.domain_base.specs.Scan.{IsNumber}
use Rattle.domain_base.specs.Types as rtypes
use Rattle.domain_codecs.{specs.Codec.{base32_digits, base32_octets, base32_value}, proofs.CodecLemmas.IsScale}
use Rattle.domain_bitmap.{specs.{Blocks.IsBitmap, Text.{OwnerHashText, SaltText, dash, digits, is_among}}, proofs.BitmapLemmas.IsBitmap-bitmap_octets}
use Rattle.domain_fields.specs.Layout.{Fits, Values}
use Rattle.domain_chain_rdata.specs.{Text.Nsec3paramText, Rdata.{hash_fields, nsec3param_layout, nsec3_values, nsec3param_values}}
use Rattle.domain_rdata.specs.{Zone.{Kind, next_by_name, next_by_hash, params, plain, kind_of, rtype_of}, Scan.{RdataText, own, generic}}
use Rattle.domain_rdata.specs.declared.zone_record_data.ZoneRecordData.{ZoneRecordData, TheVariants.{Soa, Nsec, Nsec3, Nsec3param, Unknown}}
use Rattle.domain_plain.specs.Plain.{soa_layout}
use Rattle.domain_borrowed.specs.Data.{RawRecord, IsParam, param_record}
use Rattle.domain_any_order.{specs.RawRecords.{HaveOneChain, TellsMinimum, raw_record}, proofs.RawLemmas.one_chain}
use Rattle.denial_program.specs.{Check.{IsNsecOf, IsNsec3Of}, Listing.{Give, GiveData}, Spelled.{LineText, SpelledRecord}}

abbrev pub SpelledData : Type 0
SpelledData = ZoneRecordData Octets Name

abbrev pub IsSpelled : ℕ → Tokens → SpelledData → Tokens → Type 0
IsSpelled = RdataText (λ o. o) (λ n. n)

abbrev see : SpelledRecord → RawRecord
see = raw_record (λ o. o) (λ n. n)

-- ---- what texts spell has octets that are such

digit_small : (c : ℕ) → unwrap_or (base32_value c) 0 < 32
digit_small c = grind (arith, common_steps, nat_tests)

digits_small : (text : Octets) → AllByRecursion (λ d. d < 32) (base32_digits text)
digits_small [] = tt
digits_small (c ∷ text) = (digit_small c, digits_small text)

groups_small : (scale rest : ℕ) (digits : Octets) → IsScale scale → rest < scale → AllByRecursion (λ d. d < 32) digits
    → AllByRecursion (λ o. o < 256) (base32_octets scale rest digits)
unfolding base32_octets
groups_small scale rest [] s r d = tt
groups_small scale rest (x ∷ xs) s r d =
    grind (
      arith,
      common_steps,
      (groups_small (32 * scale) (32 * rest + x) xs),
      (groups_small (32 * scale / 256) ((32 * rest + x) % (32 * scale / 256)) xs),
    )

abbrev AreCounted : Octets → Type 0
AreCounted octets = (length octets < 2 ^ 8) × AreOctets octets

spelled_salt : (text salt : Octets) → SaltText text salt → AreCounted salt
spelled_salt text salt (dash t e) = (omega arith, All-from_recursion (λ o. o < 256) [] tt)
spelled_salt text salt (digits t octets other decoded counted) =
    (omega arith, All-from_get_or (λ o. o < 256) salt 0 (λ i below. (decode_of-ok text salt decoded).3 i))

spelled_hash : (text hash : Octets) → OwnerHashText text hash → AreCounted hash
spelled_hash text hash t = (
  omega (arith, t.counted),
  All-from_recursion (λ o. o < 256) hash (subst (AllByRecursion (λ o. o < 256)) (sym t.decoded.value)
      (groups_small 1 0 (base32_digits text) (inl refl) (omega arith) (digits_small text))),
)

number_fits : (bits : ℕ) (text : Octets) (n : ℕ) → IsNumber bits text n → n < 2 ^ bits
number_fits bits text n t = subst (λ m. m < 2 ^ bits) (sym t.value) t.fits

spelled_params : (old new : Tokens) (v : Values nsec3param_layout) → Nsec3paramText old v new → Fits nsec3param_layout v
spelled_params old new v t = grind (arith, common_steps, (number_fits 8), (number_fits 16), spelled_salt)

-- ---- data that are spelled in the form of their type, or as octets

abbrev pub AreSound : SpelledData → Type 0
AreSound (Soa d) = d.minimum < 2 ^ 32
AreSound (Nsec d) = IsName d.next_name × IsBitmap d.types
AreSound (Nsec3 d) = Fits hash_fields (nsec3_values d).0 × IsBitmap d.types
AreSound (Nsec3param d) = Fits nsec3param_layout (nsec3param_values d)
AreSound (Unknown d) = kind_of d.rtype ≡ None
AreSound _ = Unit {0}

are_sound : (rtype : ℕ) (old : Tokens) (d : SpelledData) → IsSpelled rtype old d [] → AreSound d
are_sound rtype old (Soa d) (own other text) = number_fits 32 text.1.2.2.2.token d.minimum text.1.2.2.2.holds
are_sound rtype old (Soa d) (generic wire text are end) = are.1.fits.1.1.1
are_sound rtype old (Nsec d) (own other text) = grind (arith, common_steps, name_is_valid, IsBitmap-bitmap_octets)
are_sound rtype old (Nsec d) (generic wire text are end) = are.1.fits
are_sound rtype old (Nsec3 d) (own other text) =
    let hash = text.1.1 in (
      (spelled_params old hash.0 (nsec3_values d).0.0 hash.1, spelled_hash hash.2.token d.next_owner hash.2.holds),
      subst IsBitmap (sym text.1.2.built) (IsBitmap-bitmap_octets (is_among text.1.2.types)),
    )
are_sound rtype old (Nsec3 d) (generic wire text are end) = are.1.fits
are_sound rtype old (Nsec3param d) (own other text) = spelled_params old [] (nsec3param_values d) text.1
are_sound rtype old (Nsec3param d) (generic wire text are end) = are.1.fits
are_sound rtype old (Unknown d) (own other text) = absurd text.1
are_sound rtype old (Unknown d) (generic wire text are end) = subst (λ t. kind_of t ≡ None) are.0 are.1.0
are_sound rtype old _ text = tt

-- a type with a form of its own is none of those whose data are mere octets
formless : (rtype other : ℕ) (k : Kind) → kind_of rtype ≡ None → rtype ≡ other → kind_of other ≡ Some k → ⊥
formless rtype other k none same known = let e = subst (λ t. kind_of t ≡ None) same none in absurd (cc)

-- ---- the chain of what lines give is that of what they spell

minimum_told : (d : SpelledData) → AreSound d → TellsMinimum d
minimum_told (Soa d) sound = sound
minimum_told (Unknown d) sound = λ e. formless d.rtype rtypes.soa (plain soa_layout) sound e refl
minimum_told _ sound = tt

given_spelled : (lines : List Octets) (given : List RawRecord) → Give lines given
    → (spelled : List SpelledRecord) × GiveData lines spelled × AllByRecursion (λ r. TellsMinimum r.«data») spelled × (map see spelled ≡ given)
given_spelled [] given none = ([], refl, tt, sym none)
given_spelled (line ∷ more) given (inl (skipped, g)) = let s = given_spelled more given g in (s.0, inl (skipped, s.1), s.2, s.3)
given_spelled (line ∷ more) given (inr (r, others, is, said, g)) =
    let s = given_spelled more others g in
    let t = said.spelled in
    let sound = minimum_told t.spelled.«data» (are_sound _ _ t.spelled.«data» t.are.body.spelled) in
    (t.spelled ∷ s.0, grind (arith, common_steps), (sound, s.2), grind (arith, common_steps))

pub lines_have_one_chain : (lines : List Octets) (given : List RawRecord) → Give lines given
    → (spelled : List SpelledRecord) × GiveData lines spelled × HaveOneChain (λ o. o) (λ n. n) given spelled
lines_have_one_chain lines given g =
    let s = given_spelled lines given g in (
      s.0,
      s.1,
      subst (λ raw. HaveOneChain (λ o. o) (λ n. n) raw s.0) s.3
          (one_chain (λ o. o) (λ n. n) s.0 (All-from_recursion (λ r. TellsMinimum r.«data») s.0 s.2)),
    )

-- ---- each line of an NSEC, NSEC3 or NSEC3PARAM record gives a link, or parameters

abbrev raw : Name → ℕ → ℕ → SpelledData → RawRecord
raw owner class ttl d = see (record { owner = owner; class = class; ttl = ttl; «data» = d })

-- what data of this type give
abbrev Gives : {K : Type 0} → ℕ → (RawRecord → K → Type 0) → Type 0
Gives {K} rtype Is = (owner : Name) (class ttl : ℕ) (d : SpelledData) → AreSound d → rtype_of d ≡ rtype → (k : K) × Is (raw owner class ttl d) k

pub nsec_given : Gives rtypes.nsec IsNsecOf
nsec_given owner class ttl (Nsec d) sound e = (
  record { owner = owner; next = d.next_name; class = class; ttl = ttl; bits = d.types },
  record { counted = refl; is = refl; fits = sound },
)
nsec_given owner class ttl (Unknown d) sound e = absurd (formless d.rtype rtypes.nsec next_by_name sound e refl)
nsec_given owner class ttl d sound e = absurd (omega arith)

pub nsec3_given : Gives rtypes.nsec3 IsNsec3Of
nsec3_given owner class ttl (Nsec3 d) sound e = (
  record {
    owner = owner;
    next = d.next_owner;
    class = class;
    ttl = ttl;
    parameters = record { algorithm = d.hash_algorithm; iterations = d.iterations; salt = d.salt };
    flags = d.flags;
    bits = d.types;
  },
  record { counted = refl; is = refl; fits = sound },
)
nsec3_given owner class ttl (Unknown d) sound e = absurd (formless d.rtype rtypes.nsec3 next_by_hash sound e refl)
nsec3_given owner class ttl d sound e = absurd (omega arith)

pub param_given : Gives rtypes.nsec3param (λ r k. (r ≡ param_record k) × IsParam k)
param_given owner class ttl (Nsec3param d) sound e = (
  record {
    owner = owner;
    class = class;
    ttl = ttl;
    parameters = record { algorithm = d.hash_algorithm; iterations = d.iterations; salt = d.salt };
    flags = d.flags;
  },
  (refl, sound),
)
param_given owner class ttl (Unknown d) sound e = absurd (formless d.rtype rtypes.nsec3param params sound e refl)
param_given owner class ttl d sound e = absurd (omega arith)

-- so does a line that spells them
pub line_gives : {K : Type 0} (rtype : ℕ) (Is : RawRecord → K → Type 0) → Gives rtype Is → (words : Tokens) (r : RawRecord)
    → LineText words r → r.«data».rtype ≡ rtype → (k : K) × Is r k
line_gives {K} rtype Is gives words r t e =
    let s = t.spelled in
    subst (λ (x : RawRecord). (k : K) × Is x k) t.raw
    (gives s.owner s.class s.ttl s.«data» (are_sound _ _ s.«data» t.are.body.spelled) (ap (λ (x : RawRecord). x.«data».rtype) t.raw ∙ e))
