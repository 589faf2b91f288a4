-- Data of all types as tokens and as octets.
use Rattle.std.proofs.Common.{◌≡◌, ℕ, List, sym, [], length, codes, Option, Some, Ok, Err, Result, IsErrAnd, arith, true, refl, ap, inr, ◌∷◌, ◌∙◌, subst}
use Rattle.std.{proofs.Common.{None, ◌<◌, All, ◌++◌, append_assoc, length-append}, specs.{Ordering.{ordering_reverse, nat_cmp}, Cmp.Lexicographic.slice_cmp}}
use Rattle.std.{specs.{Cmp.Lexicographic.nat_list_cmp_total, Prelude.{IfSome, slice_index}}, proofs.lemmas.{Grind.common_steps, List.append-nil}}
use Rattle.domain_names.specs.{Text.{ScanFault, illegal, no_room, no_memory, scan_fault_of, IsOfTokens, name_text}, declared.error.ScanError.ScanError}
use Rattle.domain_names.{specs.Name.IsName, proofs.TextLemmas.name_is_valid}
use Rattle.domain_names.specs.Wire.{Fault}
use Rattle.domain_fields.specs.{Layout.{Layout, Values, Begins, FirstFault, splits, octets_of}, Scan.{AllTokens, Scans, ReadsOnce, Excludes, IsExactEntry}}
use Rattle.domain_fields.proofs.{ExactLemmas.{one_reading, fault_excludes}, ScanLemmas.fields_exact}
use Rattle.domain_rdata.specs.Zone.{Kind, layout_of, AreFields, plain, key, signature, next_by_name, next_by_hash, params, FieldsText, key_of, rrsig_of}
use Rattle.domain_rdata.specs.Zone.{kind_of, Content, fields, mere, content_of, content_octets, IsOfKind, of_kind, wire_octets, HasExactOctets, HasExactText}
use Rattle.domain_rdata.specs.Scan.{AreOfKind, CopyFault, IsHeld, OctetsFault, FromOctets, RefusesKind, RefusesKnown}
use Rattle.domain_rdata.specs.Scan.{RefusesOwn, RefusesRdata, in_own, in_generic, in_octets, RdataText, own, generic, ContentText, OwnText, AreContent}
use Rattle.domain_rdata.specs.{Scan.{AreData, IsGeneric}, declared.zone_record_data.ZoneRecordData.{ZoneRecordData, TheVariants.{Ns, Soa, Unknown}}}
use Rattle.domain_plain.specs.Plain.{GenericText, generic_mark, generic_text, ns_layout, soa_layout, soa_values, soa_text, UnknownData}
use Rattle.domain_plain.proofs.PlainLemmas.{generic_exact}
use Rattle.domain_plain.{proofs.PlainLemmas.generic_back, specs.declared.{ns.Ns.Ns as NsData, soa.Soa.Soa as SoaData}}
use Rattle.domain_base.{specs.{Scan.{Refusal, IsNumber, TakesToken}, Numbers.{by_name, by_number, TypeText}}, proofs.TextLemmas.name_word}
use Rattle.domain_keys.{specs.Keys.{key_values, KeyText}, proofs.DataLemmas.key_exact}
use Rattle.domain_rrsig.{specs.Data.{rrsig_values, RrsigData, RrsigText}, proofs.DataLemmas.rrsig_exact}
use Rattle.domain_chain_rdata.proofs.TextLemmas.{nsec_exact, params_exact, nsec3_exact}
use Rattle.domain_octets.{specs.Text.words_of, proofs.WordLemmas.{one_word, first_word}}
use Rattle.domain_base.specs.Types as rtypes

-- ---- data compared the other way round

pub turned : (a b : List ℕ) → ordering_reverse (slice_cmp nat_cmp b a) ≡ slice_cmp nat_cmp a b
turned a b = sym (nat_list_cmp_total.antisymm a b)

-- ---- what octets of the generic form are

-- octets with a fault, or that go on after the data, are no such data
pub at_fault : (l : Layout) (octets : List ℕ) (fault : Fault) → splits l ≡ true → FirstFault l octets fault → ((v : Values l) × Begins l octets v []) → ⊥
at_fault l octets fault split why whole = fault_excludes l octets fault why split whole.0 [] whole.1

pub goes_on : (l : Layout) (octets : List ℕ) (v : Values l) (after : List ℕ) → splits l ≡ true → Begins l octets v after → 0 < length after
    → ((v : Values l) × Begins l octets v []) → ⊥
goes_on l octets v after split begins more whole = omega (arith, more, ap length (one_reading l octets v whole.0 after [] split begins whole.1).1)

pub not_data : (k : Kind) (limit : Option ℕ) (octets : List ℕ) {M : Type 0} (made : M → Values (layout_of k)) (r : Result M ScanError)
    → IsErrAnd r (λ e. scan_fault_of e ≡ illegal (codes "illegal data")) → (AreOfKind k octets → ⊥) → FromOctets limit k made octets r
not_data k limit octets made (Ok d) said none = absurd said
not_data k limit octets made (Err e) said none = record { ok = tt; err = rw said (refl, none) }

-- data of which a part is not copied
module _ (kind : Kind) (v : Values (layout_of kind)) (limit : Option ℕ) (wire octets : List ℕ) where
  copy_fault : (fault : ScanFault) → CopyFault limit octets fault → AreFields kind wire v → IsHeld (layout_of kind) v octets
      → OctetsFault limit (Some kind) wire fault
  copy_fault no_room why is held = (octets, record { values = v; whole = is; held = held }, why)
  copy_fault no_memory why is held = inr (octets, record { values = v; whole = is; held = held }, why)
  copy_fault _ why is held = absurd why

  pub not_copied : {M : Type 0} (made : M → Values (layout_of kind)) (fault : ScanError) (r : Result M ScanError) → IsErrAnd r (λ e. e ≡ fault)
      → CopyFault limit octets (scan_fault_of fault) → AreFields kind wire v → IsHeld (layout_of kind) v octets → FromOctets limit kind made wire r
  not_copied made fault (Ok d) said why is held = absurd said
  not_copied made fault (Err e) said why is held = record { ok = tt; err = rw said (copy_fault _ why is held) }

pub ruleset made = (not_data, not_copied)

-- ---- Tokens that are refused as the data of a type spell no data of that type, and tokens spell data of a type in one way at most.

-- all tokens spell data
whole_exact : {V D : Type 0} (limit : Option ℕ) (spells : List (List ℕ) → D → Type 0) (R : Refusal) (of : V → D) (values : D → V)
    → IsExactEntry (IsOfTokens limit) spells R → ((v : V) → values (of v) ≡ v)
    → ReadsOnce (AllTokens (λ old v. spells old (of v))) × Excludes (IsOfTokens limit) (AllTokens (λ old v. spells old (of v))) R
whole_exact limit spells R of values exact same = (
  record {
    value = λ old m n v w p q. sym (same v) ∙ ap values (exact.once old (of v) (of w) p.0 q.0) ∙ same w;
    left = λ old m n v w p q. p.1 ∙ sym q.1;
  },
  λ old new after v fault why is own. exact.none old new fault (of v) why own is.0,
)

-- the values of a kind, and the tokens that are left, are told from the tokens; what is refused, but for want of room or memory, are no data of the kind
kind_exact : (k : Kind) (limit : Option ℕ) → ReadsOnce (FieldsText k) × Excludes (IsOfTokens limit) (FieldsText k) (RefusesKind limit k)
kind_exact (plain l) limit = ((fields_exact limit l).once, (fields_exact limit l).apart)
kind_exact (key codec) limit = whole_exact limit (KeyText codec) _ key_of key_values (key_exact codec limit) (λ v. refl)
kind_exact signature limit = whole_exact limit RrsigText _ rrsig_of rrsig_values (rrsig_exact limit) (λ v. refl)
kind_exact next_by_name limit =
    ((nsec_exact limit limit).once, λ old new after v fault why is own. (nsec_exact limit limit).apart old new after v fault why is (own, own))
kind_exact next_by_hash limit = ((nsec3_exact limit).once, (nsec3_exact limit).apart)
kind_exact params limit = ((params_exact limit).once, (params_exact limit).apart)

-- the tokens begin with data of a type of this kind, which are these octets, and these are left
abbrev pub Reads : Option Kind → List (List ℕ) → List ℕ → List (List ℕ) → Type 0
Reads None old wire new = ⊥
Reads (Some k) old wire new = (v : Values (layout_of k)) × FieldsText k old v new × (wire ≡ octets_of (layout_of k) v)

content_read : (known : Option Kind) (old new : List (List ℕ)) (c : Content) → IsOfKind known c → ContentText old c new → Reads known old (content_octets c) new
content_read known old new (fields k v) is h = subst (λ o. Reads o old (octets_of (layout_of k) v) new) (sym is) (v, h, refl)
content_read known old new (mere o) is h = absurd h

module _ {O N : Type 0} (octets : O → List ℕ) (labels : N → List (List ℕ)) (rtype : ℕ) (old new : List (List ℕ)) where
  pub own_read : (d : ZoneRecordData O N) → OwnText octets labels rtype old d new → Reads (kind_of rtype) old (wire_octets octets labels d) new
  own_read d h = content_read _ old new _ (subst (λ t. IsOfKind (kind_of t) (content_of octets labels d)) (sym h.0) (of_kind octets labels d)) h.1

-- the text form of a type is read in one way at most
pub one_read : (known : Option Kind) (old m n : List (List ℕ)) (x y : List ℕ) → Reads known old x m → Reads known old y n → (m ≡ n) × (x ≡ y)
one_read None old m n x y p q = absurd p
one_read (Some k) old m n x y p q =
    let once = (kind_exact k None).0 in
    (once.left old m n p.0 q.0 p.1 q.1, p.2 ∙ ap (octets_of (layout_of k)) (once.value old m n p.0 q.0 p.1 q.1) ∙ sym q.2)

-- what is refused as the text form of a type, but for want of room or memory, is not read
own_refused : (known : Option Kind) (limit : Option ℕ) (old new after : List (List ℕ)) (wire : List ℕ) (fault : ScanFault)
    → RefusesKnown limit known old new fault → IsOfTokens limit fault → Reads known old wire after → ⊥
own_refused None limit old new after wire fault why alone read = read
own_refused (Some k) limit old new after wire fault why alone read = (kind_exact k limit).1 old new after read.0 fault why read.1 alone

-- what is refused as one type is refused as a type of that number
pub refused_as : (limit : Option ℕ) (known rtype : ℕ) (old new : List (List ℕ)) (fault : ScanFault) → known ≡ rtype
    → RefusesOwn limit known old new fault → RefusesOwn limit rtype old new fault
refused_as limit known rtype old new fault same why = subst (λ t. RefusesOwn limit t old new fault) same why

-- octets are data of a type of this kind, or of none, of which any octets are data
abbrev pub AreOf : Option Kind → List ℕ → Type 0
AreOf None wire = Unit {0}
AreOf (Some kind) wire = AreOfKind kind wire

-- octets that are values of a kind are their octets
fields_are : (k : Kind) (wire : List ℕ) (v : Values (layout_of k)) → AreFields k wire v → octets_of (layout_of k) v ≡ wire
fields_are k wire v h = sym (h.parts ∙ append-nil _)

content_is : (rtype : ℕ) (wire : List ℕ) (c : Content) → AreContent rtype wire c → content_octets c ≡ wire
unfolding octets_of
content_is rtype wire c h = grind (arith, common_steps, fields_are)

module _ {O N : Type 0} (octets : O → List ℕ) (labels : N → List (List ℕ)) (rtype : ℕ) (wire : List ℕ) (d : ZoneRecordData O N)
    (are : AreData octets labels rtype wire d) where
  -- the octets that data are of are those that they are written as
  pub are_wire : wire_octets octets labels d ≡ wire
  are_wire = content_is rtype wire (content_of octets labels d) are.1

  -- they are of the kind of the type
  pub are_of : AreOf (kind_of rtype) wire
  are_of = grind (arith, common_steps)

-- generic text
generic_begins : (tokens : List (List ℕ)) (wire : List ℕ) → GenericText tokens wire → IsGeneric tokens
generic_begins tokens wire text = let mark = text.fields.1 in (text.fields.0, mark.first ∙ ap (λ t. t ∷ text.fields.0) mark.holds)

module _ {O N : Type 0} (octets : O → List ℕ) (labels : N → List (List ℕ)) (rtype : ℕ) (old : List (List ℕ)) where
  -- what is refused, but for want of room or memory, spells no data of the type
  pub none_spelled : (limit : Option ℕ) (new : List (List ℕ)) (fault : ScanFault) → RefusesRdata limit rtype old new fault → IsOfTokens limit fault
      → (d : ZoneRecordData O N) (after : List (List ℕ)) → RdataText octets labels rtype old d after → ⊥
  none_spelled limit new fault (in_own unmarked why) known d after (own other text) =
      own_refused (kind_of rtype) limit old new after _ fault why known (own_read octets labels rtype old after d text)
  none_spelled limit new fault (in_own unmarked why) known d after (generic wire text are all) = unmarked (generic_begins old wire text)
  none_spelled limit new fault (in_generic marked why) known d after (own other text) = other marked
  none_spelled limit new fault (in_generic marked why) known d after (generic wire text are all) = (generic_exact limit).none old new fault wire why known text
  none_spelled limit new fault (in_octets wire text all why) known d after spelled = grind (arith, common_steps)

  -- octets of generic text that are data, or are not
  pub generic_ok : (new : List (List ℕ)) (t : ℕ) (wire : List ℕ) (d : ZoneRecordData O N) → AreData octets labels t wire d → t ≡ rtype
      → GenericText old wire → new ≡ [] → RdataText octets labels rtype old d new
  generic_ok new t wire d are same text all = generic wire text (subst (λ n. AreData octets labels n wire d) same are) all

pub generic_err : (limit : Option ℕ) (rtype : ℕ) (old new : List (List ℕ)) (t : ℕ) (wire : List ℕ) (fault : ScanFault)
    → OctetsFault limit (kind_of t) wire fault → t ≡ rtype → GenericText old wire → new ≡ [] → RefusesRdata limit rtype old new fault
generic_err limit rtype old new t wire fault why same text all = in_octets wire text all (subst (λ n. OctetsFault limit (kind_of n) wire fault) same why)

module _ {O N : Type 0} (octets : O → List ℕ) (labels : N → List (List ℕ)) (rtype : ℕ) (old : List (List ℕ)) where
  pub text_once : (m n : List (List ℕ)) (d e : ZoneRecordData O N) → RdataText octets labels rtype old d m → RdataText octets labels rtype old e n
      → (m ≡ n) × (wire_octets octets labels d ≡ wire_octets octets labels e)
  text_once m n d e (own p x) (own q y) = one_read (kind_of rtype) old m n _ _ (own_read octets labels rtype old m d x) (own_read octets labels rtype old n e y)
  text_once m n d e (own p x) (generic wire text are all) = absurd (p (generic_begins old wire text))
  text_once m n d e (generic wire text are all) (own q y) = absurd (q (generic_begins old wire text))
  text_once m n d e (generic w x are all) (generic w' x' are' all') = grind (arith, common_steps)

pub ruleset scan_steps = (none_spelled, generic_ok, generic_err, in_own, in_generic)

-- ---- what data are written as does not begin with the mark of the generic form

-- ---- texts that are not the mark

no_number : (bits n : ℕ) → IsNumber bits generic_mark n → ⊥
no_number bits n number = omega (arith, number.digits.1.0)

no_type : (n : ℕ) → TypeText generic_mark n → ⊥
no_type n (by_name text m is) = let e = is in cc
no_type n (by_number text digits m none has number) = grind (arith, common_steps, (length-append has.front digits))

no_dotted : (text : List ℕ) → text ++ 46 ∷ [] ≡ generic_mark → ⊥
no_dotted [] same = omega (arith, ap length same)
no_dotted (c ∷ []) same = let last : 46 ≡ 35 = ap (λ l. slice_index l 1) same in omega (arith, last)
no_dotted (c ∷ d ∷ text) same = omega (arith, ap length same, length-append (c ∷ d ∷ text) (46 ∷ []))

abbrev first_of : List (List ℕ) → List ℕ
first_of [] = []
first_of (token ∷ tokens) = token

-- ---- tokens that begin with such texts

mark_first : {P : List ℕ → Type 0} (old new : List (List ℕ)) → TakesToken P old new → IsGeneric old → P generic_mark
mark_first {P} old new takes marked = grind (arith, common_steps)

pub type_first : (n : ℕ) (old new : List (List ℕ)) → TakesToken (λ text. TypeText text n) old new → IsGeneric old → ⊥
type_first n old new takes marked = no_type n (mark_first old new takes marked)

pub name_alone : (labels : List (List ℕ)) → IsName labels → IsGeneric (words_of (name_text labels ++ 46 ∷ [])) → ⊥
name_alone labels valid marked = grind (arith, common_steps, one_word, name_word, no_dotted)

pub name_first : (labels : List (List ℕ)) (rest : List ℕ) → IsName labels → IsGeneric (words_of ((name_text labels ++ 46 ∷ []) ++ 32 ∷ rest)) → ⊥
name_first labels rest valid marked = grind (arith, common_steps, first_word, name_word, no_dotted)

-- ---- data in their own form, or in the generic one

module _ {O N : Type 0} (octets : O → List ℕ) (labels : N → List (List ℕ)) where
  pub ns_text : (d : NsData N) → Scans ns_layout (words_of (name_text (labels d.nsdname) ++ 46 ∷ [])) (labels d.nsdname) []
      → RdataText octets labels rtypes.ns (words_of (name_text (labels d.nsdname) ++ 46 ∷ [])) (Ns d) []
  ns_text d read = own (name_alone (labels d.nsdname) (name_is_valid read.token (labels d.nsdname) read.holds)) (refl, read)

  pub soa_back : (d : SoaData N) → IfSome (soa_text labels d) (λ text. Scans soa_layout (words_of text) (soa_values labels d) [])
      → IfSome (soa_text labels d) (λ text. RdataText octets labels rtypes.soa (words_of text) (Soa d) [])
  soa_back d read = own (name_first (labels d.mname) _ (name_is_valid read.1.1.token (labels d.mname) read.1.1.holds)) (refl, read)

  pub rrsig_back : (d : RrsigData) (tokens : List (List ℕ)) → RrsigText tokens d → IsGeneric tokens → ⊥
  rrsig_back d tokens read = type_first d.fields.type_covered tokens read.spelled.fields.0 read.spelled.fields.1

  pub nsec_first : (name : List (List ℕ)) (types : List ℕ) → IsName name → IsGeneric (words_of (name_text name ++ 46 ∷ 32 ∷ [] ++ types)) → ⊥
  nsec_first name types valid marked =
      let parts : name_text name ++ 46 ∷ 32 ∷ [] ++ types ≡ (name_text name ++ 46 ∷ []) ++ 32 ∷ types =
      ap (λ l. l ++ types) (sym (append_assoc (name_text name) (46 ∷ []) (32 ∷ []))) ∙ append_assoc _ (32 ∷ []) types in
      name_first name types valid (subst (λ t. IsGeneric (words_of t)) parts marked)

  pub unknown_back : (d : UnknownData O) → All (λ octet. octet < 256) (octets d.«data»)
      → HasExactText {O = O} {N = N} octets (Unknown d) → RdataText octets labels d.rtype
      (words_of (generic_text (octets d.«data»))) (Unknown d) []
  unknown_back d small exact = generic (octets d.«data») (generic_back (octets d.«data») small exact.1) (refl, (exact.0, refl)) refl

  -- mere octets are the data of a type that has no other form
  pub mere_back : (d : UnknownData O) → HasExactOctets {O = O} {N = N} (Unknown d)
      → AreData octets labels d.rtype (wire_octets {N = N} octets labels (Unknown d)) (Unknown d)
  unfolding octets_of
  mere_back d exact = (refl, (exact, refl))
