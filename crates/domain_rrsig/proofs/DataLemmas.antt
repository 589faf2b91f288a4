-- The data of signatures, on the wire and as text.
use Rattle.std.proofs.{lemmas.Grind.common_steps, Common.{◌≡◌, ℕ, ◌+◌, ◌-◌, ◌%◌, ◌<◌, ◌≤◌, ◌↔◌, Option, None, Some, IsNone, IfSome, sym, subst, arith, List}}
use Rattle.std.{proofs.{Common.{[], ◌++◌, length, refl, length-append, ◌∙◌, ◌∷◌}, lemmas.Fmt.{decimal_is_IsNumeral, length-decimal-le}}, specs.Option.SomeIff}
use Rattle.std.specs.{Prelude.◌^◌, Fmt.decimal, Str.Parse.without_leading_plus, List.AllByRecursion}
use Rattle.domain_rrsig.specs.Data.{IsNear, TimeAt, nearest, TimeToken, IsNoTime, TimeText, proto_rrsig, RrsigData, rrsig_layout, rrsig_values, rrsig_octets}
use Rattle.domain_rrsig.specs.Data.{ProtoRrsigData, proto_rrsig_values, lengths, signer, rrsig_fields_text, RefusesRrsigFields, RrsigText, RefusesRrsig}
use Rattle.domain_rrsig.specs.Data.{rrsig_fields, dotted, rrsig_words, rrsig_text}
use Rattle.domain_fields.{specs.{Layout.{rest, one, ◌▸◌, Values, octets_of, Fits, Begins, ParsesBack}, Scan.IsExact}, proofs.ExactLemmas.parses_back}
use Rattle.domain_fields.{specs.Scan.IsExactEntry, proofs.{ScanLemmas.{fields_exact, fields_back, entry_line}, GrammarLemmas.{token_exact, both_exact}}}
use Rattle.domain_fields.proofs.GrammarLemmas.{same_fields, same_octets, entry_refused, entry_refused_once}
use Rattle.domain_names.specs.{Name.wire_of, Text.IsOfTokens}
use Rattle.domain_codecs.{specs.declared.codec.Codec.TheVariants.Base64, proofs.{CodecBackLemmas.base64_back, CodecLemmas.base64_plain}}
use Rattle.domain_base.{specs.{Numbers.{TypeText, IsNoType, type_text}, Scan.IsNumber}, proofs.TextLemmas.{one_named, type_back, type_word, name_word}}
use Rattle.base64.specs.{GeneralPurpose.encode_of, Engines.standard}
use Rattle.domain_octets.{specs.Text.{words_of, IsWord}, proofs.WordLemmas.decimal_word}

-- ---- times that a stamp stands for

-- `ahead` is how far the stamp is ahead of the reference in the circle
module _ (stamp reference ahead : ℕ) (small : stamp < 4294967296) (is : ahead ≡ (stamp + (4294967296 - reference % 4294967296)) % 4294967296) where
  pub congruent_ahead : (reference + ahead) % 4294967296 ≡ stamp
  congruent_ahead = omega arith

  pub near_before : 2147483648 ≤ ahead → 4294967296 - ahead ≤ reference → IsNear stamp reference (reference - (4294967296 - ahead))
  near_before far room = grind (arith, common_steps)

  pub none_near : 2147483648 ≤ ahead → reference < 4294967296 - ahead → (time : ℕ) → IsNear stamp reference time → ⊥
  none_near far early time n = omega (arith, congruent_ahead, n.congruent, n.not_before, n.not_after)

-- a sum that fits is the time
pub time_after : (stamp reference ahead limit : ℕ) (o : Option ℕ) → SomeIff o (reference + ahead < limit) (reference + ahead)
    → IsNear stamp reference (reference + ahead) → IfSome o (TimeAt stamp reference)
time_after stamp reference ahead limit None is n = tt
time_after stamp reference ahead limit (Some x) is n = nearest x (subst (IsNear stamp reference) (sym is.1) n)

pub none_after : (stamp reference ahead limit : ℕ) (o : Option ℕ) → SomeIff o (reference + ahead < limit) (reference + ahead)
    → IsNear stamp reference (reference + ahead) → IsNone o ↔ ((time : ℕ) × IsNear stamp reference time × (limit ≤ time))
none_after stamp reference ahead limit o is n = grind (arith, common_steps)

pub ruleset after = (time_after, none_after)

-- ---- how signatures are read

-- data that were read have no more octets than a record can hold
pub limit_of_rrsig : (octets : List ℕ) (v : Values rrsig_layout) (after : List ℕ) → Begins rrsig_layout octets v after
    → length (octets_of rrsig_layout v) ≤ 65535
unfolding octets_of
limit_of_rrsig octets v after begins = omega (arith, begins.ends.0, length-append (octets_of (proto_rrsig ▸ one rest) v.1) after)

-- octets of fields that fit, and are no more than a record can hold, are read as them alone
pub rrsig_back : (d : RrsigData) → Fits rrsig_layout (rrsig_values d) → length (rrsig_octets d) ≤ 65535 → ParsesBack rrsig_layout (rrsig_values d)
unfolding octets_of
rrsig_back d fits brief =
    let limit : length (octets_of (proto_rrsig ▸ one rest) (rrsig_values d).1 ++ []) ≤ 65535 = omega (
      arith,
      brief,
      length-append (octets_of (proto_rrsig ▸ one rest) (rrsig_values d).1) [],
    ) in
    parses_back rrsig_layout _ refl fits (limit, ((((tt, (tt, tt)), ((tt, (tt, tt)), tt)), tt), refl))

-- ---- signatures as tokens

pub length_of_rrsig : (d : RrsigData) → length (rrsig_octets d) ≡ 18 + length (wire_of d.fields.signer_name) + length d.signature
unfolding octets_of
length_of_rrsig d = omega (arith, length-append (wire_of d.fields.signer_name) d.signature)

pub too_many : (d : RrsigData) → (length (rrsig_octets d) ≤ 65535 → ⊥) → 65535 < 18 + length (wire_of d.fields.signer_name) + length d.signature
too_many d long = omega (arith, length_of_rrsig d, long)

-- ---- The texts of signatures: tokens spell one at most, and none where they are refused.

fields_exactly : (limit : Option ℕ) → IsExact (IsOfTokens limit) rrsig_fields_text (RefusesRrsigFields limit)
fields_exactly limit =
    let rtype = token_exact _ TypeText IsNoType (λ text m n x y. one_named _ _ text m n x y) (λ fault text n why is own. why.none n is)
    (λ x y text p q own also. p.said ∙ sym q.said) in
    let time = token_exact _ TimeToken IsNoTime (λ text m n x y. x.number.value ∙ sym y.number.value) (λ fault text n why is own. why.none n is)
    (λ x y text p q own also. p.said ∙ sym q.said) in
    both_exact _ _ _ _ _ rtype (both_exact _ _ _ _ _ (fields_exact limit lengths)
    (both_exact _ _ _ _ _ time (both_exact _ _ _ _ _ time (fields_exact limit signer))))

pub rrsig_exact : (limit : Option ℕ) → IsExactEntry (IsOfTokens limit) RrsigText (RefusesRrsig limit)
rrsig_exact limit =
    let exact = fields_exactly limit in
    record {
      once = λ old d e x y. grind (
        arith,
        common_steps,
        (same_fields rrsig_fields_text exact.once Base64 old _ _ d.signature e.signature x.spelled y.spelled),
        (same_octets rrsig_fields_text exact.once Base64 old _ _ _ _ x.spelled y.spelled),
      );
      none = λ old new fault d why own text.
          entry_refused limit rrsig_fields_text _ exact _ _ Base64 old new fault own _ d.signature text.spelled
          (λ many. omega (arith, many, text.fits, length_of_rrsig d)) why;
      one_fault = λ old m n x y p q own also. entry_refused_once limit rrsig_fields_text _ exact _ _ Base64 old m n x y p q own also;
    }

-- ---- what times and signatures are written as is read back

-- ---- times

stamp_number : (n : ℕ) → n < 2 ^ 32 → IsNumber 32 (without_leading_plus (decimal n)) n
stamp_number n small = grind (arith, common_steps, decimal_is_IsNumeral)

few_digits : (n : ℕ) → n < 2 ^ 32 → length (decimal n) ≤ 10
few_digits n small = length-decimal-le 10 n (omega arith) (omega (arith, small)) (omega (arith, small))

pub time_back : (stamp : ℕ) → stamp < 2 ^ 32 → TimeToken (decimal stamp) stamp
time_back stamp small = record { number = stamp_number stamp small; brief = few_digits stamp small }

pub time_text_back : (stamp : ℕ) → stamp < 2 ^ 32 → TimeText (decimal stamp) stamp
time_text_back stamp small = record { number = stamp_number stamp small; no_date = λ long. omega (arith, long, few_digits stamp small) }

-- ---- signatures

module _ (d : ProtoRrsigData) (fits : Fits proto_rrsig (proto_rrsig_values d)) where
  all_words : AllByRecursion IsWord (rrsig_words d)
  all_words = grind (arith, common_steps, type_word, decimal_word, name_word)

  fields_text : (after : List (List ℕ)) → rrsig_fields_text (rrsig_words d ++ after) (rrsig_fields d) after
  fields_text after =
      let last = decimal d.key_tag ∷ dotted d.signer_name ∷ after in
      let times = decimal d.expiration ∷ decimal d.inception ∷ last in (
        decimal d.algorithm ∷ decimal d.labels ∷ decimal d.original_ttl ∷ times,
        record { token = type_text d.type_covered; first = refl; holds = type_back _ fits.0.0.0 },
        (
          times,
          fields_back lengths (d.algorithm, (d.labels, d.original_ttl)) times refl (fits.0.0.1.0, (fits.0.0.1.1, fits.0.1.0.0)),
          (
            decimal d.inception ∷ last,
            record { token = decimal d.expiration; first = refl; holds = time_back _ fits.0.1.0.1.0 },
            (
              last,
              record { token = decimal d.inception; first = refl; holds = time_back _ fits.0.1.0.1.1 },
              fields_back signer (d.key_tag, d.signer_name) after refl (fits.0.1.1, fits.1),
            ),
          ),
        ),
      )

pub rrsig_text_back : (d : RrsigData) → Fits rrsig_layout (rrsig_values d) → length (rrsig_octets d) ≤ 65535 → RrsigText (words_of (rrsig_text d)) d
rrsig_text_back d fits brief = record {
  spelled = entry_line rrsig_fields_text Base64 (rrsig_words d.fields) (rrsig_fields d.fields) (encode_of standard d.signature) d.signature
      (all_words d.fields fits.1.0) (base64_plain _) (fields_text d.fields fits.1.0 _) (base64_back _ fits.1.1);
  fits = brief;
}
