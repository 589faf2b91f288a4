-- The data of keys and of digests.
use Rattle.std.proofs.{lemmas.Grind.common_steps, Common.{ℕ, List, [], length, arith, ◌≤◌, refl, length-append, Option}}
use Rattle.domain_keys.specs.Keys.{key_fields, KeyText, RefusesKey}
use Rattle.domain_fields.{specs.{Layout.{Values, octets_of, Fits, Begins, ParsesBack}, Scan.IsExactEntry}, proofs.ExactLemmas.parses_back}
use Rattle.domain_codecs.specs.declared.codec.Codec.{Codec}
use Rattle.domain_names.specs.Text.{IsOfTokens}

-- ---- the octets of data

pub limit_of_octets : (octets : List ℕ) (v : Values key_fields) (after : List ℕ) → Begins key_fields octets v after → length v.1.1.1.1 ≤ 65531
unfolding octets_of
limit_of_octets octets v after begins = omega (arith, begins.ends.1.1.1.0, length-append v.1.1.1.1 after)

-- octets of fields that fit, and are not too many, are read as them alone
pub parsed_back : (v : Values key_fields) → Fits key_fields v → length v.1.1.1.1 ≤ 65531 → ParsesBack key_fields v
unfolding octets_of
parsed_back v fits brief = parses_back key_fields v refl fits (tt, (tt, (tt, (omega (arith, brief, length-append v.1.1.1.1 []), refl))))

-- ---- The texts of keys and of digests: tokens spell one at most, and none where they are refused.

pub key_exact : (codec : Codec) (limit : Option ℕ) → IsExactEntry (IsOfTokens limit) (KeyText codec) (RefusesKey codec limit)
key_exact codec limit = record { once = grind (arith, common_steps); none = grind (arith, common_steps); one_fault = grind (arith, common_steps) }
