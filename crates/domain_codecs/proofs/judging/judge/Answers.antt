use Rattle.std.proofs.{Common.{refl, arith}, lemmas.Grind.common_steps}
use Rattle.hex.proofs.HexLemmas.{decode_of-digits}
use Rattle.domain_codecs.specs.{Codec.{base32_octets, base32_digits}, declared.codec.Codec.TheVariants.{Base16, Base32Hex, Base64}}
use Rattle.domain_codecs.proofs.RefusalLemmas.{digits_alone}
use Rattle.domain_codecs.proofs.judging.judge.Goals.{else-eq-2-via-then-eq-2+else-is_base64, else-eq-2-via-else-eq-2}
use Rattle.domain_codecs.proofs.judging.judge.Goals as goal

pub returns-in-Base16-clause-ok : goal.returns-in-Base16-clause-ok
returns-in-Base16-clause-ok c =
    rw c.in-Base16.is (decode_of-digits c.args.text.now (grind (arith, common_steps)) (digits_alone Base16 _ (rw c.in-Base16.is at c.in_default.ensures)))

pub returns-else-over-eq6-clause-ok : goal.returns-else-over-eq6-clause-ok
returns-else-over-eq6-clause-ok c =
    let none = digits_alone Base32Hex _ (rw c.in-Base32Hex.is at c.in_default.ensures) in
    rw c.in-Base32Hex.is
    (base32_octets 1 0 (base32_digits c.args.text.now), record { digits = none; whole = grind (arith, common_steps); value = refl })

pub returns-in-Base64-clause-err : goal.returns-in-Base64-clause-err
returns-in-Base64-clause-err c =
    rw c.in-Base64.is (
      λ octets decoded. elim c.else-eq-2.branch [
        | else-eq-2-via-then-eq-2+else-is_base64 w ↦ cc (w.is_base64.ensures.1 (octets, decoded), w.if-is_base64.false)
        | else-eq-2-via-else-eq-2 w ↦ cc (rw c.in-Base64.is at w.if-eq-2.ensures)
      ],
      digits_alone Base64 _ (rw c.in-Base64.is at c.in_default.ensures),
    )

pub returns-then-over-eq1-2-clause-err : goal.returns-then-over-eq1-2-clause-err
returns-then-over-eq1-2-clause-err c =
    rw c.in-Base32Hex.is (digits_alone Base32Hex _ (rw c.in-Base32Hex.is at c.in_default.ensures), grind (arith, common_steps))
