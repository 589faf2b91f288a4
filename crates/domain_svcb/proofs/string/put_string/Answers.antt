use Rattle.std.proofs.Common.{◌≡◌, ℕ, [], ◌∷◌, ◌++◌, arith, refl, ap, ◌∙◌, Option, Some}
use Rattle.std.proofs.lemmas.{Grind.common_steps, List.{take_rest, append_assoc}, Bool.Decides.nat_tests}
use Rattle.domain_svcb.specs.Strings.{string_octet}
use Rattle.domain_svcb.proofs.StringLemmas.{string_next, string_ended}
use Rattle.domain_svcb.proofs.string.put_string.Goals as goal

pub octets-preserved : goal.octets-preserved
octets-preserved c =
    let so = c.octets.invariant in
    let rest = c.octets.rest.now in
    let octet = c.in-Some.octet in
    let here : ◌≡◌ {A = Option (ℕ × ℕ)} (string_octet rest) (Some (octet, c.in-Some.used)) = cc in
    let items : c.push.new.self.items ≡ c.octets.out.items ++ octet ∷ [] = grind (arith, common_steps) in (
      so.0 ++ octet ∷ [],
      string_next c.args.text.now so.0 rest _ (so.0 ++ octet ∷ []) octet c.in-Some.used so.1 here (take_rest rest c.in-Some.used) refl,
      items ∙ ap (λ o. o ++ octet ∷ []) so.2 ∙ append_assoc c.args.out.now.items so.0 (octet ∷ []),
    )

pub returns-then-is_empty-clause-ok : goal.returns-then-is_empty-clause-ok
returns-then-is_empty-clause-ok c =
    let so = c.octets.invariant in
    let none : c.octets.rest.now ≡ [] = grind (arith, common_steps, nat_tests) in
    (so.0, string_ended c.args.text.now so.0 c.octets.rest.now so.1 none, so.2)
