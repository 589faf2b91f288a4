use Rattle.std.proofs.Common.{arith, [], sym, append-nil}
use Rattle.std.proofs.lemmas.{Grind.common_steps, Bool.Decides.nat_tests}
use Rattle.domain_types.proofs.DataLemmas.{field_whole}
use Rattle.domain_types.proofs.data.is_one.Goals as goal

pub returns-in-Some : goal.returns-in-Some
returns-in-Some c =
    let whole = field_whole c.args.field c.args.octets.now c.in-Some.len c.in-Some.ensures.some.0 c.in-Some.ensures.some.1 in
    (λ yes. whole.0 (grind (arith, common_steps, nat_tests)), λ is. let same = whole.1 is in grind (arith, common_steps, nat_tests))

pub returns-in-None : goal.returns-in-None
returns-in-None c = (λ no. absurd (cc), λ is. absurd (c.in-None.ensures.none c.args.octets.now [] (sym (append-nil _)) is))
