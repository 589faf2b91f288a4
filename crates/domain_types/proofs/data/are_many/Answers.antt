use Rattle.std.proofs.Common.{take, arith, ◌<◌, refl}
use Rattle.std.proofs.lemmas.{List.take_rest, Grind.common_steps, Bool.Decides.nat_tests}
use Rattle.domain_types.proofs.DataLemmas.{many_cut, field_some}
use Rattle.domain_types.specs.Fields.{none}
use Rattle.domain_types.proofs.data.are_many.Goals as goal

pub parts-smaller : goal.parts-smaller
parts-smaller c = grind (arith, common_steps, (field_some c.args.field (take c.in-Some.len c.parts.rest.now) c.in-Some.ensures.some.1))

pub parts-preserved : goal.parts-preserved
parts-preserved c =
    let some : 0 < c.in-Some.len = grind (arith, common_steps, (field_some c.args.field (take c.in-Some.len c.parts.rest.now) c.in-Some.ensures.some.1)) in
    let cut = many_cut c.args.field c.parts.rest.now c.in-Some.len c.in-Some.ensures.some.0 some c.in-Some.ensures.some.1 in
    rw (take_rest c.parts.rest.now c.in-Some.len) (λ rest. c.parts.invariant.0 (cut.0 rest), λ whole. cut.1 (c.parts.invariant.1 whole))

pub returns : goal.returns
returns c = (λ yes. c.parts.invariant.0 (grind (arith, common_steps, nat_tests, none)), λ all. refl)
