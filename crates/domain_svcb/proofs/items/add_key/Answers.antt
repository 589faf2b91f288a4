use Rattle.std.proofs.Common.{arith, ◌≡◌, true, sym, ◌∙◌}
use Rattle.std.proofs.lemmas.{Grind.common_steps, Bool.Decides.nat_tests}
use Rattle.domain_svcb.specs.{Values.has_key, Gathered.gathered}
use Rattle.domain_svcb.proofs.ItemLemmas.{no_key_added, no_zero_added, no_twice_added}
use Rattle.domain_svcb.proofs.items.add_key.Goals as goal

pub returns-in_default-clause-err : goal.returns-in_default-clause-err
returns-in_default-clause-err c = λ after. no_key_added c.args.item.now (gathered c.args.keys.now) after c.in_default.ensures.none

pub returns-then-key-eq0-clause-err : goal.returns-then-key-eq0-clause-err
returns-then-key-eq0-clause-err c = λ after. no_zero_added c.args.item.now c.in-Some.key (gathered c.args.keys.now) after c.in-Some.ensures.some
    c.if-key-eq0.true

pub returns-in-Ok-false-clause-err : goal.returns-in-Ok-false-clause-err
returns-in-Ok-false-clause-err c =
    let there : has_key c.in-Some.key (gathered c.args.keys.now) ≡ true = grind (arith, common_steps, nat_tests, c.in-Ok-false.ensures.new) in
    λ after. no_twice_added c.args.item.now c.in-Some.key (gathered c.args.keys.now) after c.in-Some.ensures.some there
