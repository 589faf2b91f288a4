use Rattle.std.proofs.Common.{arith, refl, ◌<◌, ◌≤◌, ◌≡◌, length, subst, ◌+◌}
use Rattle.std.proofs.lemmas.{List.take_rest, Grind.common_steps, Bool.Decides.nat_tests}
use Rattle.domain_svcb.specs.Parameters.{AreParameters, short_at}
use Rattle.domain_svcb.proofs.WireLemmas.{params_cut, params_low, params_end}
use Rattle.domain_svcb.proofs.wire.are_parameters.Goals as goal

pub returns-then-key-least : goal.returns-then-key-least
returns-then-key-least c =
    let rest = c.parts.rest.now in
    let some : 0 < length rest = grind (arith, common_steps, nat_tests) in
    let low : short_at 0 rest < c.parts.least = grind (arith, common_steps) in
    (λ no. absurd (cc), λ all. absurd (params_low c.parts.least rest some low (c.parts.invariant.1 all)))

pub parts-preserved : goal.parts-preserved
parts-preserved c =
    let rest = c.parts.rest.now in
    let low : c.parts.least ≤ short_at 0 rest = grind (arith, common_steps) in
    let key : c.from-key.result ≡ short_at 0 rest = grind (arith, common_steps) in
    let cut = params_cut c.parts.least rest _ c.in-Some.len c.in-Some.ensures.some.1 c.in-Some.ensures.some.0 c.in-Some.ensures.some.2 low
    (take_rest rest c.in-Some.len) in
    rw key (λ more. c.parts.invariant.0 (cut.0 more), λ all. cut.1 (c.parts.invariant.1 all))

pub returns : goal.returns
returns c =
    let empty : length c.parts.rest.now ≡ 0 = grind (arith, common_steps, nat_tests) in
    (λ yes. c.parts.invariant.0 (params_end c.parts.least c.parts.rest.now empty), λ all. refl)
