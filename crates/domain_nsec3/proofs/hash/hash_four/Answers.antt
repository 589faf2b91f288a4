use Rattle.std.proofs.{Common.{arith, rules, length, ◌≡◌, Vec, Global, ℕ, List, Bor}, lemmas.Grind.common_steps}
use Rattle.domain_nsec3.proofs.FourLemmas.{four_answered, four_of}
use Rattle.domain_nsec3.proofs.hash.hash_four.Goals as goal

pub returns : goal.returns
returns g c =
    let four : length c.args.names ≡ 4 = search rules in
    let are = four_of c.args.names _ _ _ _ four c.index-names-0.is c.index-names-1.is c.index-names-2.is c.index-names-3.is in
    four_answered (λ (v : Vec ℕ Global). v.items)
    (λ (wire : Bor (List ℕ)).
    g.H.Nsec3Hasher.answer c.args.hasher.now wire.now c.hash_algorithm-algorithm.result c.iterations-iterations.result c.as_slice-salt.result.now)
    _ c.in-Ok.hashes c.args.names c.lower_wire.result c.lower_wire-2.result c.lower_wire-3.result c.lower_wire-4.result _ _ _ _ c.in-Ok.ensures.ok are
    (grind (arith, common_steps)) (grind (arith, common_steps)) (grind (arith, common_steps)) (grind (arith, common_steps))
