use Rattle.std.proofs.{Common.{arith, rules, ◌≡◌, ◌==◌, false, length, ℕ, List, Bor}, lemmas.Grind.common_steps}
use Rattle.domain_sha1.proofs.HashesLemmas.{first_refused}
use Rattle.domain_sha1.proofs.Sha1HasherNsec3Hasher.hash_four.Goals as goal

pub returns-then-ne-clause-refused : goal.returns-then-ne-clause-refused
returns-then-ne-clause-refused c n refused =
    let four : length c.args.names ≡ 4 = search rules in
    let other : (c.args.algorithm == 1) ≡ false = grind (arith, common_steps) in
    let first = first_refused (λ (name : Bor (List ℕ)). name.now) c.args.algorithm c.args.iterations c.args.salt.now c.args.names (omega arith) other in
    grind (arith, common_steps)
