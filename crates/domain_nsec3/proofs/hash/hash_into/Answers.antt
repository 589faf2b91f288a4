use Rattle.std.proofs.{lemmas.{Result.err_from_is_err_and, Grind.common_steps}, Common.arith}
use Rattle.domain_nsec3.proofs.OwnerLemmas.{all_hashed, first_refused, one_hashed}
use Rattle.domain_nsec3.proofs.hash.hash_into.Goals as goal

pub loop-place-preserved : goal.loop-place-preserved
loop-place-preserved g c = grind (arith, common_steps, one_hashed)

pub returns-in_err-octets-clause-err : goal.returns-in_err-octets-clause-err
returns-in_err-octets-clause-err g c =
    let p = err_from_is_err_and c.from_residual.result c.from_residual.ensures.1 in
    grind (arith, common_steps, first_refused)

pub returns-clause-ok : goal.returns-clause-ok
returns-clause-ok g c = all_hashed _ _ _ _ (grind (arith, common_steps)) c.loop-place.invariant.0
