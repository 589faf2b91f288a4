use Rattle.std.proofs.{Common.arith, lemmas.{Grind.common_steps, List.Folds.find-append}}
use Rattle.domain_octets.proofs.StdLemmas.{or_none}
use Rattle.domain_alike.proofs.AlikeLemmas.{hash_is}
use Rattle.domain_alike.proofs.alike.first_of_hash.Goals as goal

pub returns-in-Some : goal.returns-in-Some
returns-in-Some c = λ h names is firsts. (
  grind (arith, common_steps),
  λ q. grind (arith, common_steps, hash_is, or_none, find-append, (firsts q), (firsts c.args.hash)),
)

pub returns : goal.returns
returns c = λ h names is firsts. (
  grind (arith, common_steps),
  λ q. grind (arith, common_steps, hash_is, or_none, find-append, (firsts q), (firsts c.args.hash), (c.in_ok-insert.ensures.updates.0 q)),
)
