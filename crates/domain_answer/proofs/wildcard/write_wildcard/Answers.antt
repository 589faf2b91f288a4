use Rattle.std.proofs.{Common.arith, lemmas.List.{places, same_lists}}
use Rattle.domain_answer.proofs.wildcard.write_wildcard.Goals as goal

pub returns : goal.returns
returns c = same_lists _ _ (grind (arith, places)) (λ k d h. grind (arith, places))
