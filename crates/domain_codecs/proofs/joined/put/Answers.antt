use Rattle.std.proofs.{Common.arith, lemmas.List.{places, same_lists}}
use Rattle.domain_codecs.proofs.joined.put.Goals as goal

pub returns-clause-front : goal.returns-clause-front
returns-clause-front c = λ count within. same_lists _ _ (grind (arith, places)) (λ k d h. grind (arith, places))
