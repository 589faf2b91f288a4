use Rattle.domain_types.proofs.SpellLemmas.{name_utf8}
use Rattle.domain_types.proofs.spell.read_name.Goals as goal

pub returns-in-Err-clause-err : goal.returns-in-Err-clause-err
returns-in-Err-clause-err c = λ labels is. c.in-Err.ensures.cases.0 (name_utf8 c.args.text.now labels is)
