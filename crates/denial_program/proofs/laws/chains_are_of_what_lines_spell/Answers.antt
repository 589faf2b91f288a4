use Rattle.denial_program.proofs.SpelledLemmas.{lines_have_one_chain}
use Rattle.denial_program.proofs.laws.chains_are_of_what_lines_spell.Goals as goal

pub returns : goal.returns
returns c = lines_have_one_chain
