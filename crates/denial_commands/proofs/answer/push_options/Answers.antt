use Rattle.std.proofs.Common.{arith}
use Rattle.std.proofs.lemmas.Grind.{common_steps}
use Rattle.denial_commands.proofs.WordLemmas.{three_more}
use Rattle.denial_commands.proofs.answer.push_options.Goals as goal

pub returns : goal.returns
returns c =
    three_more c.args.is_nsec3 _ _ _ _ (grind (arith, common_steps)) c.in_ok-push_word.ensures c.in_ok-push_word-2.ensures c.in_ok-push_word-3.ensures
