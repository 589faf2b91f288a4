use Rattle.std.proofs.Common.{arith, sym, ◌∙◌}
use Rattle.std.proofs.lemmas.Grind.{common_steps}
use Rattle.denial_commands.proofs.WordLemmas.{zone_at}
use Rattle.denial_commands.proofs.source.place_of_zone.Goals as goal

pub returns-then-is_word-clause-some : goal.returns-then-is_word-clause-some
returns-then-is_word-clause-some c =
    zone_at c.args.words.now c.in_ok-least.least c.loop-place.place (grind (arith, common_steps)) (grind (arith, common_steps)) (grind (arith, common_steps))
    (sym c.is_word.ensures ∙ c.if-is_word.true)
