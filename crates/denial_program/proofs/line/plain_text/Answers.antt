use Rattle.std.proofs.{Common.arith, lemmas.{Grind.common_steps, List.Sums.{AllPass-from_list_all, list_all-from_AllPass}}}
use Rattle.denial_program.{specs.Listing.is_plain, proofs.LineLemmas.plain_is_text}
use Rattle.denial_program.proofs.line.plain_text.Goals as goal

pub returns-then-not-is_plain-clause-none : goal.returns-then-not-is_plain-clause-none
returns-then-not-is_plain-clause-none c = grind (arith, common_steps, (list_all-from_AllPass is_plain c.args.line.now))

pub from_utf8_unchecked-requires : goal.from_utf8_unchecked-requires
from_utf8_unchecked-requires c = plain_is_text c.args.line.now (AllPass-from_list_all is_plain c.args.line.now (grind (arith, common_steps)))
