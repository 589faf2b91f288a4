use Rattle.std.proofs.{Common.arith, lemmas.{Grind.common_steps}}
use Rattle.domain_message.proofs.OneLineLemmas.{none_left}
use Rattle.domain_message.proofs.line.scan_behind_owner.Goals as goal

pub returns-clause-ok : goal.returns-clause-ok
returns-clause-ok g c =
    grind (arith, common_steps, (none_left (g.S.Scanner.tokens c.scan_rdata.new.scanner) c.continues.result c.continues.ensures c.if-continues.false))
