use Rattle.std.proofs.Common.{arith}
use Rattle.denial_program.proofs.LineLemmas.{takes_line}
use Rattle.denial_program.proofs.reading.next_line.Goals as goal

pub returns-clause-some : goal.returns-clause-some
returns-clause-some g c =
    takes_line _ _ _ _ _ _ _ c.in-Ok.ensures.rest c.clear.ensures.items c.in-Ok.ensures.bytes
    (omega (arith, c.append_line.new.line.ok.0, c.clear.ensures.len, c.in-Ok.ensures.ok, c.if-count-eq0.false))
    c.deref.ensures.value c.without_end.ensures.ended c.without_end.ensures.last c.in_ok-said.ensures
