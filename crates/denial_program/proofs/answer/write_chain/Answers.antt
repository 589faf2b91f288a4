use Rattle.std.proofs.Common.{arith}
use Rattle.denial_program.{specs.Text.nsec3_line, proofs.RunLemmas.line_added}
use Rattle.denial_program.proofs.answer.write_chain.Goals as goal

pub loop-place-preserved : goal.loop-place-preserved
loop-place-preserved g c =
    let link = c.in-Some.nsec3 in
    line_added nsec3_line c.args.chain.now.links c.loop-place.place link _ _ _ (omega arith) (c.in-Some.ensures.some link) c.loop-place.invariant
    c.in_ok-writeln.ensures.bytes
