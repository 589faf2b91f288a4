use Rattle.std.proofs.Common.{arith}
use Rattle.domain_nsec.specs.Chain.{as_link}
use Rattle.denial_program.{specs.Text.nsec_line, proofs.RunLemmas.line_added}
use Rattle.denial_program.proofs.answer.write_nsecs.Goals as goal

pub loop-place-preserved : goal.loop-place-preserved
loop-place-preserved g c =
    let link = as_link (λ n. n) c.in-Some.nsec in
    line_added nsec_line c.args.chain.now c.loop-place.place link _ _ _ (omega arith) (c.in-Some.ensures.some link) c.loop-place.invariant
    c.in_ok-writeln.ensures.bytes
