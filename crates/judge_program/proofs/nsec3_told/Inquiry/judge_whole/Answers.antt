use Rattle.judge_program.proofs.nsec3_told.Inquiry.judge_whole.Goals as goal

pub returns-clause-ok : goal.returns-clause-ok
returns-clause-ok g c =
    let judged = rw c.in-Some.is at c.in_ok-found.ensures.judged in
    let witnesses = rw c.in-Some.is at c.in_ok-found.ensures.witnesses in
    record { judged = judged; parts = c.in_ok-parts.ensures.ok judged witnesses }
