use Rattle.std.proofs.lemmas.Result.{err_from_is_err_and}
use Rattle.denial_c.proofs.AmongLemmas.{nsecs_fault}
use Rattle.denial_c.proofs.judge.nsec_answer.Goals as goal

pub returns-in_err-nsecs : goal.returns-in_err-nsecs
returns-in_err-nsecs c =
    let p = err_from_is_err_and c.from_residual-in_err-nsecs.result c.from_residual-in_err-nsecs.ensures.1 in
    rw (p.1, p.2) (nsecs_fault c.args.apex.now c.args.name.now c.args.rtype c.args.class c.args.records.now (c.in_ok-apex.apex, c.in_ok-apex.ensures.ok)
    (c.in_ok-name.name, c.in_ok-name.ensures.ok) c.in_err-nsecs.field-0.0 (rw c.from_int.ensures at c.in_err-nsecs.ensures.err))
