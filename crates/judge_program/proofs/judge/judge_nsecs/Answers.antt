use Rattle.std.proofs.Common.{◌≡◌, ◌++◌, ap, option_map, refl}
use Rattle.domain_nsec.specs.Chain.{links_of}
use Rattle.denial_program.specs.declared.fault.DenialFault.TheVariants.{OutOfMemory}
use Rattle.judge_program.specs.{Run.IsNsecText, Text.first_line, Told.{below_text, tellings_of}}
use Rattle.judge_program.proofs.{RunLemmas.unwritten, judge.judge_nsecs.{Given.Over, Goals.After-write_answer}}
use Rattle.judge_program.proofs.judge.judge_nsecs.Goals as goal

-- the text that is to be written is that of what the records answer
told : (g : Over) (c : After-write_answer g) → IsNsecText c.args.records.items c.args.question.now c.args.shown
    (first_line c.args.shown c.args.question.now.name c.judge_nsec_with_witnesses-judged.result.answer
    ++ below_text c.args.shown c.judge_nsec_with_witnesses-judged.result.answer (option_map tellings_of c.nsec_parts-parts.result))
told g c = record {
  answer = c.judge_nsec_with_witnesses-judged.result.answer;
  judged = record {
    links = links_of (λ n. n) c.in_ok-nsecs.nsecs.items;
    are = rw c.deref.ensures.value at c.in_ok-nsecs.ensures;
    is = rw c.deref-2.ensures.value at c.judge_nsec_with_witnesses-judged.ensures.judged;
  };
  is = ap (λ t. first_line c.args.shown c.args.question.now.name c.judge_nsec_with_witnesses-judged.result.answer
      ++ below_text c.args.shown c.judge_nsec_with_witnesses-judged.result.answer t)
      (c.nsec_parts-parts.ensures _ (rw c.deref-2.ensures.value at c.judge_nsec_with_witnesses-judged.ensures.judged)
      (rw c.deref-2.ensures.value at c.judge_nsec_with_witnesses-judged.ensures.witnesses));
}

pub returns-in-Ok-clause-ok : goal.returns-in-Ok-clause-ok
returns-in-Ok-clause-ok g c =
    record { made = _; is = told g (goal.at.returns-in-Ok-clause-ok g c).After-write_answer; appends = c.in-Ok.ensures }

pub returns-clause-err : goal.returns-clause-err
returns-clause-err g c = unwritten _ (λ e. e ≡ OutOfMemory) _ (told g (goal.at.returns-clause-err g c).After-write_answer) refl _ c.fault_of.ensures.either
