use Rattle.std.proofs.Common.{◌++◌, option_map, refl}
use Rattle.domain_nsec3.specs.View.{as_param_record, hashed_links_of}
use Rattle.judge_program.specs.{Judged.IsNotNsec3Judged, Run.IsNsec3Text, Text.first_line, Told.{below_text, tellings_of}}
use Rattle.judge_program.proofs.{RunLemmas.unwritten, judge.judge_nsec3s.{Given.Over, Goals.After-write_answer}}
use Rattle.judge_program.proofs.judge.judge_nsec3s.Goals as goal

-- the text that is to be written is that of what the records answer
told : (g : Over) (c : After-write_answer g)
    → IsNsec3Text (g.H.Nsec3Hasher.answer c.args.hasher.now) c.args.records.items c.args.question.now c.args.asked c.args.shown
    (first_line c.args.shown c.args.question.now.name c.in_ok-told.told.answer
    ++ below_text c.args.shown c.in_ok-told.told.answer (option_map tellings_of c.in_ok-told.told.parts))
told g c = record {
  answer = c.in_ok-told.told.answer;
  judged = record {
    param = as_param_record (λ n. n) c.in_ok-made.made.nsec3param;
    single = c.in_ok-made.ensures.param;
    links = hashed_links_of (λ n. n) c.in_ok-made.made.nsec3s.items;
    are = c.in_ok-made.ensures.nsec3s;
    is = (rw c.in_ok-index.ensures at c.in_ok-told.ensures.ok).judged;
  };
  told = option_map tellings_of c.in_ok-told.told.parts;
  are = (rw c.in_ok-index.ensures at c.in_ok-told.ensures.ok).parts;
  is = refl;
}

pub returns-in-Ok-clause-ok : goal.returns-in-Ok-clause-ok
returns-in-Ok-clause-ok g c =
    record { made = _; is = told g (goal.at.returns-in-Ok-clause-ok g c).After-write_answer; appends = c.in-Ok.ensures }

pub returns-clause-err : goal.returns-clause-err
returns-clause-err g c =
    unwritten _ (IsNotNsec3Judged (g.H.Nsec3Hasher.answer c.args.hasher.now) c.args.records.items c.args.question.now c.args.asked) _
    (told g (goal.at.returns-clause-err g c).After-write_answer) tt _ c.fault_of.ensures.either
