use Rattle.std.proofs.{Common.{Some, arith, option_map, sym, ◌∙◌}, lemmas.Grind.common_steps}
use Rattle.domain_checker.specs.HashedReading.{encloser_of}
use Rattle.domain_answer.specs.HashedReading.{hashed_finding_of}
use Rattle.domain_nsec3.specs.View.{as_param_record}
use Rattle.judge_program.specs.Judged.{asked_records}
use Rattle.judge_program.proofs.RunLemmas.{told_whole, whole_told}
use Rattle.judge_program.proofs.nsec3_told.Inquiry.parts.Goals as goal

pub returns-clause-ok : goal.returns-clause-ok
returns-clause-ok g c = λ judged witnesses.
    let R = asked_records g.H.Nsec3Hasher.answer c.args.self.now in
    let q = c.args.self.now.question.now in
    let param = as_param_record (λ n. n) c.args.self.now.nsec3param.now in
    let shown = sym c.shows_records.ensures ∙ c.if-not-shows_records.false in
    rw shown (told_whole c.args.shown c.args.limit param R q.name c.args.judged.answer _ (λ e. grind (arith, common_steps))
    (whole_told R q.name q.rtype c.args.limit c.args.judged.answer judged shown param (option_map (encloser_of (λ n. n)) c.args.judged.encloser)
    (option_map (hashed_finding_of (λ n. n)) c.args.judged.wildcard) witnesses (λ e. grind (arith, common_steps)) _ (λ i. record {
      matched = c.encloser_part.ensures i;
      closer = c.closer_part.ensures i;
      wildcard = c.in_ok-wildcard.ensures.ok i;
      param = Some param;
    })))
