use Rattle.std.proofs.{Common.{arith, inl}, lemmas.Grind.common_steps}
use Rattle.denial_program.proofs.RunLemmas.{not_begun, run_done}
use Rattle.judge_program.{specs.{Command.AsksToJudge, Run.{HasNoText, IsJudgeText}}, proofs.RunLemmas.tells_no_text}
use Rattle.judge_program.proofs.program.run_judge.Goals as goal

pub returns-in_err-command-clause-run : goal.returns-in_err-command-clause-run
returns-in_err-command-clause-run g c =
    let hashes = g.H.Nsec3Hasher.answer c.args.hasher.now in
    let why = c.in_err-command.ensures.err in
    not_begun (λ t. t) AsksToJudge _ (λ command given. IsJudgeText hashes command.kind given command.question command.shown)
    (λ command given. HasNoText hashes command.kind given command.question) _ _ _ _ {S = Unit {0}} c.from_residual.result
    c.in_err-command.field-0.0 c.from_residual.ensures.1
    (record { line = λ n is. absurd (grind (arith, common_steps)); end = λ after. absurd (grind (arith, common_steps)) }) (grind (arith, common_steps))

pub returns-in_err-records-clause-run : goal.returns-in_err-records-clause-run
returns-in_err-records-clause-run g c =
    let hashes = g.H.Nsec3Hasher.answer c.args.hasher.now in
    not_begun (λ t. t) AsksToJudge _ (λ command given. IsJudgeText hashes command.kind given command.question command.shown)
    (λ command given. HasNoText hashes command.kind given command.question) _ _ _ _ c.from_residual-in_err-records.result
    c.in_err-records.field-0.0 c.from_residual-in_err-records.ensures.1 c.in_err-records.ensures.reads (inl c.in_err-records.ensures.err)

pub returns-clause-run : goal.returns-clause-run
returns-clause-run g c =
    let hashes = g.H.Nsec3Hasher.answer c.args.hasher.now in
    let command = c.in_ok-command.command in
    let given = c.in_ok-records.records.items in
    run_done (λ t. t) AsksToJudge _ (λ command given. IsJudgeText hashes command.kind given command.question command.shown)
    (λ command given. HasNoText hashes command.kind given command.question) _ _ _ _ (HasNoText hashes command.kind given command.question)
    command given c.in_ok-command.ensures.ok c.in_ok-records.ensures.ok c.in_ok-records.ensures.reads.end
    (tells_no_text hashes command.kind given command.question) c.write_judged.result c.write_judged.ensures.ok c.write_judged.ensures.err
