use Rattle.std.proofs.{Common.{arith, inl}, lemmas.Grind.common_steps}
use Rattle.denial_program.{specs.{Answer.{HasNoAnswer, IsAnswer, IsUnmade}, Command.Asks, Text.reply_text}, proofs.RunLemmas.{tells_none, not_begun, run_done}}
use Rattle.denial_program.proofs.program.run_with.Goals as goal

pub returns-in_err-command-clause-run : goal.returns-in_err-command-clause-run
returns-in_err-command-clause-run g c =
    let answers = g.H.Nsec3Hasher.answer c.args.hasher.now in
    let why = c.in_err-command.ensures.err in
    not_begun (reply_text c.args.flags) Asks _ (IsAnswer answers) (HasNoAnswer answers) _ _ _ _ {S = Unit {0}} c.from_residual.result
    c.in_err-command.field-0.0 c.from_residual.ensures.1
    (record { line = λ n is. absurd (grind (arith, common_steps)); end = λ after. absurd (grind (arith, common_steps)) }) (grind (arith, common_steps))

pub returns-in_err-records-clause-run : goal.returns-in_err-records-clause-run
returns-in_err-records-clause-run g c =
    let answers = g.H.Nsec3Hasher.answer c.args.hasher.now in
    not_begun (reply_text c.args.flags) Asks _ (IsAnswer answers) (HasNoAnswer answers) _ _ _ _ c.from_residual-in_err-records.result
    c.in_err-records.field-0.0 c.from_residual-in_err-records.ensures.1 c.in_err-records.ensures.reads (inl c.in_err-records.ensures.err)

pub returns-clause-run : goal.returns-clause-run
returns-clause-run g c =
    let answers = g.H.Nsec3Hasher.answer c.args.hasher.now in
    let command = c.in_ok-command.command in
    let given = c.in_ok-records.records.items in
    run_done (reply_text c.args.flags) Asks _ (IsAnswer answers) (HasNoAnswer answers) _ _ _ _ (IsUnmade (HasNoAnswer answers command given)) command given
    c.in_ok-command.ensures.ok c.in_ok-records.ensures.ok c.in_ok-records.ensures.reads.end (tells_none answers command given)
    c.write_answer.result c.write_answer.ensures.ok c.write_answer.ensures.err

pub returns-clause-memory : goal.returns-clause-memory
returns-clause-memory g c = grind (arith, common_steps)
