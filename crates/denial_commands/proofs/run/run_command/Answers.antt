use Rattle.denial_commands.specs.declared.command.Subcommand.TheVariants.{Judge, Answer, Lint, Zone}
use Rattle.denial_commands.proofs.WordLemmas.{runs_as}
use Rattle.denial_commands.proofs.run.run_command.Goals as goal

pub returns-in-Judge : goal.returns-in-Judge
returns-in-Judge g c =
    runs_as (g.F.FileSource.gives c.args.files.now) c.args.path.now c.args.words.now c.word-item.result _ _ Judge
    c.in-len1-up.len_at_least c.word-item.is (rw c.as_str.ensures.value at c.in-Judge.ensures)
    (c.run_judging.ensures c.args.flags)

pub returns-in-Answer : goal.returns-in-Answer
returns-in-Answer g c =
    runs_as (g.F.FileSource.gives c.args.files.now) c.args.path.now c.args.words.now c.word-item.result _ _ Answer
    c.in-len1-up.len_at_least c.word-item.is (rw c.as_str.ensures.value at c.in-Answer.ensures)
    (c.run_answering.ensures c.args.flags)

pub returns-in-Lint : goal.returns-in-Lint
returns-in-Lint g c =
    runs_as (g.F.FileSource.gives c.args.files.now) c.args.path.now c.args.words.now c.word-item.result _ _ Lint
    c.in-len1-up.len_at_least c.word-item.is (rw c.as_str.ensures.value at c.in-Lint.ensures)
    (c.run_linting.ensures c.args.flags)

pub returns-in-Zone : goal.returns-in-Zone
returns-in-Zone g c =
    runs_as (g.F.FileSource.gives c.args.files.now) c.args.path.now c.args.words.now c.word-item.result _ _ Zone
    c.in-len1-up.len_at_least c.word-item.is (rw c.as_str.ensures.value at c.in-Zone.ensures)
    (c.run_listing.ensures c.args.flags (g.H.Nsec3Hasher.answer c.args.hasher.now))
