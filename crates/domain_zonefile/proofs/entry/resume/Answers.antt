use Rattle.std.proofs.Common.{ap, Some}
use Rattle.domain_zonefile.specs.Entries.{resume}
use Rattle.domain_zonefile.proofs.EntryLemmas.{skip_line, skip_more, skip_end, resume_some, resume_none}
use Rattle.domain_zonefile.proofs.entry.resume.Goals as goal

pub returns-then-ends_entry : goal.returns-then-ends_entry
returns-then-ends_entry c =
    ap (resume c.args.file.now (Some c.args.fault)) (skip_line c.args.file.now c.skipped.at c.skipped.brackets _ _ c.skipped.invariant
    c.skipped-test.true c.lexeme_at-lexeme.ensures.value c.if-ends_entry.ensures)

pub skipped-preserved : goal.skipped-preserved
skipped-preserved c =
    skip_more c.args.file.now c.skipped.at c.skipped.brackets _ _ _ _ c.skipped.invariant c.skipped-test.true c.lexeme_at-lexeme.ensures.value
    c.if-ends_entry.ensures c.in_ok-pass.ensures c.len_of-at.ensures

pub returns-in-Some : goal.returns-in-Some
returns-in-Some c =
    let end = skip_end c.args.file.now c.skipped.at c.skipped.brackets _ c.skipped.invariant c.skipped-test.false in
    resume_some c.args.file.now c.args.fault c.skipped.brackets _ _ _ _ end c.in-Some.ensures c.max.ensures c.line_after.ensures

pub returns-in-None : goal.returns-in-None
returns-in-None c =
    let end = skip_end c.args.file.now c.skipped.at c.skipped.brackets _ c.skipped.invariant c.skipped-test.false in
    resume_none c.args.file.now c.args.fault c.skipped.brackets _ end c.in-None.ensures
