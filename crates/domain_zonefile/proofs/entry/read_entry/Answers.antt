use Rattle.std.proofs.Common.{[]}
use Rattle.domain_zonefile.proofs.EntryLemmas.{enter_line, enter_fault, enter_more, entering_end}
use Rattle.domain_zonefile.proofs.entry.read_entry.Goals as goal

pub returns-then-ends_entry : goal.returns-then-ends_entry
returns-then-ends_entry c =
    enter_line c.args.file.now c.args.start c.lexemes.at c.lexemes.tokens c.lexemes.brackets _ c.lexemes.invariant c.lexemes-test.true
    c.lexeme_at-lexeme.ensures.value c.if-ends_entry.ensures

pub returns-in-Some : goal.returns-in-Some
returns-in-Some c =
    enter_fault c.args.file.now c.args.start c.lexemes.at c.lexemes.tokens c.lexemes.brackets _ _ _ [] c.lexemes.invariant c.lexemes-test.true
    c.lexeme_at-lexeme.ensures.value c.if-ends_entry.ensures c.in-Some.ensures c.in_ok-next.ensures

pub lexemes-preserved : goal.lexemes-preserved
lexemes-preserved c =
    enter_more c.args.file.now c.args.start c.lexemes.at c.lexemes.tokens _ c.lexemes.brackets _ _ _ c.lexemes.invariant c.lexemes-test.true
    c.lexeme_at-lexeme.ensures.value c.if-ends_entry.ensures c.in_default.ensures c.in_ok-push_token.ensures c.in_ok-pass.ensures
    c.len_of-at.ensures

pub returns : goal.returns
returns c =
    entering_end c.args.file.now c.args.start c.lexemes.at c.lexemes.tokens c.lexemes.brackets _ c.lexemes.invariant c.lexemes-test.false c.at_end.ensures
