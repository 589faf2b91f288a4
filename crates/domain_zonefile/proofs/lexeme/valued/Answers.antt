use Rattle.std.proofs.{Common.{ap, drop}}
use Rattle.domain_zonefile.specs.Lexemes.{valued}
use Rattle.domain_zonefile.proofs.LexemeLemmas.{value_at, valued_at}
use Rattle.domain_zonefile.proofs.lexeme.valued.Goals as goal

pub returns-in-Bad : goal.returns-in-Bad
returns-in-Bad c =
    ap (valued c.args.len (drop c.args.len c.args.text.now)) (value_at c.args.text.now c.args.len _ c.in-Bad.ensures.value)

pub returns-then-begins_apart : goal.returns-then-begins_apart
returns-then-begins_apart c =
    let h = valued_at c.args.text.now c.args.len _ _ c.quoted-value.ensures.value c.in_default.not-Bad (rw c.len_of-more.ensures at
    c.if-begins_apart.ensures) in
    rw c.len_of-more.ensures h

pub returns : goal.returns
returns c =
    let h = valued_at c.args.text.now c.args.len _ _ c.quoted-value.ensures.value c.in_default.not-Bad (rw c.len_of-more.ensures at
    c.if-begins_apart.ensures) in
    rw c.len_of-more.ensures h
