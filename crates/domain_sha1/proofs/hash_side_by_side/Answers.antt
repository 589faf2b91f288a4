use Rattle.std.proofs.Common.{◌∙◌, arith, refl}
use Rattle.domain_sha1.proofs.hash_side_by_side.Goals as goal

pub returns : goal.returns
returns c =
    let hashed = c.iterate-states.ensures in
    let a = c.digest.ensures ∙ hashed 0 c.args.a.now (omega arith) c.requires.a c.pad.ensures in
    let b = c.digest-2.ensures ∙ hashed 1 c.args.b.now (omega arith) c.requires.b c.pad-2.ensures in
    let c' = c.digest-3.ensures ∙ hashed 2 c.args.c.now (omega arith) c.requires.c c.pad-3.ensures in
    let d = c.digest-4.ensures ∙ hashed 3 c.args.d.now (omega arith) c.requires.d c.pad-4.ensures in
    rw (a, b, c', d) refl
