use Rattle.std.proofs.Common.{◌∙◌, ◌≡◌, ◌++◌, ◌≤◌, ap, arith, drop, length, length-append}
use Rattle.domain_sha1.specs.Iterated.{iterated}
use Rattle.domain_sha1.proofs.IterateLemmas.{block_of, one_more, tail_stays}
use Rattle.domain_sha1.proofs.scalar.iterate_one.Goals as goal

pub loop-round-init : goal.loop-round-init
unfolding iterated
loop-round-init c =
    let m = c.args.name.now ++ c.args.salt.now in
    (ap (drop 20) c.pad-block.ensures, c.digest_block-digest.ensures m (omega (arith, length-append c.args.name.now c.args.salt.now)) c.pad.ensures)

pub loop-round-preserved : goal.loop-round-preserved
loop-round-preserved c =
    let d = c.loop-round.digest in
    let salt = c.args.salt.now in
    let long = c.set_front.ensures.long in
    let held = c.set_front.ensures.front ∙ block_of d salt c.loop-round.block long c.loop-round.invariant.0 in
    let fits : length (d ++ salt) ≤ 55 = omega (arith, length-append d salt) in
    let made = c.digest_block-digest-in-loop-round.ensures (d ++ salt) fits held in
    let tail = ap (drop 20) c.set_front.ensures.front ∙ tail_stays d (drop 20 c.loop-round.block) long ∙ c.loop-round.invariant.0 in
    (tail, one_more salt c.args.name.now d _ _ c.loop-round.invariant.1 made)

pub returns-then-iterations-eq0 : goal.returns-then-iterations-eq0
unfolding iterated
returns-then-iterations-eq0 c =
    let m = c.args.name.now ++ c.args.salt.now in
    rw c.if-iterations-eq0.true (c.digest_block-digest.ensures m (omega (arith, length-append c.args.name.now c.args.salt.now)) c.pad.ensures)
