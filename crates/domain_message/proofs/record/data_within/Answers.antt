use Rattle.domain_message.proofs.RecordLemmas.{copy_read, copy_refused, placed_plain, taken_fits}
use Rattle.std.proofs.Common.{arith}
use Rattle.domain_message.proofs.record.data_within.Goals as goal

pub returns-in-None-clause-ok : goal.returns-in-None-clause-ok
returns-in-None-clause-ok g c =
    let placed = placed_plain g.O.Builder.OctetsBuilder.limit _ c.args.rtype _ _ c.requires.inside c.in-None.ensures.none in
    copy_read g.O.Builder.OctetsBuilder.limit _ _ _ _ c.requires.inside _ _ _ _ placed (taken_fits _ _ (omega (arith, c.requires.short)))
    c.data_of.ensures.ok

pub returns-in-None-clause-err : goal.returns-in-None-clause-err
returns-in-None-clause-err g c =
    let placed = placed_plain g.O.Builder.OctetsBuilder.limit _ c.args.rtype _ _ c.requires.inside c.in-None.ensures.none in
    copy_refused _ _ _ _ _ c.requires.inside _ _ placed (taken_fits _ _ (omega (arith, c.requires.short))) c.data_of.ensures.err
