use Rattle.std.{proofs.Common.{◌&&◌, length, map}, specs.Prelude.◌==◌}
use Rattle.denial_c.proofs.AmongLemmas.{IsRead}
use Rattle.denial_c.proofs.among.records_among.Given as goal

abbrev pub invariant-records : goal.invariant-records
invariant-records g l =
    let k = g.K.ReadAs in
    IsRead (λ r. k.counts l.apex r && (r.class == l.class)) k.raw k.IsFit l.octets l.parser.left (map k.said l.kept.items)

abbrev pub decreases-records : goal.decreases-records
decreases-records g l = length l.parser.left
