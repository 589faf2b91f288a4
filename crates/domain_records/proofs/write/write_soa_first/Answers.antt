use Rattle.std.proofs.{lemmas.{Result.on_ok_weaker, Grind.common_steps}, Common.arith}
use Rattle.domain_records.{specs.Text.is_soa_record, proofs.LookupLemmas.both_parts}
use Rattle.domain_records.proofs.write.write_soa_first.Goals as goal

pub returns : goal.returns
returns g c = grind (arith, common_steps, (both_parts (g.L.Line.writes c.args.line.now) (is_soa_record g.D.RecordData.rtype) c.args.records.now), on_ok_weaker)
