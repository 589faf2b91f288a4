use Rattle.std.proofs.{Common.arith, lemmas.Grind.common_steps}
use Rattle.domain_rdata.proofs.zone_record_data.ZoneRecordData.same_type_cmp.Goals as goal

pub returns-in-Rrsig-Rrsig : goal.returns-in-Rrsig-Rrsig
returns-in-Rrsig-Rrsig g c = grind (arith, common_steps)
