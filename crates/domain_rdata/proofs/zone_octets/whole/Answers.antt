use Rattle.std.proofs.{Common.{◌<◌, length, subst, arith, rules}, lemmas.Grind.common_steps}
use Rattle.domain_names.specs.Wire.{fault_of}
use Rattle.domain_fields.specs.Layout.{Begins, FirstFault}
use Rattle.domain_rdata.proofs.ScanLemmas.{at_fault, goes_on}
use Rattle.domain_rdata.proofs.zone_octets.whole.Goals as goal

pub returns-then-remaining-gt0-clause-err : goal.returns-then-remaining-gt0-clause-err
returns-then-remaining-gt0-clause-err g c =
    let left = c.parse_rdata.new.parser.left in
    let more : 0 < length left = grind (arith, common_steps) in
    let begins : Begins g.D.ParseRecordData.layout c.args.octets.now (g.D.ParseRecordData.values c.in-Ok-Some.data) left = search rules in
    goes_on _ _ (g.D.ParseRecordData.values c.in-Ok-Some.data) left c.requires.splits begins more

pub returns-in-Err-clause-err : goal.returns-in-Err-clause-err
returns-in-Err-clause-err g c =
    at_fault _ _ (fault_of c.in-Err.field-0) c.requires.splits
    (subst (λ p. FirstFault g.D.ParseRecordData.layout p.left (fault_of c.in-Err.field-0)) c.new-parser.ensures c.in-Err.ensures.err.1)
