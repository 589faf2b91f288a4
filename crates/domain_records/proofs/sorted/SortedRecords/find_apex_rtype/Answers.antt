use Rattle.std.proofs.Common.{Some}
use Rattle.domain_records.proofs.LookupLemmas.{found_by, matches_alike}
use Rattle.domain_records.proofs.sorted.SortedRecords.find_apex_rtype.Goals as goal

pub returns : goal.returns
returns g c =
    let labels = g.N.ToName.labels in
    let rtype = g.D.RecordData.rtype in
    let owner = labels c.args.apex.now in
    let found = found_by _ rtype _ (matches_alike labels rtype owner (Some c.args.rtype)) _ _ _ c.first_place.ensures c.rrset_at.ensures in
    rw (← c.as_slice-records.ensures.records) found
