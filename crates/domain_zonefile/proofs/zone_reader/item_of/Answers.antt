use Rattle.domain_zonefile.proofs.zone_reader.item_of.Goals as goal

pub returns-in-Err : goal.returns-in-Err
returns-in-Err c = rw c.in-Entry.is (c.in-Err.ensures.err, c.in-Err.ensures.same.0, c.in-Err.ensures.same.1)
