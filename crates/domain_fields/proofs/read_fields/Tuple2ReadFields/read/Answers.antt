use Rattle.std.proofs.Common.{rules}
use Rattle.domain_fields.proofs.LayoutLemmas.{begins_both}
use Rattle.domain_fields.proofs.read_fields.Tuple2ReadFields.read.Goals as goal

pub returns : goal.returns
returns g c = record {
  ok = rw (← c.fork-ahead.ensures) (begins_both _ _ _ _ _ _ _ c.in_ok-first.ensures.ok c.in_ok-second.ensures.ok);
  err = tt;
  unmoved = tt;
  goes_on = search rules;
}
