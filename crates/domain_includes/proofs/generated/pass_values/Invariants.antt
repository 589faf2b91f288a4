use Rattle.std.proofs.Common.{◌≤◌, ◌-◌}
use Rattle.domain_includes.proofs.ValuesLemmas.{ValuesPassed}
use Rattle.domain_includes.proofs.generated.pass_values.Given as goal

-- the values that are left decide on all of them, after the records so far
abbrev pub invariant-values : goal.invariant-values
invariant-values g l = record {
  few : l.index ≤ 65536;
  passed : ValuesPassed g.S.RecordSink.takes l.path l.place l.generation l.fn.state l.fn.sink l.index l.state l.sink;
}

abbrev pub decreases-values : goal.decreases-values
decreases-values g l = 65536 - l.index
