use Rattle.std.proofs.Common.{drop}
use Rattle.std.specs.Prelude.{◌↔◌}
use Rattle.domain_types.specs.Fields.{AreFieldOctets}
use Rattle.domain_types.specs.declared.field.Tail.{Tail}
use Rattle.domain_types.proofs.data.after_fields.Given as goal

abbrev pub invariant-loop-field : goal.invariant-loop-field
invariant-loop-field l = (tail : Tail)
    → (AreFieldOctets (drop l.field-index l.fields) tail l.rest ↔ AreFieldOctets l.fields tail l.octets)
