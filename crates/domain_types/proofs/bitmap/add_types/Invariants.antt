use Rattle.std.proofs.Common.{map}
use Rattle.domain_types.specs.Reading.{token_text}
use Rattle.domain_types.proofs.TypeSetLemmas.{AreAdded}
use Rattle.domain_types.proofs.bitmap.add_types.Given as goal

abbrev pub invariant-loop-place : goal.invariant-loop-place
invariant-loop-place l = AreAdded (map token_text l.tokens) l.place l.builder
