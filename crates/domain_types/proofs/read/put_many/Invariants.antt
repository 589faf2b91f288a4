use Rattle.std.proofs.Common.{map}
use Rattle.domain_types.specs.Reading.{token_text}
use Rattle.domain_types.proofs.ReadLemmas.{IsReadMany}
use Rattle.domain_types.proofs.read.put_many.Given as goal

abbrev pub invariant-loop-place : goal.invariant-loop-place
invariant-loop-place l = IsReadMany l.origin l.field (map token_text l.tokens) l.place l.initial.out.items l.out.items
