use Rattle.std.proofs.Common.{map, length, ◌≤◌}
use Rattle.domain_types.specs.Reading.{token_text, AreRead}
use Rattle.domain_types.proofs.read.put_fields.Given as goal

abbrev pub invariant-loop-place : goal.invariant-loop-place
invariant-loop-place l = AreRead l.origin l.fields (map token_text l.tokens) l.place l.initial.out.items l.out.items × (l.place ≤ length l.tokens)
