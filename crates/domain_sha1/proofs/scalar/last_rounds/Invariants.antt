use Rattle.std.proofs.Common.{◌≡◌, ℕ, ◌*◌, ◌+◌, List}
use Rattle.sha1.specs.Sha1.{rounds}
use Rattle.domain_sha1.proofs.scalar.last_rounds.Given as goal

abbrev pub invariant-rounds : goal.invariant-rounds
invariant-rounds l = (h : List ℕ) → l.initial.v ≡ rounds h l.fn.w 60 → l.v ≡ rounds h l.fn.w (60 + 5 * l.group)
