use Rattle.std.proofs.Common.{◌≡◌, ℕ, ◌*◌, ◌+◌, List}
use Rattle.sha1.specs.Sha1.{rounds}
use Rattle.domain_sha1.proofs.scalar.parity_rounds.Given as goal

abbrev pub invariant-rounds : goal.invariant-rounds
invariant-rounds l = (h : List ℕ) → l.initial.v ≡ rounds h l.fn.w 20 → l.v ≡ rounds h l.fn.w (20 + 5 * l.group)
