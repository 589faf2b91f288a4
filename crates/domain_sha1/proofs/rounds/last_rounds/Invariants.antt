use Rattle.std.proofs.Common.{◌≡◌, ℕ, ◌*◌, ◌+◌, ◌<◌, List}
use Rattle.sha1.specs.Sha1.{rounds}
use Rattle.domain_sha1.specs.Lanes.{lane}
use Rattle.domain_sha1.proofs.rounds.last_rounds.Given as goal

abbrev pub invariant-rounds : goal.invariant-rounds
invariant-rounds l = (j : ℕ) (h : List ℕ) → j < 4 → lane j l.initial.v ≡ rounds h (lane j l.fn.w) 60
    → lane j l.v ≡ rounds h (lane j l.fn.w) (60 + 5 * l.group)
