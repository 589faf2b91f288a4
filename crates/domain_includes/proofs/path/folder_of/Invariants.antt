use Rattle.std.proofs.Common.{◌≡◌, ◌≤◌, ◌<◌, ℕ, length, get_or}
use Rattle.std.specs.Prelude.{not, true}
use Rattle.domain_includes.specs.Paths.{is_slash}
use Rattle.domain_includes.proofs.path.folder_of.Given as goal

-- what is behind has no slash
abbrev pub invariant-loop-len : goal.invariant-loop-len
invariant-loop-len l = record {
  within : l.len ≤ length l.path;
  behind : (k : ℕ) → l.len ≤ k → k < length l.path → not (is_slash (get_or l.path k 0)) ≡ true;
}

abbrev pub decreases-loop-len : goal.decreases-loop-len
decreases-loop-len l = l.len
