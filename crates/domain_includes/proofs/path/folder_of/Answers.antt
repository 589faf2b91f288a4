use Rattle.std.proofs.Common.{arith, ◌≡◌, ◌-◌, ◌≤◌, ◌<◌, ℕ, length, ap, take, false, true, get_or, refl}
use Rattle.std.specs.Prelude.{not}
use Rattle.std.specs.List.{suffix_len}
use Rattle.std.proofs.lemmas.List.Sums.{suffix_len_is}
use Rattle.domain_octets.specs.Octets.{Octets}
use Rattle.domain_includes.specs.Paths.{folder_of, is_slash}
use Rattle.domain_includes.proofs.path.folder_of.Goals as goal
use Rattle.domain_includes.proofs.path.folder_of.Goals.{then-loop-len-test+else-path-len-ne47, else-loop-len-test}

folder_is : (path : Octets) (n : ℕ) → n ≤ length path → ((k : ℕ) → n ≤ k → k < length path → not (is_slash (get_or path k 0)) ≡ true)
    → (0 < n → not (is_slash (get_or path (n - 1) 0)) ≡ false) → take n path ≡ folder_of path
folder_is path n within behind before =
    let e : suffix_len (λ c. not (is_slash c)) path ≡ length path - n = suffix_len_is (λ c. not (is_slash c)) path n 0 within behind before in
    let m : n ≡ length path - suffix_len (λ c. not (is_slash c)) path = omega (arith, e, within) in
    ap (λ k. take k path) m

pub returns : goal.returns
returns c =
    folder_is c.args.path.now c.loop-len.len c.loop-len.invariant.within c.loop-len.invariant.behind
    (elim c.loop-len-test.branch [
      | then-loop-len-test+else-path-len-ne47 w ↦ λ h. rw w.if-path-len-ne47.false refl
      | else-loop-len-test w ↦ λ h. absurd (omega arith)
    ])
