use Rattle.std.proofs.Common.{◌≡◌, ℕ, ◌+◌, ◌*◌, ◌<◌, get_or, length}
use Rattle.std.specs.{Prelude.slice_range, Net.Grammar.IsGroup}
use Rattle.domain_types.proofs.address.spell_eui.Given as goal

abbrev pub invariant-loop-i : goal.invariant-loop-i
invariant-loop-i l = record {
  digits : (k : ℕ) → k < l.i → IsGroup (slice_range l.text (3 * k) (3 * k + 2)) (get_or l.octets k 0);
  dashes : (k : ℕ) → k + 1 < l.i → get_or l.text (3 * k + 2) 0 ≡ 45;
  full : length l.octets ≡ 8;
}
