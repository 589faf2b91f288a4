use Rattle.std.proofs.Common.{◌≡◌, ◌-◌, ◌≤◌, ◌++◌, ℕ, List, length, map, slice_index, take}
use Rattle.domain_codecs.specs.Base32.{AreDigits}
use Rattle.domain_codecs.proofs.base32.Digits.put.Given as goal

-- the digits that are written
abbrev pub invariant-loop-buffer : goal.invariant-loop-buffer
invariant-loop-buffer l = record {
  within : l.end ≤ length l.buffer;
  room : length l.buffer ≡ length l.initial.buffer;
  written : (digits : List ℕ) × AreDigits digits × (l.initial.self ≡ digits ++ l.self) × (take l.end l.buffer ≡ map (slice_index l.alphabet) digits);
}

abbrev pub decreases-loop-buffer : goal.decreases-loop-buffer
decreases-loop-buffer l = length l.buffer - l.end
