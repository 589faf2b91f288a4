use Rattle.std.proofs.Common.{◌≡◌, ◌*◌, Ok, length, take}
use Rattle.hex.specs.Hex.{decode_pairs}
use Rattle.domain_codecs.proofs.decoding.read_octets.Given as goal

abbrev pub invariant-loop-i : goal.invariant-loop-i
invariant-loop-i l = record {
  size : length l.octets ≡ length l.initial.octets;
  read : decode_pairs 0 (take (2 * l.i) l.digits) ≡ Ok (take l.i l.octets);
}
