use Rattle.std.proofs.Common.{◌≡◌, ◌*◌, length, take}
use Rattle.hex.specs.Hex.{encode_with}
use Rattle.domain_codecs.proofs.base16.spell.Given as goal

abbrev pub invariant-loop-i : goal.invariant-loop-i
invariant-loop-i l = record {
  size : length l.buffer ≡ 64;
  written : take (2 * l.i) l.buffer ≡ encode_with l.alphabet (take l.i l.octets);
}
