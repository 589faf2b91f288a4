use Rattle.std.proofs.Common.{◌≡◌, ◌≤◌, length, take}
use Rattle.domain_codecs.proofs.CodecLemmas.{Digits}
use Rattle.domain_checker.proofs.nsec3.read_label.Given as goal

abbrev pub invariant-loop-c : goal.invariant-loop-c
invariant-loop-c l = record {
  digits : Digits l.label (take l.count l.buffer) l.scale l.rest l.c-index;
  few : l.count ≤ l.c-index;
  size : length l.buffer ≡ 63;
}
