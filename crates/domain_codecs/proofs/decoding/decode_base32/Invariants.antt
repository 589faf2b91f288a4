use Rattle.std.proofs.Common.{◌≡◌, ◌≤◌, length, take}
use Rattle.domain_codecs.proofs.CodecLemmas.{Digits}
use Rattle.domain_codecs.proofs.decoding.decode_base32.Given as goal

abbrev pub invariant-loop-c : goal.invariant-loop-c
invariant-loop-c l = record {
  digits : Digits l.digits (take l.count l.octets) l.scale l.rest l.c-index;
  few : l.count ≤ l.c-index;
  size : length l.octets ≡ 64;
}
