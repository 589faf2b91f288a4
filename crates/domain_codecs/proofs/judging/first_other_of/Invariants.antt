use Rattle.std.proofs.Common.{◌≡◌, drop}
use Rattle.domain_codecs.specs.Codec.{first_other}
use Rattle.domain_codecs.proofs.judging.first_other_of.Given as goal

abbrev pub invariant-loop-c : goal.invariant-loop-c
invariant-loop-c l = first_other l.codec l.piece ≡ first_other l.codec (drop l.c-index l.piece)
