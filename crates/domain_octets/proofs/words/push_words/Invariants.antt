use denote.{Shadow.shadow, Text.Utf8}
use Rattle.std.proofs.Common.{◌≡◌, ◌≤◌, ◌++◌, length}
use Rattle.domain_octets.specs.Text.{words_of}
use Rattle.domain_octets.proofs.WordLemmas.{texts}
use Rattle.domain_octets.proofs.words.push_words.Given as goal

abbrev pub invariant-loop-end : goal.invariant-loop-end
invariant-loop-end l = record {
  text : shadow (Utf8 l.rest);
  left : texts l.words ++ words_of l.rest ≡ texts l.fn.words ++ words_of l.line;
  grown : l.fn.words.capacity ≤ l.words.capacity;
}

abbrev pub decreases-loop-end : goal.decreases-loop-end
decreases-loop-end l = length l.rest
