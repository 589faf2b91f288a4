use Rattle.std.{proofs.Common.{◌≡◌, ◌+◌, ◌%◌, ◌<◌, length, map}, specs.List.concat}
use Rattle.domain_octets.specs.Octets.{AreOctets}
use Rattle.domain_codecs.proofs.joined.over_eight.Given as goal

abbrev pub invariant-loop-left : goal.invariant-loop-left
invariant-loop-left l = record {
  small : l.over < 8;
  sum : (l.over + length (concat (map (λ text. text.now) l.left))) % 8 ≡ length (concat (map (λ text. text.now) l.texts)) % 8;
  octets : AreOctets (concat (map (λ text. text.now) l.left)) → AreOctets (concat (map (λ text. text.now) l.texts));
}

abbrev pub decreases-loop-left : goal.decreases-loop-left
decreases-loop-left l = length l.left
