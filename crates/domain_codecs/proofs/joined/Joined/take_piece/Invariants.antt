use Rattle.std.{proofs.Common.{◌≡◌, ◌≤◌, ◌++◌, length, map, take}, specs.List.concat}
use Rattle.domain_codecs.proofs.joined.Joined.take_piece.Given as goal

abbrev pub invariant-loop-count : goal.invariant-loop-count
invariant-loop-count l = record {
  read : take l.count l.buffer ++ l.self-inside.front.now ++ concat (map (λ text. text.now) l.self-inside.texts.now) ≡ l.fn.self;
  within : l.count ≤ 64;
  size : length l.buffer ≡ 64;
}

abbrev pub decreases-loop-count : goal.decreases-loop-count
decreases-loop-count l = length l.self-inside.texts.now
