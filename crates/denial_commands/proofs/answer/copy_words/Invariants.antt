use Rattle.std.proofs.Common.{◌≡◌, map, string_bytes, take}
use Rattle.denial_commands.proofs.answer.copy_words.Given as goal

-- the words so far are copied
abbrev pub invariant-loop-word : goal.invariant-loop-word
invariant-loop-word l = map string_bytes l.copy.items ≡ map string_bytes (take l.word-index l.words)
