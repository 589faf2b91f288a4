use Rattle.std.proofs.Common.{map, drop, ◌≡◌, ◌++◌}
use Rattle.std.specs.{List.concat, Prelude.◌↔◌}
use Rattle.domain_types.specs.Reading.{token_text, token_texts, AreUnquoted}
use Rattle.domain_types.proofs.read.join_tokens.Given as goal

abbrev pub invariant-loop-token : goal.invariant-loop-token
invariant-loop-token l =
    (l.text.items ++ concat (token_texts (map token_text (drop l.token-index l.tokens))) ≡ concat (token_texts (map token_text l.tokens)))
    × (AreUnquoted (map token_text (drop l.token-index l.tokens)) ↔ AreUnquoted (map token_text l.tokens))
