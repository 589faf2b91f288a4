-- Tokens from a number on, and texts that were appended one by one.
use Rattle.std.proofs.Common.{◌≡◌, ◌++◌, ◌∙◌, append_assoc}
use Rattle.std.proofs.lemmas.{Grind.common_steps, List.drop-map}
use Rattle.domain_octets.specs.Octets.{Octets}

pub ruleset view_steps = (common_steps, drop-map)

joined : (old a b c d : Octets) → (((old ++ a) ++ b) ++ c) ++ d ≡ old ++ (a ++ (b ++ (c ++ d)))
joined old a b c d = append_assoc ((old ++ a) ++ b) c d ∙ append_assoc (old ++ a) b (c ++ d) ∙ append_assoc old a (b ++ (c ++ d))

pub line_of : (old first second third line a b c d : Octets) → first ≡ old ++ a → second ≡ first ++ b → third ≡ second ++ c → line ≡ third ++ d
    → line ≡ old ++ (a ++ (b ++ (c ++ d)))
line_of old first second third line a b c d one two three four = rw (four, three, two, one) (joined old a b c d)
