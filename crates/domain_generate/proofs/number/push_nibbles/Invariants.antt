use Rattle.std.proofs.Common.{◌≡◌, ◌++◌, ◌-◌, false}
use Rattle.domain_generate.specs.Patterns.{nibbles_text}
use Rattle.domain_generate.proofs.number.push_nibbles.Given as goal

-- what was appended and what is left are all of it
abbrev pub invariant-nibbles : goal.invariant-nibbles
invariant-nibbles l =
    l.line.items ++ nibbles_text l.is_dot l.upper (l.len - l.counter) l.rest ≡ l.fn.line.items ++ nibbles_text false l.upper l.len l.number
