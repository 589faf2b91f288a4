use Rattle.std.{proofs.Common.{◌≡◌, ◌+◌, drop}, specs.List.prefix_len}
use Rattle.domain_octets.specs.Text.{is_blank}
use Rattle.domain_zonefile.proofs.lexeme.blank_len.Given as goal

-- the octets so far pass
abbrev pub invariant-loop-i : goal.invariant-loop-i
invariant-loop-i l = prefix_len is_blank l.text ≡ l.i + prefix_len is_blank (drop l.i l.text)
