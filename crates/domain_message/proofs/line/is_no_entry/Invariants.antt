use Rattle.std.proofs.Common.{◌≡◌, drop}
use Rattle.domain_octets.specs.Text.{words_of}
use Rattle.domain_message.proofs.line.is_no_entry.Given as goal

-- no word begins before this octet
abbrev pub invariant-loop-octet : goal.invariant-loop-octet
invariant-loop-octet l = words_of (drop l.octet-index l.line) ≡ words_of l.line
