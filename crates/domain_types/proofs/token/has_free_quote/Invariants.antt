use Rattle.std.proofs.Common.{◌≡◌, drop, false}
use Rattle.domain_types.specs.Reading.{has_quote}
use Rattle.domain_types.proofs.token.has_free_quote.Given as goal

abbrev pub invariant-loop-octet : goal.invariant-loop-octet
invariant-loop-octet l = has_quote l.taken (drop l.octet-index l.octets) ≡ has_quote false l.octets
