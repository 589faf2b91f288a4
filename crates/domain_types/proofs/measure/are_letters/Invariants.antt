use Rattle.std.proofs.Common.{drop}
use Rattle.std.specs.{Prelude.{IsTrue, ◌↔◌}, Char.is_ascii_alphanumeric, List.AllByRecursion}
use Rattle.domain_types.proofs.measure.are_letters.Given as goal

abbrev pub invariant-loop-octet : goal.invariant-loop-octet
invariant-loop-octet l = AllByRecursion (λ c. IsTrue (is_ascii_alphanumeric c)) (drop l.octet-index l.octets)
    ↔ AllByRecursion (λ c. IsTrue (is_ascii_alphanumeric c)) l.octets
