use Rattle.std.proofs.{Common.{arith, ◌<◌, length, refl, subst}, lemmas.Grind.common_steps}
use Rattle.domain_borrowed.proofs.DataLemmas.{faulty_header, cut_data}
use Rattle.domain_borrowed.proofs.record.read_record.Goals as goal

pub returns-in_default-clause-none : goal.returns-in_default-clause-none
returns-in_default-clause-none c = grind (arith, common_steps, faulty_header)

pub returns-in_default-parse_octets-clause-none : goal.returns-in_default-parse_octets-clause-none
returns-in_default-parse_octets-clause-none c =
    λ r after fits e. cut_data _ _ _ c.in-Ok.ensures.ok
    (subst (λ n. length c.read.new.parser.left < n) c.from.ensures (c.in_default-parse_octets.ensures.short.0 refl)) r after fits e
