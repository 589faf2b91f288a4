use Rattle.std.proofs.Common.{refl}
use Rattle.domain_fields.proofs.scan_fields.AddressFromToken.from_token.Goals as goal

pub returns-in-Err-clause-err : goal.returns-in-Err-clause-err
returns-in-Err-clause-err c = record { said = refl; none = λ octets h. c.in-Err.ensures.value (record { octets = octets }) h }
