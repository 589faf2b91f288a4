use Rattle.domain_svcb.proofs.items.put_address.Goals as goal

pub returns-in-Err-clause-err : goal.returns-in-Err-clause-err
returns-in-Err-clause-err c = rw c.if-is_long.true (λ octets is. c.in-Err.ensures is.0 is.1)

pub returns-in-Err-parse_ascii-clause-err : goal.returns-in-Err-parse_ascii-clause-err
returns-in-Err-parse_ascii-clause-err c = rw c.if-is_long.false (λ octets is. c.in-Err-parse_ascii.ensures (record { octets = octets }) is)
