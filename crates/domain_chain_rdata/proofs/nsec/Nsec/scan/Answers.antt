use Rattle.std.proofs.{Common.inr, lemmas.Result.err_from_is_err_and}
use Rattle.domain_chain_rdata.proofs.nsec.Nsec.scan.Goals as goal

pub returns-in_err-types : goal.returns-in_err-types
returns-in_err-types g c =
    let p = err_from_is_err_and c.from_residual-in_err-types.result c.from_residual-in_err-types.ensures.1 in
    rw (p.1, p.2) (record { ok = tt; err = inr (_, _, c.in_ok-next_name.ensures.ok, c.in_err-types.ensures.err) })
