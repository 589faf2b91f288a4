use Rattle.std.proofs.{Common.{inl, inr}, lemmas.Result.err_from_is_err_and}
use Rattle.domain_chain_rdata.specs.Rdata.{nsec3param_values}
use Rattle.domain_chain_rdata.proofs.nsec3.Nsec3.scan.Goals as goal

pub returns-in_err-params-clause-read : goal.returns-in_err-params-clause-read
returns-in_err-params-clause-read g c =
    let p = err_from_is_err_and c.from_residual.result c.from_residual.ensures.1 in
    rw (p.1, p.2) (record { ok = tt; err = inl (inl c.in_err-params.ensures.read.err) })

pub returns-in_err-next_owner-clause-read : goal.returns-in_err-next_owner-clause-read
returns-in_err-next_owner-clause-read g c =
    let p = err_from_is_err_and c.from_residual-in_err-next_owner.result c.from_residual-in_err-next_owner.ensures.1 in
    rw (p.1, p.2) (record {
      ok = tt;
      err = inl (inr (nsec3param_values c.in_ok-params.params, _, c.in_ok-params.ensures.read.ok, c.in_err-next_owner.ensures.err));
    })

pub returns-in_err-types-clause-read : goal.returns-in_err-types-clause-read
returns-in_err-types-clause-read g c =
    let p = err_from_is_err_and c.from_residual-in_err-types.result c.from_residual-in_err-types.ensures.1 in
    rw (p.1, p.2) (record {
      ok = tt;
      err = inr (
        (nsec3param_values c.in_ok-params.params, c.in_ok-next_owner.next_owner),
        _,
        (_, c.in_ok-params.ensures.read.ok, c.in_ok-next_owner.ensures.ok),
        c.in_err-types.ensures.err,
      );
    })
