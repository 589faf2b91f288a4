use Rattle.std.proofs.{Common.{◌++◌, ◌∙◌, arith}, lemmas.Result.err_from_is_err_and}
use Rattle.domain_borrowed.specs.Data.{nsec3_record, raw_record_octets}
use Rattle.domain_nsec3.specs.Chain.{HashedLink}
use Rattle.domain_dnssec.proofs.WireLemmas.{long_record, onward}
use Rattle.domain_dnssec.proofs.wire.compose_nsec3s.Goals as goal

pub returns-in_err-add_nsec3-clause-err : goal.returns-in_err-add_nsec3-clause-err
returns-in_err-add_nsec3-clause-err g c =
    let link = c.in-Some.nsec3 in
    let p = err_from_is_err_and c.from_residual.result c.from_residual.ensures.1 in
    rw (p.1) (long_record nsec3_record _ c.loop-place.place link (omega arith) (c.in-Some.ensures.some link) _ p.0 p.2 c.in_err-add_nsec3.ensures.err)

pub loop-place-preserved : goal.loop-place-preserved
loop-place-preserved g c =
    let link = c.in-Some.nsec3 in
    let octets : HashedLink → _ = λ k. raw_record_octets (nsec3_record k) in
    c.in_ok-add_nsec3.ensures.ok ∙ (λ i. c.loop-place.invariant i ++ octets (c.in-Some.ensures.some link i))
    ∙ onward octets _ _ _ link (omega arith)
