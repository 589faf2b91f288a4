use Rattle.std.proofs.{Common.{◌++◌, ◌∙◌, arith}, lemmas.Result.err_from_is_err_and}
use Rattle.domain_borrowed.specs.Data.{nsec_record, raw_record_octets}
use Rattle.domain_nsec.specs.Chain.{Link, as_link}
use Rattle.domain_dnssec.proofs.WireLemmas.{long_record, onward}
use Rattle.domain_dnssec.proofs.wire.compose_nsecs.Goals as goal

pub returns-in_err-add_nsec-clause-err : goal.returns-in_err-add_nsec-clause-err
returns-in_err-add_nsec-clause-err g c =
    let link = as_link (λ n. n) c.in-Some.nsec in
    let p = err_from_is_err_and c.from_residual.result c.from_residual.ensures.1 in
    rw (p.1) (long_record nsec_record _ c.loop-place.place link (omega arith) (c.in-Some.ensures.some link) _ p.0 p.2 c.in_err-add_nsec.ensures.err)

pub loop-place-preserved : goal.loop-place-preserved
loop-place-preserved g c =
    let link = as_link (λ n. n) c.in-Some.nsec in
    let octets : Link → _ = λ k. raw_record_octets (nsec_record k) in
    c.in_ok-add_nsec.ensures.ok ∙ (λ i. c.loop-place.invariant i ++ octets (c.in-Some.ensures.some link i))
    ∙ onward octets _ _ _ link (omega arith)
