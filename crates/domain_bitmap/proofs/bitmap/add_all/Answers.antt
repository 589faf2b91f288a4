use Rattle.std.proofs.Common.{Err, ap, arith}
use Rattle.domain_octets.proofs.StdLemmas.{if_err_of}
use Rattle.domain_bitmap.proofs.TextLemmas.{scan_starts, scan_goes, scan_ends, scan_refused, scan_full, none_left}
use Rattle.domain_bitmap.proofs.bitmap.add_all.Goals as goal

pub loop-scanner-init : goal.loop-scanner-init
loop-scanner-init g c = scan_starts _ _ c.requires

pub returns-in-Err-clause-err : goal.returns-in-Err-clause-err
returns-in-Err-clause-err g c = scan_refused _ _ _ _ _ _ c.loop-scanner.invariant (c.continues.ensures.0 c.loop-scanner-test.true) c.in-Err.ensures.err

pub loop-scanner-preserved : goal.loop-scanner-preserved
loop-scanner-preserved g c =
    let took = c.in-Ok.ensures.ok in
    scan_goes _ _ _ _ _ took.token _ c.loop-scanner.invariant took.first took.holds (grind arith)
    c.in_ok-add.ensures.ok c.in_ok-add.ensures.windows c.in_ok-add.ensures.size

pub returns-in_err-add-clause-err : goal.returns-in_err-add-clause-err
returns-in_err-add-clause-err g c =
    let took = c.in-Ok.ensures.ok in
    let full = scan_full _ _ _ _ _ took.token _ _ c.loop-scanner.invariant
    took.first took.holds (grind arith) (λ e. c.in_err-add.ensures.short.0 (ap Err e))
    (λ e. (c.in_err-add.ensures.memory (ap Err e)).1) in
    if_err_of _ _ _ c.from_residual.ensures.1 full

pub returns-clause-ok : goal.returns-clause-ok
returns-clause-ok g c = scan_ends _ _ _ c.loop-scanner.invariant
    (none_left _ (λ some. let yes_more = c.continues.ensures.1 some in cc (yes_more, c.loop-scanner-test.false)))

pub returns-clause-all : goal.returns-clause-all
returns-clause-all g c = none_left _ (λ some. let yes_more = c.continues.ensures.1 some in cc (yes_more, c.loop-scanner-test.false))
