use Rattle.std.proofs.{lemmas.Grind.common_steps, Common.{◌≡◌, ◌+◌, take, eqb-true, refl, subst, arith, IfSome}, BufReadLemmas.Consumes_shown}
use Rattle.std.specs.Io.BufRead.{take_through, DropsThrough, FillKeeps}
use Rattle.denial_program.proofs.{LineLemmas.line_taken, reading.append_line.{Given.Over, Goals.After-consume}}
use Rattle.denial_program.proofs.reading.append_line.Goals as goal

-- the octets that the reader held up to the first line feed were taken
found : (g : Over) (c : After-consume g) →
    IfSome (g.R.Read.remaining c.args.input.now) (λ all. take (c.in-Some.place + 1) c.in-Ok.held.now ≡ take_through 10 all)
    × DropsThrough (g.R.Read.remaining c.args.input.now) (g.R.Read.remaining c.consume.new.self) 10
found g c =
    let held = c.in-Ok.held.now in
    let rested = c.fill_buf.follows.lender-at-none in
    let filled = subst (FillKeeps _ (g.R.Read.remaining rested) (g.R.BufRead.consumable_len rested)) c.in-Ok.is c.fill_buf.follows.holds-at-none in
    let first = c.in-Some.ensures in
    let moved = Consumes_shown _ _ _ _ held _ (omega (arith, first.0.high)) c.in-Ok.ensures.front c.in-Ok.ensures.end filled.0 filled.1
    c.consume.ensures.bytes in
    line_taken _ _ held c.in-Some.place first.0.high (λ k lt is. first.0.before k (omega arith) lt (rw is refl)) (eqb-true _ _ first.1) moved.0

pub returns-clause-bytes : goal.returns-clause-bytes
returns-clause-bytes g c = grind (arith, common_steps, (found g c))

pub returns-clause-rest : goal.returns-clause-rest
returns-clause-rest g c = (found g c).1
