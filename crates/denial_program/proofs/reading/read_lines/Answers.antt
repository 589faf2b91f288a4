use Rattle.std.{proofs.{lemmas.Grind.common_steps, Common.{◌≡◌, arith, subst, IfSome}}, specs.Str.Lines.lines}
use Rattle.denial_program.{specs.Listing.IsFirstBad, proofs.LineLemmas.{follows_bad, follows_end}}
use Rattle.denial_program.proofs.reading.read_lines.Goals as goal

pub returns-in_default-clause-ok : goal.returns-in_default-clause-ok
returns-in_default-clause-ok g c = follows_end _ _ _ _ _ c.loop-number.invariant (rw c.in_default.is at c.in_ok-said.ensures.none)

pub returns-in-Bad-clause-reads : goal.returns-in-Bad-clause-reads
returns-in-Bad-clause-reads g c = record {
  line = λ n is.
      let same : c.loop-number.number ≡ n = (let e = is in cc) in
      subst (λ m. IfSome (g.R.Read.remaining c.args.input.now) (λ all. IsFirstBad (lines all) m)) same
      (follows_bad _ _ _ _ _ c.loop-number.invariant c.in-Some.said (rw c.in-Some.is at c.in_ok-said.ensures.some) c.in-Bad.is);
  end = grind (arith, common_steps);
}
