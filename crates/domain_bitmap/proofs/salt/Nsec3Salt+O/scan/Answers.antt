use Rattle.std.proofs.{Common.arith, lemmas.Grind.common_steps}
use Rattle.domain_bitmap.proofs.TextLemmas.{refused_dash, took_dash, took_digits}
use Rattle.domain_bitmap.proofs.salt.Nsec3Salt+O.scan.Goals as goal

pub returns-then-alone : goal.returns-then-alone
returns-then-alone g c = record {
  ok = took_dash _ _ _ _ c.in-Some.ensures c.skip_token.ensures (c.dash-begins.ensures.alone.0 c.if-alone.true) (grind (arith, common_steps));
  err = tt;
}

pub returns-then-begins : goal.returns-then-begins
returns-then-begins g c = record {
  ok = tt;
  err = refused_dash _ _ _ _ c.in-Some.ensures c.skip_token.ensures (c.dash-begins.ensures.begins.0 c.if-begins.true)
      (λ is. let alone = c.dash-begins.ensures.alone.1 is in cc (alone, c.if-alone.false));
}

pub returns-in-Ok : goal.returns-in-Ok
returns-in-Ok g c = record {
  ok = took_digits _ _ _ _ c.in-Some.ensures (λ is. let begins = c.dash-begins.ensures.begins.1 is in cc (begins, c.if-begins.false))
      c.in-Ok.ensures.read.ok c.in-Ok.ensures.counted;
  err = tt;
}
