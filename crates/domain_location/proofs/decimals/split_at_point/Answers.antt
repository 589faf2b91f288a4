use Rattle.std.proofs.Common.{[], refl}
use Rattle.domain_location.specs.Decimals.{no_point}
use Rattle.domain_location.proofs.DecimalLemmas.{parted}
use Rattle.domain_location.proofs.decimals.split_at_point.Goals as goal

pub returns-then-text-i-eq46-clause-parts : goal.returns-then-text-i-eq46-clause-parts
returns-then-text-i-eq46-clause-parts c = parted c.args.text.now c.loop-i.i c.loop-i-test.true c.if-text-i-eq46.true

pub returns-clause-parts : goal.returns-clause-parts
returns-clause-parts c = no_point c.args.text.now c.args.text.now [] refl refl
