use Rattle.std.proofs.Common.{◌≡◌, ◌+◌, ◌-◌, ◌<◌, ◌^◌, arith, refl}
use Rattle.domain_location.specs.Lengths.{above, below}
use Rattle.domain_location.proofs.LengthLemmas.{no_altitude}
use Rattle.domain_location.proofs.lengths.altitude.Goals as goal

pub returns-in_default-centimetres-clause-none : goal.returns-in_default-centimetres-clause-none
returns-in_default-centimetres-clause-none c = λ n is.
    no_altitude c.args.text.now c.in-Some.metres.now n c.in-Some.ensures.some is c.in_default-centimetres.ensures.none

pub returns-in-Some-clause-some : goal.returns-in-Some-clause-some
returns-in-Some-clause-some c =
    let fits = c.in-Some-centimetres.ensures.fits in
    let sum : (10000000 - c.in-Some-centimetres.depth) + c.in-Some-centimetres.depth ≡ 10000000 = omega (arith, fits) in
    below c.args.text.now c.in-Some.metres.now c.in-Some-centimetres.depth (10000000 - c.in-Some-centimetres.depth) c.in-Some.ensures.some
    c.in-Some-centimetres.ensures.some sum

pub returns-clause-some : goal.returns-clause-some
returns-clause-some c =
    let fits = c.in-Some-centimetres-2.ensures.fits in
    let small : 10000000 + c.in-Some-centimetres-2.height < 2 ^ 32 = omega (arith, fits) in
    above c.args.text.now c.in-Some-centimetres-2.height (10000000 + c.in-Some-centimetres-2.height) c.in-Some-centimetres-2.ensures.some refl small
