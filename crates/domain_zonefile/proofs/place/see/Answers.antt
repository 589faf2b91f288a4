use Rattle.std.proofs.Common.{arith, ◌∙◌, ap}
use Rattle.domain_zonefile.specs.Places.{place_in}
use Rattle.domain_zonefile.proofs.PlaceLemmas.{seen_small, part_small, see_on, place_end}
use Rattle.domain_zonefile.proofs.place.see.Goals as goal

pub place_behind-place-requires : goal.place_behind-place-requires
place_behind-place-requires c =
    let seen = c.known_before-before.result in
    let known = c.known_before-before.ensures.known in
    let small = seen_small c.args.file.now seen known in
    let part = part_small c.args.file.now seen.at c.min-at.result in
    record { line = omega (arith, small.0, part, known.within); column = omega (arith, small.1, part, known.within) }

pub returns-clause-known : goal.returns-clause-known
returns-clause-known c = record {
  within = omega (arith, c.min-at.ensures);
  is = see_on c.args.file.now c.known_before-before.result c.min-at.result _ c.known_before-before.ensures.known
      c.known_before-before.ensures.before c.place_behind-place.ensures;
}

pub returns-clause-place : goal.returns-clause-place
returns-clause-place c =
    see_on c.args.file.now c.known_before-before.result c.min-at.result _ c.known_before-before.ensures.known c.known_before-before.ensures.before
    c.place_behind-place.ensures
    ∙ ap (place_in c.args.file.now) c.min-at.ensures ∙ place_end c.args.file.now c.args.at
