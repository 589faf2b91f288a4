use Rattle.std.proofs.lemmas.Option.{slice_get_within}
use Rattle.domain_groups.{specs.Groups.items_of, proofs.GroupLemmas.{answered, answered_more}}
use Rattle.domain_groups.proofs.slice.SliceRefsOrOwned.first_match.Goals as goal

pub returns-then-test : goal.returns-then-test
returns-then-test g c =
    let items = items_of c.args.self.now in
    (slice_get_within items _ _ c.at.ensures, answered g.F.Fn _ items c.loop-i.i _ _ _ c.test.ensures c.if-test.true c.at.ensures, c.loop-i.invariant)

pub loop-i-preserved : goal.loop-i-preserved
loop-i-preserved g c =
    let items = items_of c.args.self.now in
    answered_more g.F.Fn _ items _ c.loop-i.invariant (answered g.F.Fn _ items c.loop-i.i _ _ _ c.test.ensures c.if-test.false c.at.ensures)
