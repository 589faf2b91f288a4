use Rattle.std.proofs.{Common.{◌≡◌, refl, rules}, lemmas.Iterator.{YieldsList-from_slice, YieldsList-from_map, Consumers.YieldsList-from_copied}}
use Rattle.std.{proofs.lemmas.Iterator.Search.cmp_from_yields_List, specs.{Char.to_ascii_lowercase, Ordering.nat_cmp}}
use Rattle.domain_fields.proofs.fields.lowered_with_octets_cmp.Goals as goal

pub returns : goal.returns
returns c =
    cmp_from_yields_List (λ x y. y ≡ x) _ nat_cmp _ c.cmp.ensures.ran
    (YieldsList-from_map _ to_ascii_lowercase (YieldsList-from_slice c.args.a.now (cc)) (cc) (λ x r q k. search rules))
    (λ it e. rw e (YieldsList-from_copied (YieldsList-from_slice c.args.b.now (cc))))
    (λ x y. refl)
