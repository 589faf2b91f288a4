use Rattle.std.proofs.Common.{◌≡◌, ◌<◌, ℕ, Bool, true, false, not, Option, Some, None, is_some, length, refl, ap, subst, ◌∙◌, inl, inr}
use Rattle.std.proofs.lemmas.{Option.same_Some, Result.err_from_is_err_and}
use Rattle.domain_octets.proofs.StdLemmas.{none_some}
use Rattle.domain_names.specs.Name.{is_at_or_below}
use Rattle.domain_nsec3.specs.View.{hash_by}
use Rattle.domain_answer.specs.ZoneAnswer.{is_at_parent, is_meta_type}
use Rattle.domain_denier.proofs.{HashedDenyLemmas.{denied_by, denied_none, some_links}, HashedPickLemmas.{all_there, asked_less, placed_at, plain_read}}
use Rattle.domain_denier.proofs.HashedPickLemmas.{missing_plain, missing_wildcard, record_there, refused_below, wildcard_read}
use Rattle.domain_denier.proofs.nsec3.pick.{Given.Over, Goals.{After-first_answer-told, After-to_int-number}}
use Rattle.domain_denier.specs.HashedPicked.{IsPlaced, with_wildcard}
use Rattle.domain_denier.proofs.nsec3.pick.Goals as goal

-- the name lies in the zone, whose parent does not answer
low : (g : Over) (c : After-to_int-number g) → is_at_or_below (g.M.ToName.labels c.args.name.now) c.args.chain.now.param.owner ≡ true
low g c = c.requires.low

parent : (g : Over) (c : After-to_int-number g) → is_at_parent c.args.chain.now.param.owner (g.M.ToName.labels c.args.name.now) c.args.rtype ≡ false
parent g c = c.requires.here

asks : (g : Over) (c : After-to_int-number g) → is_meta_type c.args.rtype ≡ false
asks g c = c.requires.asks

small : (g : Over) (c : After-to_int-number g) → c.args.rtype < 65536
small g c = subst (λ n. n < 65536) c.to_int-number.ensures c.to_int-number.type_inv

pub returns-then-is_empty-clause-denied : goal.returns-then-is_empty-clause-denied
returns-then-is_empty-clause-denied g c =
    let here = (goal.at.returns-then-is_empty-clause-denied g c).After-to_int-number in
    let knows = c.hashed_chains_are_known.ensures in
    rw c.without_records.ensures (denied_none knows _ _ _ _ (small g here) (low g here) (parent g here) (asks g here)
    (λ zone. absurd (some_links zone.0 _ zone.1 _ (knows zone.0 _ zone.1 _ zone.2.is) (c.is_empty.ensures.0 c.if-is_empty.true))))

pub returns-in_default-clause-denied : goal.returns-in_default-clause-denied
returns-in_default-clause-denied g c =
    let here = (goal.at.returns-in_default-clause-denied g c).After-to_int-number in
    rw c.without_records-in_default.ensures (denied_none c.hashed_chains_are_known.ensures _ _ _ _ (small g here) (low g here) (parent g here) (asks g here)
    (rw c.in_default.is at c.in_ok-found.ensures.ok))

-- ---- where the closest encloser is found

placed : (g : Over) (c : After-first_answer-told g) → IsPlaced
    (hash_by (g.H.Nsec3Hasher.answer c.args.hasher.now) c.args.chain.now.param.parameters) c.args.chain.now
    (g.M.ToName.labels c.args.name.now) c.in-Some.encloser
placed g c = rw c.in-Some.is at c.in_ok-found.ensures.ok

-- no record is picked for the next closer name
no_cover : (o : Option ℕ) (b : Bool) → is_some o ≡ not b → b ≡ true → o ≡ None
no_cover None b e h = refl
no_cover (Some q) b e h = absurd (cc)

-- or one is
some_cover : (o : Option ℕ) (b : Bool) → is_some o ≡ not b → b ≡ false → (q : ℕ) × (o ≡ Some q)
some_cover None b e h = absurd (cc)
some_cover (Some q) b e h = (q, refl)

pub returns-then-is_none-clause-denied : goal.returns-then-is_none-clause-denied
returns-then-is_none-clause-denied g c =
    let at = goal.at.returns-then-is_none-clause-denied g c in
    let here = at.After-to_int-number in
    let p = placed g at.After-first_answer-told in
    let says = c.first_answer-told.ensures in
    let none = no_cover _ _ c.is_none.ensures c.if-is_none.true in
    denied_by c.hashed_chains_are_known.ensures _ _ _ _ (small g here) (low g here) (parent g here) (asks g here) _
    (λ zone.
    let e = placed_at _ _ _ _ p zone in
    let s = says e.sole.of.link e.sole.of.there in
    plain_read _ _ _ _ e _ refl s.1 refl s.0 none)
    (all_there _ _ _ _ p _ _ says _ (λ q e. absurd (none_some q e)))
    (missing_plain _ _ _ _ p _ _ says _ refl refl refl none)

-- ---- where it is

pub wildcard_answer-requires-clause-counts : goal.wildcard_answer-requires-clause-counts
wildcard_answer-requires-clause-counts g c =
    let at = goal.at.wildcard_answer-requires-clause-counts g c in
    let q = some_cover _ _ c.is_none.ensures c.if-is_none.false in
    asked_less _ _ _ _ (placed g at.After-first_answer-told) _ _ c.first_answer-told.ensures q.0 q.1

pub returns-in_err-wildcard-clause-err : goal.returns-in_err-wildcard-clause-err
returns-in_err-wildcard-clause-err g c =
    let at = goal.at.returns-in_err-wildcard-clause-err g c in
    let next = some_cover _ _ c.is_none.ensures c.if-is_none.false in
    let below = refused_below _ _ _ _ (placed g at.After-first_answer-told) _ _ c.first_answer-told.ensures next.0 next.1 (low g at.After-to_int-number) in
    let q = err_from_is_err_and c.from_residual-in_err-wildcard.result c.from_residual-in_err-wildcard.ensures.1 in
    rw (q.1, q.2) (elim c.in_err-wildcard.ensures.err [ inl full ↦ inl full | inr r ↦ inr (r.0, r.1, below r.0 r.2) ])

pub returns-clause-denied : goal.returns-clause-denied
returns-clause-denied g c =
    let at = goal.at.returns-clause-denied g c in
    let here = at.After-to_int-number in
    let p = placed g at.After-first_answer-told in
    let says = c.first_answer-told.ensures in
    let w = c.in_ok-wildcard.ensures.ok in
    let next = some_cover _ _ c.is_none.ensures c.if-is_none.false in
    let there = record_there c.args.chain.now.links _ w.found.inside in
    denied_by c.hashed_chains_are_known.ensures _ _ _ _ (small g here) (low g here) (parent g here) (asks g here) _
    (λ zone.
    let e = placed_at _ _ _ _ p zone in
    let s = says e.sole.of.link e.sole.of.there in
    let sole = w.found.sole zone in
    wildcard_read _ _ _ _ e _ refl s.1 _ refl w.is_match sole next.0 next.1
    (c.with_wildcard.ensures ∙ (λ i. with_wildcard (s.0 i) (w.answer sole.of.link sole.of.there i))))
    (all_there _ _ _ _ p _ _ says _ (λ q e. subst (λ n. n < length c.args.chain.now.links) (same_Some _ q e) w.found.inside))
    (missing_wildcard _ _ _ _ p _ _ says _ next.0 next.1 refl _ refl _ there.0 w.is_match
    (c.with_wildcard.ensures ∙ ap (with_wildcard _) (w.answer there.0 there.1)))
