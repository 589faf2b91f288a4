use Rattle.std.proofs.{Common.{arith, length, ◌≡◌, ◌<◌, ◌+◌, Vec, Global, ℕ}, lemmas.Grind.common_steps}
use Rattle.domain_nsec3.proofs.{OwnerLemmas.next_hashed, FourLemmas.four_known}
use Rattle.domain_nsec3.specs.{Chain.hash_name, View.{hash_by, parameters_of}}
use Rattle.domain_nsec3.proofs.hash.push_four.Goals as goal

pub returns-clause-hashes : goal.returns-clause-hashes
returns-clause-hashes g c =
    let known = four_known (λ (v : Vec ℕ Global). v.items)
    (hash_name (hash_by (g.H.Nsec3Hasher.answer c.args.hasher.now) (parameters_of c.args.params.now)))
    c.in_ok-hashes.hashes c.index-names-at.result c.index-names-at-2.result c.index-names-at-3.result c.index-names-at-4.result
    c.in_ok-hashes.ensures _ _ _ _ _ _ _ _
    c.as_slice.ensures.value c.as_slice-2.ensures.value c.as_slice-3.ensures.value c.as_slice-4.ensures.value in
    let at : c.len-at.result ≡ length c.args.hashed.now.items = grind (arith, common_steps) in
    let within : c.len-at.result + 3 < length c.args.names.now = omega (arith, c.requires.four) in
    let first = next_hashed _ _ _ _ _ _ _ _ _ at (omega arith) c.index-names-at.is known.0 c.in_ok-first.ensures
    c.push_reserved.ensures.items c.requires.before in
    let second = next_hashed _ _ _ _ _ _ _ _ _ first.0 (omega arith) c.index-names-at-2.is known.1 c.in_ok-second.ensures
    c.push_reserved-2.ensures.items first.1 in
    let third = next_hashed _ _ _ _ _ _ _ _ _ (grind (arith, common_steps)) (omega arith) c.index-names-at-3.is known.2 c.in_ok-third.ensures
    c.push_reserved-3.ensures.items second.1 in
    (next_hashed _ _ _ _ _ _ _ _ _ (grind (arith, common_steps)) (omega arith) c.index-names-at-4.is known.3 c.in_ok-fourth.ensures
    c.push_reserved-4.ensures.items third.1).1
