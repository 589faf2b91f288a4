use Rattle.std.proofs.{Common.{◌≡◌, ◌+◌, ◌∙◌, List, ap, get_or, subst, sym, arith}, lemmas.Grind.common_steps}
use Rattle.domain_nsec3.specs.{Chain.hashed_owner, View.text_before_data}
use Rattle.domain_nsec3.proofs.OwnerLemmas.{shared_before_data}
use Rattle.domain_codecs.specs.Base32.{base32_lower}
use Rattle.std.specs.Prelude.{◌++◌}
use Rattle.domain_nsec3.{specs.{declared.hash.Hashed.Hashed, Steps.common_of}, proofs.{ChainLemmas.{link_is, next_short}, borrowed.lend_record.Given.Over}}
use Rattle.domain_nsec3.proofs.borrowed.lend_record.Goals.{After-index-hashed}
use Rattle.domain_nsec3.proofs.borrowed.lend_record.Goals as goal

-- the hash that the record points to
next_is : (g : Over) (c : After-index-hashed g) → c.hash_after-next.result.now
    ≡ (get_or c.args.chain.now.hashed.items (c.args.at + 1) (get_or c.args.chain.now.hashed.items 0 c.index-hashed.result.now)).hash
next_is g c =
    subst (λ (hs : List Hashed). c.hash_after-next.result.now ≡ (get_or hs (c.args.at + 1) (get_or hs 0 c.index-hashed.result.now)).hash)
    c.as_slice.ensures.value (c.hash_after-next.ensures c.index-hashed.result.now)

pub from_octets_unchecked-requires : goal.from_octets_unchecked-requires
from_octets_unchecked-requires g c =
    let at = (goal.at.from_octets_unchecked-requires g c).After-index-hashed in
    let short = next_short c.args.nsec3param.now.owner c.args.chain.now _ _ c.index-hashed.result.now c.requires.inside c.requires.sound (next_is g at) in
    grind (arith, common_steps)

pub returns : goal.returns
returns g c d =
    let link = link_is c.args.nsec3param.now.owner c.args.chain.now (common_of c.args.nsec3param.now.«data» c.args.ttl) c.index-hashed.result.now
    c.hash_after-next.result.now c.args.at d c.requires.inside c.index-hashed.ensures (next_is g (goal.at.returns g c).After-index-hashed) in
    grind (arith, common_steps)

pub invariant_of-result : goal.invariant_of-result
invariant_of-result g c =
    let usable = c.requires.sound c.args.at c.index-hashed.result.now c.requires.inside in
    let h = c.as_slice-hash.result.now in (
      grind (arith, common_steps, usable, c.as_slice-hash.ensures, c.index-hashed.ensures),
      ap (λ owner. text_before_data owner c.args.ttl) (c.new-owner.ensures ∙ ap (λ a. hashed_owner a h) (c.as_parsed.ensures ∙ c.owner.ensures))
          ∙ shared_before_data _ h c.args.ttl c.slices_hold_octets.ensures
          ∙ ap (λ t. base32_lower h ++ t) (sym c.requires.shared),
    )
