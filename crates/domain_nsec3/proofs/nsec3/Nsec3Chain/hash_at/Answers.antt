use Rattle.std.proofs.{Common.{length, ap, arith, subst, ◌∙◌}, lemmas.Grind.common_steps}
use Rattle.domain_nsec3.{specs.{Chain.{ChainRecords, HashedLink}, Meaning.IsRecordOf, Steps.common_of}, proofs.ChainLemmas.{links_counted, hash_there}}
use Rattle.domain_nsec3.proofs.nsec3.Nsec3Chain.hash_at.Goals as goal

pub index-requires : goal.index-requires
index-requires g c = grind (arith, common_steps, links_counted)

pub returns-clause-some : goal.returns-clause-some
returns-clause-some g c =
    let s = c.self.inside in
    let counted = links_counted s.nsec3param.owner s.chain (common_of s.nsec3param.«data» s.ttl) in
    let same = ap (λ v. length v.links) c.self.view_is in
    subst (λ (v : ChainRecords). (k : HashedLink) × IsRecordOf v.param.owner v.links c.args.place k c.as_octets.result.now) c.self.view_is
    (hash_there s.nsec3param.owner s.chain (common_of s.nsec3param.«data» s.ttl) c.args.place c.index.result.now c.as_octets.result.now
    (omega arith) c.index.ensures (c.as_octets.ensures.same ∙ c.as_slice.ensures) c.as_octets.ensures.octets)
