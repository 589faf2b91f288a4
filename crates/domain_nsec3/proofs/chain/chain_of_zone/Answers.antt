use Rattle.std.proofs.{Common.{List, refl, ◌∙◌, arith}, lemmas.{Grind.common_steps, Result.err_from_is_err_and}}
use Rattle.domain_zone.{specs.Zone.{AreListed, chain_ttl, zone_of, ZoneRecord}, proofs.{WalkLemmas.owners_in_order, GivenLemmas.soa_owned}}
use Rattle.domain_nsec3.proofs.ChainLemmas.{AreGathered, apart_hashes, bits, listing_fault, original_ascend, original_below, originals_typed, outcome_chain}
use Rattle.domain_nsec3.proofs.{ChainLemmas.{outcome_fault, outcome_hashed, outcome_usable}, OwnerLemmas.apex_original, chain.chain_of_zone.Given.Over}
use Rattle.domain_nsec3.{proofs.chain.chain_of_zone.Goals.{In_ok-names, In_ok-owners}, specs.{Chain.{ChainConfig, IsReady, original_owners}, Steps.common_of}}
use Rattle.domain_nsec3.specs.View.{config_of}
use Rattle.domain_nsec3.proofs.chain.chain_of_zone.Goals as goal

-- the zone to sign, and how
abbrev zone : (g : Over) → In_ok-owners g → List ZoneRecord
zone g c = zone_of g.N.ToName.labels g.D.RecordData.rtype g.D.ZoneData.minimum c.args.records

abbrev how : (g : Over) → In_ok-owners g → ChainConfig
how g c = config_of (g.H.Nsec3Hasher.answer c.args.hasher.now) c.args.config.now

-- what is listed are its original owners
listed : (g : Over) (c : In_ok-owners g) → AreListed (bits (zone g c) (g.N.ToName.labels c.args.apex.now) (how g c)) (zone g c)
    (g.N.ToName.labels c.args.apex.now) (original_owners (zone g c) (g.N.ToName.labels c.args.apex.now) (how g c)) c.in_ok-owners.owners
listed g c = rw c.opt_out_flag.ensures at c.in_ok-owners.ensures.owners

-- none of the faults stands that come before those of hashing
ready : (g : Over) (c : In_ok-owners g) → IsReady (zone g c) (g.N.ToName.labels c.args.apex.now) (how g c)
ready g c = record { soa = λ e. cc c.requires.soa; ttls = (listed g c).even }

pub returns-in_err-owners-clause-fault : goal.returns-in_err-owners-clause-fault
returns-in_err-owners-clause-fault g c =
    let p = err_from_is_err_and c.from_residual.result c.from_residual.ensures.1 in
    let L = zone_of g.N.ToName.labels g.D.RecordData.rtype g.D.ZoneData.minimum c.args.records in
    let config = config_of (g.H.Nsec3Hasher.answer c.args.hasher.now) c.args.config.now in
    rw (p.1, p.2) (listing_fault L (g.N.ToName.labels c.args.apex.now) config _ (λ e. cc c.requires.soa) (rw c.opt_out_flag.ensures at
    c.in_err-owners.ensures.fault))

-- the owners of the zone, in order, and then their empty non-terminals
gathered : (g : Over) (c : In_ok-names g) → AreGathered
    (zone_of g.N.ToName.labels g.D.RecordData.rtype g.D.ZoneData.minimum c.args.records) (g.N.ToName.labels c.args.apex.now)
    (config_of (g.H.Nsec3Hasher.answer c.args.hasher.now) c.args.config.now) c.in_ok-owners.owners c.in_ok-names.names.items
gathered g c =
    let at = (goal.at.In_ok-names g c).In_ok-owners in
    let owners = listed g at in
    record {
      order = owners_in_order g.N.ToName.labels g.D.RecordData.rtype g.D.ZoneData.minimum c.args.records c.requires.in_order;
      named = owners.named;
      typed = owners.typed ∙ originals_typed (zone g at) (g.N.ToName.labels c.args.apex.now) (how g at);
      joined = rw c.as_parsed-apex.ensures at c.in_ok-names.ensures;
    }

pub with_empty-requires : goal.with_empty-requires
with_empty-requires g c =
    let at = (goal.at.with_empty-requires g c).In_ok-owners in
    rw (c.as_parsed-apex.ensures, (listed g at).named) (record {
      ascend = original_ascend (zone g at) _ (how g at)
          (owners_in_order g.N.ToName.labels g.D.RecordData.rtype g.D.ZoneData.minimum c.args.records c.requires.in_order);
      in_zone = original_below (zone g at) _ (how g at);
      begins = apex_original (zone g at) _ (how g at) (soa_owned (zone g at) _ c.args.soa.now c.requires.soa);
    })

pub returns-in_err-names-clause-fault : goal.returns-in_err-names-clause-fault
returns-in_err-names-clause-fault g c =
    let before = ready g (goal.at.returns-in_err-names-clause-fault g c).In_ok-owners in
    grind (arith, common_steps)

pub returns-in_err-hash_chain-clause-fault : goal.returns-in_err-hash_chain-clause-fault
returns-in_err-hash_chain-clause-fault g c =
    let at = goal.at.returns-in_err-hash_chain-clause-fault g c in
    let before = ready g at.In_ok-owners in
    let fault = outcome_fault (gathered g at.In_ok-names) c.in_err-hash_chain.field-0.0 (rw c.as_parsed-apex.ensures at c.in_err-hash_chain.ensures.fault) in
    grind (arith, common_steps)

pub returns : goal.returns
returns g c =
    let at = goal.at.returns g c in
    let known = gathered g at.In_ok-names in
    let hashes = rw c.as_parsed-apex.ensures at c.in_ok-hash_chain.ensures.chain in
    let chain = outcome_chain known c.in_ok-hash_chain.field-0 (common_of c.args.config.now.params (chain_ttl c.args.soa.now)) c.args.soa.now
    c.requires.soa refl refl refl c.in_ok-hash_chain.ensures.types hashes in
    record {
      chain = chain;
      sound = outcome_usable known c.in_ok-hash_chain.field-0 hashes;
      faultless = record { ready = ready g at.In_ok-owners; hashed = outcome_hashed known _ hashes; apart = apart_hashes _ _ _ _ chain };
      fault = tt;
    }
