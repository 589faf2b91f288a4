-- What sorted records tell of the records that were given.
use Rattle.std.proofs.{Common.{arith, List}, lemmas.Grind.common_steps}
use Rattle.domain_record.specs.declared.record.Record.{Record}
use Rattle.domain_names.specs.Name.{Name}
use Rattle.domain_nsec.specs.{declared.config.GenerateNsecConfig.GenerateNsecConfig, Chain.IsFirstFault}
use Rattle.domain_nsec3.specs.Chain.{ChainConfig, IsFirstHashedFault}
use Rattle.domain_any_order.specs.AnyOrder.{Sorts, OfZone, HasNoChain, HasNoHashedChain, View, chain_error_of, zone_seen}
use Rattle.domain_records.specs.Order.{IsOneClass}
use Rattle.domain_groups.specs.declared.error.SigningError.{SigningError}
use Rattle.domain_zone.specs.Zone.{OwnersNeverDescend, ZoneRecord}

-- where the zone of the sorted set has a fault, that is why the given records have no chain
module _ {N D : Type 0} (v : View N D) (given : List (Record N D)) (apex : Name) (sorted : List (Record N D)) (sorts : Sorts v given sorted)
    (one : IsOneClass sorted) where
  pub no_chain : (config : GenerateNsecConfig) (e : SigningError) → IsFirstFault (zone_seen v sorted) apex config e
      → HasNoChain v given apex config (chain_error_of e)
  no_chain config e h = grind (arith, common_steps)

  pub no_hashed_chain : (config : ChainConfig) (e : SigningError) → IsFirstHashedFault (zone_seen v sorted) apex config e
      → HasNoHashedChain v given apex config (chain_error_of e)
  no_hashed_chain config e h = grind (arith, common_steps)

-- what is told of the zone of the sorted set, whose owners never descend, tells more of it
module _ {N D : Type 0} {v : View N D} (order : (given sorted : List (Record N D)) → Sorts v given sorted → IsOneClass sorted
    → OwnersNeverDescend (zone_seen v sorted)) where
  pub of_zone : {given : List (Record N D)} {P Q : List ZoneRecord → Type 0} → ((L : List ZoneRecord) → OwnersNeverDescend L → P L → Q L)
      → OfZone v given P → OfZone v given Q
  of_zone {given} f h = record {
    sorted = h.sorted;
    sorts = h.sorts;
    one_class = h.one_class;
    zone = f (zone_seen v h.sorted) (order given h.sorted h.sorts h.one_class) h.zone;
  }
