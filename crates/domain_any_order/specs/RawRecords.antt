-- Records with data of all types, seen as records whose data are octets.
use Rattle.std.specs.Prelude.{◌≢◌, ◌<◌, ◌^◌, List, All}
use Rattle.domain_octets.specs.Octets.{Octets}
use Rattle.domain_names.specs.Name.{Name}
use Rattle.domain_base.specs.Types as rtypes
use Rattle.domain_record.specs.declared.record.Record.{Record}
use Rattle.domain_rdata.specs.Zone.{canonical_octets, data_cmp, minimum_of, rtype_of}
use Rattle.domain_rdata.specs.declared.zone_record_data.ZoneRecordData.{ZoneRecordData, TheVariants.{Soa, Unknown}}
use Rattle.domain_nsec.specs.{Chain.Link, declared.config.GenerateNsecConfig.GenerateNsecConfig}
use Rattle.domain_nsec3.specs.{Chain.{HashedLink, ParamRecord, ChainConfig}, declared.config.Nsec3ParamTtlMode.Nsec3ParamTtlMode}
use Rattle.domain_borrowed.specs.Data.{RawData, RawRecord, raw_cmp, raw_minimum, raw_record_of}
use Rattle.domain_any_order.specs.{AnyOrder.{View, seen, IsChainOf, HasNoChain, IsHashedChainOf, HasNoHashedChain}, declared.error.ChainError.ChainError}

-- data of type SOA are parsed, and their MINIMUM has 32 bits (RFC 1035, section 3.3.13)
abbrev pub TellsMinimum : {O N : Type 0} → ZoneRecordData O N → Type 0
TellsMinimum (Soa d) = d.minimum < 2 ^ 32
TellsMinimum (Unknown d) = d.rtype ≢ rtypes.soa
TellsMinimum _ = Unit {0}

abbrev pub TellMinima : {O N : Type 0} → List (Record N (ZoneRecordData O N)) → Type 0
TellMinima = All (λ r. TellsMinimum r.«data»)

module _ {O N : Type 0} (octets : O → Octets) (labels : N → Name) where
  -- the type of data, and their octets in canonical form (RFC 4034, section 6.2)
  abbrev pub raw_data : ZoneRecordData O N → RawData
  raw_data d = record { rtype = rtype_of d; octets = canonical_octets octets labels d }

  abbrev pub raw_record : Record N (ZoneRecordData O N) → RawRecord
  raw_record = raw_record_of labels rtype_of (canonical_octets octets labels)

-- how records whose data are octets are seen, and (`zone_view`) records with data of all types
abbrev pub raw_view : View Name RawData
raw_view = seen (λ n. n) (λ d. d.rtype) raw_minimum raw_cmp

abbrev pub zone_view : {O N : Type 0} → (O → Octets) → (N → Name) → View N (ZoneRecordData O N)
zone_view octets labels = seen labels rtype_of minimum_of (data_cmp octets labels)

-- a chain of the records of octets is also a chain of the given records; a reason why the former
-- have none is also a reason for the latter
pub record HaveOneChain {O N : Type 0} (octets : O → Octets) (labels : N → Name)
    (raw : List RawRecord) (given : List (Record N (ZoneRecordData O N))) : Type 0 where
  pub nsecs : (apex : Name) (config : GenerateNsecConfig) (links : List Link)
      → IsChainOf raw_view raw apex config links → IsChainOf (zone_view octets labels) given apex config links
  pub no_nsecs : (apex : Name) (config : GenerateNsecConfig) (error : ChainError)
      → HasNoChain raw_view raw apex config error → HasNoChain (zone_view octets labels) given apex config error
  pub nsec3s : (apex : Name) (config : ChainConfig) (mode : Nsec3ParamTtlMode)
      (links : List HashedLink) (param : ParamRecord)
      → IsHashedChainOf raw_view raw apex config mode links param
      → IsHashedChainOf (zone_view octets labels) given apex config mode links param
  pub no_nsec3s : (apex : Name) (config : ChainConfig) (error : ChainError)
      → HasNoHashedChain raw_view raw apex config error
      → HasNoHashedChain (zone_view octets labels) given apex config error
