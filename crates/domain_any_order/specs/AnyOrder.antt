-- The chain of a zone whose records come in any order, and when there is none.
use Rattle.std.specs.{Prelude.{◌≡◌, ◌≢◌, ℕ, List, Option, true}, declared.cmp.Ordering.Ordering}
use Rattle.domain_record.specs.{Record.record_cmp, declared.record.Record.Record}
use Rattle.domain_records.specs.Order.{IsOneClass, IsUnion}
use Rattle.domain_groups.specs.declared.error.SigningError.{SigningError}
use Rattle.domain_groups.specs.declared.error.SigningError.TheVariants as signing_error
use Rattle.domain_names.specs.Name.{Name}
use Rattle.domain_nsec.specs.{Chain.{Link, IsChain, IsFaultless, IsFirstFault}, declared.config.GenerateNsecConfig.GenerateNsecConfig}
use Rattle.domain_nsec3.specs.Chain.{HashedLink, IsChainParam, IsHashedChain, ParamRecord, ChainConfig, IsReady}
use Rattle.domain_nsec3.specs.{Chain.IsFirstHashedFault, declared.config.Nsec3ParamTtlMode.Nsec3ParamTtlMode}
use Rattle.domain_zone.specs.Zone.{zone_of, ZoneRecord}
use Rattle.domain_any_order.specs.declared.error.ChainError.{ChainError, TheVariants.{MixedClasses, Sort, Signing, OutOfMemory}}

-- the reason why records have no chain, from an error of the generator
abbrev pub chain_error_of : SigningError → ChainError
chain_error_of signing_error.OutOfMemory = OutOfMemory
chain_error_of error = Signing error

-- the given records are not of one class
abbrev pub AreMixed : {N D : Type 0} → List (Record N D) → Type 0
AreMixed given = IsOneClass given → ⊥

-- why the given records have no sorted set of one class; if there was no memory to sort them, it is
-- open which fault their zone has, since that shows only after the sort
abbrev pub HasNoSet : {N D : Type 0} → List (Record N D) → ChainError → Type 0
HasNoSet given MixedClasses = AreMixed given
HasNoSet given (Sort e) = IsOneClass given
HasNoSet given (Signing e) = ⊥
HasNoSet given OutOfMemory = ⊥

-- these are the chain and the NSEC3PARAM record of the zone L
abbrev pub IsWholeHashedChain : List ZoneRecord → Name → ChainConfig → Nsec3ParamTtlMode
    → List HashedLink → ParamRecord → Type 0
IsWholeHashedChain L apex config mode links param =
    IsHashedChain L apex config links × IsChainParam L apex config mode param

-- how records are seen: the labels of owners, the type of data, the MINIMUM of SOA data, and the
-- canonical order of data
pub record View (N D : Type 0) : Type 0 where
  pub labels : N → Name
  pub rtype_of : D → ℕ
  pub minimum_of : D → Option ℕ
  pub data_cmp : D → D → Ordering

abbrev pub seen : {N D : Type 0} → (N → Name) → (D → ℕ) → (D → Option ℕ)
    → (D → D → Ordering) → View N D
seen labels rtype_of minimum_of data_cmp =
    record { labels = labels; rtype_of = rtype_of; minimum_of = minimum_of; data_cmp = data_cmp }

-- the zone that these records form
abbrev pub zone_seen : {N D : Type 0} → View N D → List (Record N D) → List ZoneRecord
zone_seen v = zone_of v.labels v.rtype_of v.minimum_of

module _ {N D : Type 0} (v : View N D) where
  -- sorted is the sorted set of the given records, with the earliest of equal ones
  abbrev pub Sorts : List (Record N D) → List (Record N D) → Type 0
  Sorts = IsUnion true (record_cmp v.labels v.rtype_of v.data_cmp)

  -- the sorted set of the given records is of one class, and its zone satisfies `is`
  pub record OfZone (given : List (Record N D)) (is : List ZoneRecord → Type 0) : Type 0 where
    pub sorted : List (Record N D)
    pub sorts : Sorts given sorted
    pub one_class : IsOneClass sorted
    pub zone : is (zone_seen v sorted)

  -- why the given records have no chain: they are not of one class; or there was no memory to sort
  -- them; or their zone has this first fault; or there was no memory later, and their zone
  -- satisfies `without_memory`
  abbrev pub HasNone : List (Record N D) → (List ZoneRecord → SigningError → Type 0)
      → (List ZoneRecord → Type 0) → ChainError → Type 0
  HasNone given is_fault without_memory MixedClasses = AreMixed given
  HasNone given is_fault without_memory (Sort e) = IsOneClass given
  HasNone given is_fault without_memory (Signing e) =
      OfZone given (λ L. is_fault L e × (e ≢ signing_error.OutOfMemory))
  HasNone given is_fault without_memory OutOfMemory = OfZone given without_memory

  -- this is the NSEC chain of the given records
  abbrev pub IsChainOf : List (Record N D) → Name → GenerateNsecConfig → List Link → Type 0
  IsChainOf given apex config links = OfZone given (λ L. IsChain L apex config links)

  -- why the given records have no NSEC chain; `OutOfMemory` says that their zone has no fault
  abbrev pub HasNoChain : List (Record N D) → Name → GenerateNsecConfig → ChainError → Type 0
  HasNoChain given apex config =
      HasNone given (λ L. IsFirstFault L apex config) (λ L. IsFaultless L apex config)

  -- these are the NSEC3 chain and the NSEC3PARAM record of the given records
  abbrev pub IsHashedChainOf : List (Record N D) → Name → ChainConfig → Nsec3ParamTtlMode
      → List HashedLink → ParamRecord → Type 0
  IsHashedChainOf given apex config mode links param =
      OfZone given (λ L. IsWholeHashedChain L apex config mode links param)

  -- why the given records have no NSEC3 chain; `OutOfMemory` says that their zone has no fault,
  -- except perhaps one of hashing
  abbrev pub HasNoHashedChain : List (Record N D) → Name → ChainConfig → ChainError → Type 0
  HasNoHashedChain given apex config =
      HasNone given (λ L. IsFirstHashedFault L apex config) (λ L. IsReady L apex config)
