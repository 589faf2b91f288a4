-- The faults of an NSEC3 chain.
use Rattle.std.proofs.Common.{◌≡◌, ◌≢◌, ◌⊎◌, ◌&&◌, ◌||◌, ◌∙◌, ℕ, List, [], Option, Some, None, Bool, arith, ap, cond, not, true, false, inl, inr}
use Rattle.std.proofs.{Common.{refl, sym, subst}, lemmas.{Bool.{cases_Bool, false≢true}, Grind.common_steps, List.Elements.All-from_recursion}}
use Rattle.std.specs.List.Sorted.{IsStrictlySortedBy}
use Rattle.domain_octets.specs.Octets.{Octets}
use Rattle.domain_names.specs.Name.{before, same_name, Name}
use Rattle.domain_hasher.specs.declared.error.Nsec3HashError.{Nsec3HashError}
use Rattle.domain_hasher.specs.declared.error.Nsec3HashError.TheVariants as hash_error
use Rattle.domain_groups.specs.declared.error.SigningError.{SigningError, TheVariants.{EmptyRecordSlice, MultipleTtlValues, Nsec3HashingError}}
use Rattle.domain_groups.specs.declared.error.SigningError.TheVariants.{SoaRecordCouldNotBeDetermined, OutOfMemory as NoRoom}
use Rattle.domain_zone.specs.Zone.{has_clash, has_unequal_ttls, records_of, unoccluded_owners, ZoneRecord}
use Rattle.domain_zone.proofs.{NameLemmas.same_is, PairLemmas.in_filter, WalkLemmas.{any_in, apart_right, in_any}}
use Rattle.domain_nsec.specs.Chain.{usual_config}
use Rattle.domain_nsec.specs.Chain as nsec
use Rattle.domain_nsec3.specs.Chain.{hash_fault, is_hashed_before, is_original_owner, original_owners, AreAllHashed, ChainConfig, HasCollision}
use Rattle.domain_nsec3.specs.Chain.{IsHashedFaultless, IsFirstHashedFault, IsFirstHashFault, IsFirstHashingFault}
use Rattle.domain_nsec3.{specs.View.{config_of, HasherAnswer}, proofs.ChainLemmas.hash_same}
use Rattle.domain_nsec3.specs.declared.config.GenerateNsec3Config.{GenerateNsec3Config}
use Rattle.domain_alike.specs.Alike.{AreAlike, IsAlike, Pair}
use Rattle.domain_records.specs.Order.{IsOneClass}
use Rattle.domain_borrowed.specs.Data.{zone_of_raw, RawRecord}
use Rattle.domain_any_order.specs.{AnyOrder.OfZone, RawRecords.raw_view}
use Rattle.denial_program.specs.{Answer.{usual_nsec3_config, HasNoNsecs, HasNoNsec3s, SortsRaw}, Command.Params, Fault.IsOfRecords}
use Rattle.denial_program.{specs.declared.fault.DenialFault.{DenialFault, TheVariants.{MixedClasses, Param, Signing}}}
use Rattle.lint_program.specs.{Alike.{AreTold}, Faults.AreFaultless, Hashed.{hash_fault_line, nsec3_fault_text, AreHashable, IsNsec3Rejection}}
use Rattle.lint_program.{specs.Report.AreRefused, proofs.SetLemmas.{not_mixed, of_both}}

-- no two names of a zone without a fault have the same hash
none_alike : (L : List ZoneRecord) (a : Name) (config : ChainConfig) → IsHashedFaultless L a config → AreAlike L a config []
unfolding IsStrictlySortedBy
none_alike L a config h = record {
  told = All-from_recursion (IsAlike L a config) [] tt;
  each = λ x y c d b e. absurd (h.apart (record { x = x; y = y; first = c; second = d; apart = apart_right y x b; alike = sym e }));
  ascend = tt;
}

pub config_usual : {S : Type 0} (answers : HasherAnswer) (config : GenerateNsec3Config Octets S) (p : Params) → config.params ≡ p
    → config.opt_out_exclude_owner_names_of_unsigned_delegations ≡ true → config.assume_dnskeys_will_be_added ≡ true
    → config.occlude_below_dname ≡ false → config_of answers config ≡ usual_nsec3_config answers p
config_usual answers config p params excludes dnskeys dnames = grind (arith, common_steps)

module _ (answers : HasherAnswer) (given sorted : List RawRecord) (apex : Name) (p : Params) (sorts : SortsRaw given sorted) (one : IsOneClass sorted) where
  module _ (config : ChainConfig) (usual : config ≡ usual_nsec3_config answers p) where
    pub hashed_well : IsHashedFaultless (zone_of_raw sorted) apex config → AreHashable answers given apex p
    hashed_well h = record { sorted = sorted; sorts = sorts; one_class = one; zone = subst (IsHashedFaultless (zone_of_raw sorted) apex) usual h }

    alike_told : (pairs : List Pair) → AreAlike (zone_of_raw sorted) apex config pairs → AreTold answers given apex (Some p) pairs
    alike_told pairs h =
        inr (record { sorted = sorted; sorts = sorts; one_class = one; zone = subst (λ c. AreAlike (zone_of_raw sorted) apex c pairs) usual h })

    pub none_told : IsHashedFaultless (zone_of_raw sorted) apex config → AreTold answers given apex (Some p) []
    none_told h = alike_told [] (none_alike (zone_of_raw sorted) apex config h)

-- ---- `denial nsec3` rejects records for one fault.

apart_bools : (o p b c : Bool) → cond o (not p || b) (not p && b) ≡ false → cond p (not o || c) (not o && c) ≡ false → (b ≡ false) × (c ≡ false)
apart_bools o p b c e f = grind (arith, common_steps)

module _ (L : List ZoneRecord) (a : Name) (config : ChainConfig) where
  -- neither of two names is hashed before the other, so they are the same
  one_hashed : (x y : Name) → is_hashed_before L a config x y ≡ false → is_hashed_before L a config y x ≡ false → same_name x y ≡ true
  one_hashed x y e f =
      let b = apart_bools (is_original_owner L a config x) (is_original_owner L a config y) (before x y) (before y x) e f in
      same_is x y ∙ (λ i. not (b.0 i || b.1 i))

  one_hash_fault : (e f : Nsec3HashError) → IsFirstHashFault L a config e → IsFirstHashFault L a config f → e ≡ f
  one_hash_fault e f h k = by (is_hashed_before L a config h.name k.name) (is_hashed_before L a config k.name h.name) refl refl
    where
      by : (s t : Bool) → is_hashed_before L a config h.name k.name ≡ s → is_hashed_before L a config k.name h.name ≡ t → e ≡ f
      by true t p q = absurd (let no : Some e ≡ None = sym h.fault ∙ k.first h.name h.in_chain p in cc)
      by false true p q = absurd (let no : Some f ≡ None = sym k.fault ∙ h.first k.name k.in_chain q in cc)
      by false false p q =
          let one : Some e ≡ Some f = sym h.fault ∙ ap (hash_fault a) (hash_same config.hash h.name k.name (one_hashed h.name k.name p q)) ∙ k.fault in
          cc

  -- a fault of hashing is that of one name, or all are hashed and two hashes are equal
  either_fault : (e : Nsec3HashError) → IsFirstHashingFault L a config e
      → IsFirstHashFault L a config e ⊎ ((e ≡ hash_error.CollisionDetected) × AreAllHashed L a config × HasCollision L a config)
  either_fault hash_error.CollisionDetected h = inr (refl, h.0, h.1)
  either_fault hash_error.AppendError h = absurd h
  either_fault hash_error.OutOfMemory h = absurd h
  either_fault _ h = inl h

  hashed_or_not : {A : Type 0} (e : Nsec3HashError) → IsFirstHashFault L a config e → AreAllHashed L a config → A
  hashed_or_not e h all = absurd (let no : Some e ≡ None = sym h.fault ∙ all h.name h.in_chain in cc)

  one_hashing_fault : (e f : Nsec3HashError) → IsFirstHashingFault L a config e → IsFirstHashingFault L a config f → e ≡ f
  one_hashing_fault e f h k =
      elim (either_fault e h) [
        | inl p ↦ elim (either_fault f k) [ inl q ↦ one_hash_fault e f p q | inr q ↦ hashed_or_not e p q.1 ]
        | inr p ↦ elim (either_fault f k) [ inl q ↦ hashed_or_not f q p.1 | inr q ↦ p.0 ∙ sym q.0 ]
      ]

  one_fault : (e f : SigningError) → IsFirstHashedFault L a config e → IsFirstHashedFault L a config f → e ≢ NoRoom → f ≢ NoRoom → e ≡ f
  one_fault EmptyRecordSlice f h k p q = absurd h
  one_fault NoRoom f h k p q = absurd (p refl)
  one_fault SoaRecordCouldNotBeDetermined SoaRecordCouldNotBeDetermined h k p q = refl
  one_fault SoaRecordCouldNotBeDetermined MultipleTtlValues h k p q = absurd (k.0 h)
  one_fault SoaRecordCouldNotBeDetermined (Nsec3HashingError f) h k p q = absurd (k.0.soa h)
  one_fault MultipleTtlValues SoaRecordCouldNotBeDetermined h k p q = absurd (h.0 k)
  one_fault MultipleTtlValues MultipleTtlValues h k p q = refl
  one_fault MultipleTtlValues (Nsec3HashingError f) h k p q = absurd (false≢true (sym k.0.ttls ∙ h.1))
  one_fault (Nsec3HashingError e) SoaRecordCouldNotBeDetermined h k p q = absurd (h.0.soa k)
  one_fault (Nsec3HashingError e) MultipleTtlValues h k p q = absurd (false≢true (sym h.0.ttls ∙ k.1))
  one_fault (Nsec3HashingError e) (Nsec3HashingError f) h k p q = ap Nsec3HashingError (one_hashing_fault e f h.1 k.1)
  one_fault e EmptyRecordSlice h k p q = absurd k
  one_fault e NoRoom h k p q = absurd (q refl)

  faultless_none : (e : SigningError) → IsHashedFaultless L a config → IsFirstHashedFault L a config e → e ≢ NoRoom → ⊥
  faultless_none EmptyRecordSlice h k p = k
  faultless_none NoRoom h k p = p refl
  faultless_none SoaRecordCouldNotBeDetermined h k p = h.ready.soa k
  faultless_none MultipleTtlValues h k p = false≢true (sym h.ready.ttls ∙ k.1)
  faultless_none (Nsec3HashingError e) h k p = elim (either_fault e k.1) [ inl q ↦ hashed_or_not e q h.hashed | inr q ↦ h.apart q.2 ]

module _ (answers : HasherAnswer) (given : List RawRecord) (apex : Name) (p : Params) where
  abbrev chain_config : ChainConfig
  chain_config = usual_nsec3_config answers p

  pub one_nsec3_fault : (fault : Option SigningError) (e : SigningError) → IsNsec3Rejection answers given apex (Some p) fault
      → HasNoNsec3s answers given apex p (Signing e) → fault ≡ Some e
  one_nsec3_fault None e (inl mixed) h = absurd (not_mixed given _ mixed h)
  one_nsec3_fault None e (inr well) h =
      let b = of_both given _ _ well h in
      absurd (faultless_none b.0 apex chain_config e b.1 b.2.0 b.2.1)
  one_nsec3_fault (Some f) e k h =
      let b = of_both given _ _ k h in
      ap Some (one_fault b.0 apex chain_config f e b.1.0 b.2.0 b.1.1 b.2.1)

  -- ---- and each of its faults has a line.

  -- owners of one chain that have unequal TTLs are owners of the other
  even_owners : (L : List ZoneRecord) → has_unequal_ttls L (original_owners L apex chain_config) ≡ true
      → has_unequal_ttls L (unoccluded_owners usual_config.occlude_below_dname L apex) ≡ true
  even_owners L h =
      let n = any_in (λ n. has_clash (records_of L n)) (original_owners L apex chain_config) h in
      in_any (λ n. has_clash (records_of L n)) _ n.0 (in_filter _ (unoccluded_owners false L apex) n.0 n.1).0 n.2

  -- two hashes of which a pair is told
  collision_told : (L : List ZoneRecord) → HasCollision L apex chain_config → AreAlike L apex chain_config [] → ⊥
  collision_told L h told =
      elim (cases_Bool (before h.x h.y)) [
        | inl e ↦ false≢true (told.each h.y h.x h.second h.first e h.alike)
        | inr e ↦ false≢true (told.each h.x h.y h.first h.second (grind (arith, common_steps, (same_is h.x h.y), h.apart)) (sym h.alike))
      ]

  of_hashing : (e : Nsec3HashError) → (L : List ZoneRecord) → IsFirstHashingFault L apex chain_config e → AreAlike L apex chain_config []
      → hash_fault_line e ≡ [] → (n : ℕ) × (e ≡ hash_error.Hasher n)
  of_hashing (hash_error.Hasher n) L h told none = (n, refl)
  of_hashing hash_error.AppendError L h told none = absurd h
  of_hashing hash_error.OwnerHashError L h told none = absurd (cc)
  of_hashing hash_error.Nsec3NameTooLong L h told none = absurd (cc)
  of_hashing hash_error.CollisionDetected L h told none = absurd (collision_told L h.1 told)
  of_hashing hash_error.OutOfMemory L h told none = absurd h

  alike_of_zone : AreTold answers given apex (Some p) [] → AreFaultless given apex → OfZone raw_view given (λ L. AreAlike L apex chain_config [])
  alike_of_zone (inl m) h = absurd (not_mixed given _ m.0 h)
  alike_of_zone (inr z) h = z

  -- records that have no fault of an NSEC chain, and no line about hashing, have none of an NSEC3 chain but the hasher's
  pub hashed_told : (fault : Option SigningError) → IsNsec3Rejection answers given apex (Some p) fault → AreTold answers given apex (Some p) []
      → AreFaultless given apex → nsec3_fault_text fault ≡ []
      → AreHashable answers given apex p ⊎ ((n : ℕ) × HasNoNsec3s answers given apex p (Signing (Nsec3HashingError (hash_error.Hasher n))))
  hashed_told None (inl mixed) told h none = absurd (not_mixed given _ mixed h)
  hashed_told None (inr well) told h none = inl well
  hashed_told (Some (Nsec3HashingError e)) k told h none =
      let b = of_both given _ _ k (alike_of_zone told h) in
      let n = of_hashing e b.0 b.1.0.1 b.2 none in
      inr (n.0, subst (λ f. HasNoNsec3s answers given apex p (Signing (Nsec3HashingError f))) n.1 k)
  hashed_told (Some EmptyRecordSlice) k told h none = absurd k.zone.0
  hashed_told (Some NoRoom) k told h none = absurd (k.zone.1 refl)
  hashed_told (Some SoaRecordCouldNotBeDetermined) k told h none =
      let b = of_both given _ _ k h in
      absurd (b.2.0 b.1.0)
  hashed_told (Some MultipleTtlValues) k told h none =
      let b = of_both given _ _ k h in
      absurd (false≢true (sym b.2.1 ∙ even_owners b.0 b.1.0.1))

-- ---- `denial nsec` either rejects records or accepts them.

nsec_faultless : (L : List ZoneRecord) (a : Name) (e : SigningError) → nsec.IsFaultless L a usual_config → nsec.IsFirstFault L a usual_config e → e ≢ NoRoom
    → ⊥
nsec_faultless L a EmptyRecordSlice h k p = k
nsec_faultless L a NoRoom h k p = p refl
nsec_faultless L a SoaRecordCouldNotBeDetermined h k p = h.0 k
nsec_faultless L a MultipleTtlValues h k p = false≢true (sym h.1 ∙ k.1)
nsec_faultless L a (Nsec3HashingError e) h k p = k

pub not_both : (records : List RawRecord) (apex : Name) → AreRefused records apex → AreFaultless records apex → ⊥
not_both records apex h k = by h.0 h.1 h.2
  where
    by : (fault : DenialFault) → IsOfRecords fault → HasNoNsecs records apex fault → ⊥
    by MixedClasses of why = not_mixed records _ why k
    by (Signing e) of why =
        let b = of_both records _ _ why k in
        nsec_faultless b.0 apex e b.2 b.1.0 b.1.1
    by Param of why = why
    by _ of why = of
