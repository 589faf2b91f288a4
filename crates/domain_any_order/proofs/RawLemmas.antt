-- Records whose data are octets in canonical form say what the records say whose data these are.
use Rattle.std.proofs.{Common.{◌≡◌, ℕ, List, [], ◌∷◌, map, refl, sym, ap, ◌∙◌, subst, arith}, lemmas.{Grind.common_steps, List.Elements.All-contains}}
use Rattle.std.{proofs.lemmas.List.Elements.{All-weaker, recursion_from_All}, specs.{Prelude.{◌≢◌, Contains}, List.AllByRecursion}}
use Rattle.domain_octets.specs.Octets.{Octets}
use Rattle.domain_names.specs.Name.{Name}
use Rattle.domain_record.specs.{Record.{record_cmp, record_cmp_total}, declared.record.Record.Record}
use Rattle.domain_rdata.specs.{Zone.{minimum_of, rtype_of}, declared.zone_record_data.ZoneRecordData.{ZoneRecordData, TheVariants.{Soa, Unknown}}}
use Rattle.domain_records.specs.Order.{IsOneClass}
use Rattle.domain_groups.specs.declared.error.SigningError.{SigningError, TheVariants.OutOfMemory as NoRoom}
use Rattle.domain_zone.specs.Zone.{zone_of, ZoneRecord}
use Rattle.domain_borrowed.{proofs.DataLemmas.minimum_last, specs.Data.{RawRecord, raw_cmp, raw_cmp_total}}
use Rattle.domain_borrowed.specs.Data.{raw_minimum, zone_of_raw}
use Rattle.domain_any_order.specs.RawRecords.{HaveOneChain, TellMinima, TellsMinimum, raw_data, raw_record, raw_view, zone_view}
use Rattle.domain_any_order.specs.AnyOrder.{HasNone, IsWholeHashedChain, OfZone}
use Rattle.domain_any_order.specs.declared.error.ChainError.{ChainError, TheVariants.{MixedClasses, Sort, Signing, OutOfMemory}}
use Rattle.domain_any_order.proofs.MappedLemmas.{sets_back}
use Rattle.domain_nsec.specs.Chain.{IsChain, IsFaultless, IsFirstFault}
use Rattle.domain_nsec3.specs.Chain.{IsReady, IsFirstHashedFault}

module _ {O N : Type 0} (octets : O → Octets) (labels : N → Name) where
  abbrev see : Record N (ZoneRecordData O N) → RawRecord
  see = raw_record octets labels

  minimum_same : (d : ZoneRecordData O N) → TellsMinimum d → raw_minimum (raw_data octets labels d) ≡ minimum_of d
  minimum_same (Soa d) fits = minimum_last _ fits
  minimum_same (Unknown d) other = grind (arith, common_steps)
  minimum_same _ t = refl

  zone_same : (rs : List (Record N (ZoneRecordData O N))) → AllByRecursion (λ r. TellsMinimum r.«data») rs
      → zone_of_raw (map see rs) ≡ zone_of labels rtype_of minimum_of rs
  zone_same [] tell = refl
  zone_same (r ∷ rs) tell = grind (arith, common_steps, (minimum_same r.«data»), (zone_same rs))

  all_seen : (class : ℕ) (rs : List (Record N (ZoneRecordData O N)))
      → AllByRecursion (λ s. class ≡ s.class) (map see rs) ≡ AllByRecursion (λ s. class ≡ s.class) rs
  all_seen class [] = refl
  all_seen class (r ∷ rs) = λ i. (class ≡ r.class) × all_seen class rs i

  classes_seen : (rs : List (Record N (ZoneRecordData O N))) → IsOneClass (map see rs) ≡ IsOneClass rs
  classes_seen [] = refl
  classes_seen (r ∷ rs) = λ i. all_seen r.class rs i × classes_seen rs i

  module _ (given : List (Record N (ZoneRecordData O N))) (tell : TellMinima given) where
    of_zone : (is : List ZoneRecord → Type 0) → OfZone raw_view (map see given) is → OfZone (zone_view octets labels) given is
    of_zone is u =
        let s = sets_back see (record_cmp (λ n. n) (λ d. d.rtype) raw_cmp) (record_cmp_total (λ n. n) (λ d. d.rtype) raw_cmp raw_cmp_total) given
        u.sorted u.sorts in
        let told = All-weaker (Contains given) (λ r. TellsMinimum r.«data») (λ r c. All-contains (λ q. TellsMinimum q.«data») given r tell c) s.0
        s.1.set.among in
        record {
          sorted = s.0;
          sorts = s.1;
          one_class = subst (λ (T : Type 0). T) (classes_seen s.0) (subst IsOneClass (sym s.2) u.one_class);
          zone = subst is (ap zone_of_raw (sym s.2) ∙ zone_same s.0 (recursion_from_All (λ r. TellsMinimum r.«data») s.0 told)) u.zone;
        }

    -- why they have no chain, where these are the faults of their zone, and this holds where memory is wanting
    has_none : (is_fault : List ZoneRecord → SigningError → Type 0) (without : List ZoneRecord → Type 0) (e : ChainError)
        → HasNone raw_view (map see given) is_fault without e
        → HasNone (zone_view octets labels) given is_fault without e
    has_none is_fault without MixedClasses h = λ one. h (subst (λ (T : Type 0). T) (sym (classes_seen given)) one)
    has_none is_fault without (Sort e) h = subst (λ (T : Type 0). T) (classes_seen given) h
    has_none is_fault without (Signing e) h = of_zone (λ L. is_fault L e × (e ≢ NoRoom)) h
    has_none is_fault without OutOfMemory h = of_zone without h

    pub one_chain : HaveOneChain octets labels (map see given) given
    one_chain = record {
      nsecs = λ apex config links. of_zone (λ L. IsChain L apex config links);
      no_nsecs = λ apex config. has_none (λ L. IsFirstFault L apex config) (λ L. IsFaultless L apex config);
      nsec3s = λ apex config mode links param. of_zone (λ L. IsWholeHashedChain L apex config mode links param);
      no_nsec3s = λ apex config. has_none (λ L. IsFirstHashedFault L apex config) (λ L. IsReady L apex config);
    }
