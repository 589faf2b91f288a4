-- The faults of records, and the outcome by them.
use Rattle.std.proofs.Common.{◌≡◌, ◌≢◌, ℕ, List, [], ◌∷◌, Some, None, Option, Bool, true, false, not, arith, refl, sym, ap, map, ◌∙◌, inl, inr, is_some}
use Rattle.std.proofs.lemmas.{Bool.{cases_Bool, false≢true}, Grind.common_steps}
use Rattle.domain_names.specs.Name.{Name}
use Rattle.domain_bitmap.specs.Bitmap.{bitmap_octets}
use Rattle.domain_groups.specs.declared.error.SigningError.{TheVariants.{MultipleTtlValues, SoaRecordCouldNotBeDetermined}}
use Rattle.domain_nsec.{specs.Chain.{links_in, nsec_lists, usual_config}, proofs.ChainLemmas.chain_of}
use Rattle.domain_records.specs.Order.{IsOneClass}
use Rattle.domain_zone.specs.Zone.{covered_names, has_unequal_ttls, soa_of, unoccluded_owners}
use Rattle.domain_zone.{specs.declared.soa.ApexSoa.ApexSoa, proofs.GivenLemmas.none_left_out}
use Rattle.domain_borrowed.specs.Data.{zone_of_raw, RawRecord}
use Rattle.denial_program.specs.{Answer.SortsRaw, declared.{answer.Reply.TheVariants.Nsecs, fault.DenialFault.TheVariants.{MixedClasses, Signing}}}
use Rattle.denial_program.proofs.RunLemmas.{nsecs_made}
use Rattle.lint_program.specs.Faults.{are_any, AreFaultsOf}
use Rattle.lint_program.specs.declared.{faults.ZoneFaults.ZoneFaults}
use Rattle.lint_program.specs.{Notes.Mark, Report.{plain_outcome, AreRefused, HaveChain, IsOutcome}}

-- ---- The faults are those of the generator.

is_none : {A : Type 0} (o : Option A) → is_some o ≡ false → o ≡ None
is_none None e = refl
is_none (Some x) e = absurd (cc)

is_not : {A : Type 0} (o : Option A) → is_some o ≡ true → o ≢ None
is_not None e = absurd (cc)
is_not (Some x) e = λ f. cc

pub faults_found : (given sorted : List RawRecord) (apex : Name) → SortsRaw given sorted → IsOneClass sorted → (faults : ZoneFaults)
    → faults.classes ≡ false → is_some (soa_of (zone_of_raw sorted) apex) ≡ not faults.soa
    → faults.ttls ≡ has_unequal_ttls (zone_of_raw sorted) (covered_names false false (zone_of_raw sorted) apex) → AreFaultsOf given apex faults
faults_found given sorted apex sorts one faults classes soa ttls =
    inr (record {
      sorted = sorted;
      sorts = sorts;
      one_class = one;
      zone = record {
        classes = classes;
        soa = λ e. is_none _ (soa ∙ ap not e);
        single = λ e. is_not _ (soa ∙ ap not e);
        ttls = ttls ∙ ap (has_unequal_ttls (zone_of_raw sorted)) (none_left_out false (zone_of_raw sorted) apex);
      };
    })

-- ---- The outcome by the faults.

module _ (records : List RawRecord) (apex : Name) (faults : ZoneFaults) where
  pub refused : AreFaultsOf records apex faults → are_any faults ≡ true → AreRefused records apex
  refused (inl m) any = (MixedClasses, tt, m.0)
  refused (inr h) any =
      elim (cases_Bool faults.soa) [
        | inl e ↦ (
          Signing SoaRecordCouldNotBeDetermined,
          tt,
          record { sorted = h.sorted; sorts = h.sorts; one_class = h.one_class; zone = (h.zone.soa e, λ f. cc) },
        )
        | inr e ↦
            let ttls : faults.ttls ≡ true = grind (arith, common_steps, h.zone.classes) in (
              Signing MultipleTtlValues,
              tt,
              record { sorted = h.sorted; sorts = h.sorts; one_class = h.one_class; zone = ((h.zone.single e, sym h.zone.ttls ∙ ttls), λ f. cc) },
            )
      ]

  pub accepted : AreFaultsOf records apex faults → are_any faults ≡ false → HaveChain records apex
  accepted (inl m) none = absurd (false≢true (sym none ∙ ap are_any m.1))
  accepted (inr h) none =
      let soa : faults.soa ≡ false = grind (arith, common_steps) in
      let ttls : faults.ttls ≡ false = grind (arith, common_steps) in
      by (soa_of (zone_of_raw h.sorted) apex) refl (h.zone.single soa) (sym h.zone.ttls ∙ ttls)
    where
      by : (o : Option ApexSoa) → soa_of (zone_of_raw h.sorted) apex ≡ o → soa_of (zone_of_raw h.sorted) apex ≢ None
          → has_unequal_ttls (zone_of_raw h.sorted) (unoccluded_owners usual_config.occlude_below_dname (zone_of_raw h.sorted) apex) ≡ false
          → HaveChain records apex
      by None e soa even = absurd (soa e)
      by (Some numbers) e soa even =
          let names = unoccluded_owners usual_config.occlude_below_dname (zone_of_raw h.sorted) apex in
          let bits = map (λ n. bitmap_octets (nsec_lists (zone_of_raw h.sorted) apex usual_config.assume_dnskeys_will_be_added n)) names in
          record {
            answer = Nsecs (links_in numbers apex names bits);
            chain = nsecs_made records h.sorted apex h.sorts h.one_class _
                (chain_of (zone_of_raw h.sorted) apex usual_config numbers names bits e refl refl);
            faultless = record { sorted = h.sorted; sorts = h.sorts; one_class = h.one_class; zone = (soa, even) };
          }

  pub plain_known : (bad : List ℕ) (marks : List Mark) → AreFaultsOf records apex faults
      → IsOutcome bad records apex marks (plain_outcome bad faults marks)
  plain_known (n ∷ more) marks h = inl (λ e. cc)
  plain_known [] marks h = by (are_any faults) refl marks
    where
      by : (b : Bool) → are_any faults ≡ b → (marks : List Mark) → IsOutcome [] records apex marks (plain_outcome [] faults marks)
      by true e marks = rw e (inr (refused h e))
      by false e [] = rw e (refl, accepted h e, refl)
      by false e (m ∷ more) = rw e (refl, accepted h e, λ f. cc)
