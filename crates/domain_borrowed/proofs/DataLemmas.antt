-- Records whose data are octets.
use Rattle.domain_borrowed.specs.Data.{IsNsec, IsNsec3, IsOneRecord, IsParam, IsRecord, RawRecord, header, header_of, last_long, nsec3_record, nsec_record}
use Rattle.domain_borrowed.specs.Data.{param_record, raw_record_octets}
use Rattle.domain_chain_rdata.{proofs.TextLemmas.{nsec3_back, nsec_back, params_back}, specs.Rdata.{nsec_layout, nsec3_layout, nsec3param_layout}}
use Rattle.domain_fields.{proofs.{ExactLemmas.fault_excludes, LayoutLemmas.{Same, same_data}}, specs.Layout.{Begins, FirstFault, Values, long, name, octets_of}}
use Rattle.domain_fields.specs.Layout.{one, ◌▸◌}
use Rattle.domain_names.specs.{Name.wire_of, Wire.Fault}
use Rattle.domain_nsec.specs.Chain.{Link}
use Rattle.domain_nsec3.specs.Chain.{HashedLink, ParamRecord}
use Rattle.domain_plain.specs.Plain.{soa_layout}
use Rattle.std.proofs.Common.{List, Some, [], ap, append_assoc, arith, drop, length, length-append, refl, sym, take, ℕ, ◌++◌, ◌+◌, ◌<◌, ◌^◌, ◌∙◌, ◌∷◌, ◌≡◌}
use Rattle.std.{proofs.lemmas.{Grind.common_steps, List.{drop_at, take_at}}, specs.Int.{to_be_bytes, w32}}

-- ---- The data of records, read whole.

-- octets with a fault are no such data
pub no_nsec : (q : RawRecord) (fault : Fault) → FirstFault nsec_layout q.«data».octets fault → (k : Link) → q ≡ nsec_record k → IsNsec k → ⊥
no_nsec q fault found k e is = grind (arith, common_steps, nsec_back)

pub no_nsec3 : (q : RawRecord) (fault : Fault) → FirstFault nsec3_layout q.«data».octets fault → (k : HashedLink) → q ≡ nsec3_record k → IsNsec3 k → ⊥
no_nsec3 q fault found k e is = grind (arith, common_steps, nsec3_back)

pub no_param : (q : RawRecord) (fault : Fault) → FirstFault nsec3param_layout q.«data».octets fault → (k : ParamRecord) → q ≡ param_record k → IsParam k → ⊥
no_param q fault found k e is = grind (arith, common_steps, params_back)

-- octets are left over
pub no_whole_param : (q : RawRecord) (v : Values nsec3param_layout) (after : List ℕ) → Begins nsec3param_layout q.«data».octets v after → (after ≡ [] → ⊥)
    → (k : ParamRecord) → q ≡ param_record k → IsParam k → ⊥
no_whole_param q v after b some k e is = grind (arith, common_steps, params_back)

-- ---- Octets begin with one record at most.

-- the header of a record stands before its data
header_first : (r : RawRecord) (after : List ℕ) → raw_record_octets r ++ after ≡ octets_of header (header_of r) ++ (r.«data».octets ++ after)
header_first r after = append_assoc (octets_of header (header_of r)) r.«data».octets after

begins_header : (r : RawRecord) (octets after : List ℕ) → IsRecord r → octets ≡ raw_record_octets r ++ after
    → Begins header octets (header_of r) (r.«data».octets ++ after)
begins_header r octets after fits e = grind (arith, common_steps)

-- a header with a fault begins no record
pub faulty_header : (octets : List ℕ) (fault : Fault) → FirstFault header octets fault
    → (r : RawRecord) (after : List ℕ) → IsRecord r → octets ≡ raw_record_octets r ++ after → ⊥
faulty_header octets fault found r after fits e = grind (arith, common_steps, fault_excludes)

same_header : (v : Values header) (octets left : List ℕ) → Begins header octets v left
    → (r : RawRecord) (after : List ℕ) → IsRecord r → octets ≡ raw_record_octets r ++ after → Same v (header_of r) left (r.«data».octets ++ after)
same_header v octets left front r after fits e = same_data header v _ left _ refl front.fits fits (sym front.parts ∙ e ∙ header_first r after)

-- nor does one whose data are cut
pub cut_data : (v : Values header) (octets left : List ℕ) → Begins header octets v left → length left < v.1.1.1.1
    → (r : RawRecord) (after : List ℕ) → IsRecord r → octets ≡ raw_record_octets r ++ after → ⊥
cut_data v octets left front short r after fits e =
    let s = same_header v octets left front r after fits e in
    let count : v.1.1.1.1 ≡ length r.«data».octets = ap (λ (u : Values header). u.1.1.1.1) s.values in
    let long : length left ≡ length r.«data».octets + length after = ap length s.after ∙ length-append _ after in
    absurd (omega arith)

pub same_record : (q r : RawRecord) (x y : List ℕ) → IsRecord q → IsRecord r → raw_record_octets q ++ x ≡ raw_record_octets r ++ y → IsOneRecord q r x y
same_record q r x y fits_q fits_r e =
    let s = same_header _ _ _ (begins_header q _ x fits_q refl) r y fits_r e in
    let as_long : length q.«data».octets ≡ length r.«data».octets = ap (λ (u : Values header). u.1.1.1.1) s.values in
    let same : q.«data».octets ≡ r.«data».octets = sym (take_at _ x _ refl)
    ∙ ap (take (length q.«data».octets)) s.after ∙ take_at _ y _ (sym as_long) in
    record {
      records = λ i. record {
        owner = (s.values i).0;
        class = (s.values i).1.1.0;
        ttl = (s.values i).1.1.1.0;
        «data» = record { rtype = (s.values i).1.0; octets = same i };
      };
      after = sym (drop_at q.«data».octets x _ refl) ∙ ap (drop (length q.«data».octets)) s.after ∙ drop_at _ y _ (sym as_long);
    }

named_octets : (labels : List (List ℕ)) (after : List ℕ) → wire_of labels ++ after ≡ [] → ⊥
named_octets [] after e = absurd (cc)
named_octets (label ∷ labels) after e = absurd (cc)

-- a record has octets
pub some_octets : (r : RawRecord) (after : List ℕ) → raw_record_octets r ++ after ≡ [] → ⊥
unfolding octets_of
some_octets r after e = named_octets r.owner _ (sym (append_assoc (wire_of r.owner) _ _) ∙ sym (header_first r after) ∙ e)

not_empty : (octets : List ℕ) → (octets ≡ [] → ⊥) → 0 < length octets
not_empty [] some = absurd (some refl)
not_empty (octet ∷ octets) some = omega arith

-- less is left after a record
pub shorter : (r : RawRecord) (left after : List ℕ) → left ≡ raw_record_octets r ++ after → length after < length left
shorter r left after e = grind (arith, common_steps, some_octets)

-- ---- The MINIMUM of an SOA as the last of its octets.

last_of : (xs : List ℕ) (n : ℕ) → n < 2 ^ 32 → last_long (xs ++ to_be_bytes w32 n) ≡ Some n
last_of xs n fits = grind (arith, common_steps)

pub minimum_last : (v : Values soa_layout) → v.1.1.1 < 2 ^ 32 → last_long (octets_of soa_layout v) ≡ Some v.1.1.1
unfolding octets_of
minimum_last v fits =
    let names = octets_of (one name ▸ one name) v.0 in
    let times = octets_of (one long ▸ one long ▸ one long) v.1.0 in
    let expire = to_be_bytes w32 v.1.1.0 in
    let minimum = to_be_bytes w32 v.1.1.1 in
    ap last_long (ap (λ o. names ++ o) (sym (append_assoc times expire minimum)) ∙ sym (append_assoc names (times ++ expire) minimum))
    ∙ last_of _ _ fits
