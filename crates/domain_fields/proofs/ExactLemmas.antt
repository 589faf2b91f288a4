-- what is read is determined by the octets, and so is their first fault
use Rattle.std.proofs.{lemmas.Grind.common_steps, Common.{◌≡◌, ℕ, true, List, [], ◌++◌, length, refl, sym, ap, subst, ◌∙◌, arith, length-append}}
use Rattle.std.{proofs.Common.{append_assoc, append-nil, zero, suc, ◌+◌, ◌<◌, false, ◌∷◌, drop}, specs.Cmp.{first_so, second_so}}
use Rattle.std.{specs.Prelude.{codes, nat_lt, if◌then◌else◌}, proofs.lemmas.Bool.Decides.nat_tests}
use Rattle.domain_names.specs.Wire.{Fault, ends_early, malformed, NameFault, no_octet, bad_label, long_name, cut_label, past_label}
use Rattle.domain_names.proofs.WireLemmas.{no_name_fault}
use Rattle.domain_bitmap.{specs.Blocks.{IsBitmap, bitmap_fault_of}, proofs.BlockLemmas.{no_bitmap_fault, one_block_fault}}
use Rattle.domain_fields.specs.Layout.{Field, name, spelled_name, rest, types, Value, field_octets, FieldFits, FieldEnds, FieldFault, Layout, one, ◌▸◌, Values}
use Rattle.domain_fields.specs.Layout.{octets_of, Fits, Ends, Begins, ParsesBack, is_delimited, splits, FirstFault, in_field, in_first, in_later}
use Rattle.domain_fields.proofs.LayoutLemmas.{same_values, delimited_splits}

-- what stands after a field that takes the rest
ends_last : (l : Layout) (v : Values l) (r : List ℕ) → Ends l v r → splits l ≡ true → is_delimited l ≡ false → r ≡ []
ends_last (one rest) v r ends sp takes = ends
ends_last (one types) v r ends sp takes = ends
ends_last (one _) v r ends sp takes = absurd (cc)
ends_last (a ▸ b) v r ends sp takes =
    let d : is_delimited a ≡ true = first_so (is_delimited a) (splits b) sp in
    ends_last b v.1 r ends.1 (second_so (is_delimited a) (splits b) sp) (rw d at takes)

-- octets begin with one value of a layout at most
pub one_reading : (l : Layout) (octets : List ℕ) (v w : Values l) (r s : List ℕ) → splits l ≡ true → Begins l octets v r
    → Begins l octets w s → (v ≡ w) × (r ≡ s)
one_reading l octets v w r s sp x y =
    let same = same_values l v w r s sp (λ takes. (ends_last l v r x.ends sp takes, ends_last l w s y.ends sp takes)) x.fits y.fits (sym x.parts ∙ y.parts) in
    (same.values, same.after)

field_excludes : (f : Field) (octets : List ℕ) (fault : Fault) → FieldFault f octets fault → (v : Value f) (r : List ℕ)
    → FieldFits f v → FieldEnds f r → octets ≡ field_octets f v ++ r → ⊥
field_excludes name octets fault h v r fits ends e = no_name_fault octets fault h v r fits e
field_excludes spelled_name octets fault h v r fits ends e = no_name_fault octets fault h v r fits e
field_excludes types octets fault h v r fits ends e =
    no_bitmap_fault octets fault h (subst IsBitmap (sym (e ∙ ap (λ after. v ++ after) ends ∙ append-nil v)) fits)
field_excludes f octets fault h v r fits ends e = grind (arith, common_steps)

-- the first of two lists of fields stands first
first_begins : (a b : Layout) (octets : List ℕ) (v : Values (a ▸ b)) (r : List ℕ) → Begins (a ▸ b) octets v r → Begins a octets v.0 (octets_of b v.1 ++ r)
unfolding octets_of
first_begins a b octets v r begins =
    record { parts = begins.parts ∙ append_assoc (octets_of a v.0) (octets_of b v.1) r; fits = begins.fits.0; ends = begins.ends.0 }

-- octets with a fault begin with no value
pub fault_excludes : (l : Layout) (octets : List ℕ) (fault : Fault) → FirstFault l octets fault → splits l ≡ true
    → (v : Values l) (r : List ℕ) → Begins l octets v r → ⊥
unfolding octets_of
fault_excludes l octets fault (in_field f o d h) sp v r begins = field_excludes f o d h v r begins.fits begins.ends begins.parts
fault_excludes l octets fault (in_first a b o d h) sp v r begins =
    fault_excludes a o d h (delimited_splits a (first_so (is_delimited a) (splits b) sp)) v.0 _ (first_begins a b o v r begins)
fault_excludes l octets fault (in_later a b o w m d front h) sp v r begins =
    let same = one_reading a o v.0 w _ m (delimited_splits a (first_so (is_delimited a) (splits b) sp)) (first_begins a b o v r begins) front in
    fault_excludes b m d h (second_so (is_delimited a) (splits b) sp) v.1 r (record { parts = sym same.1; fits = begins.fits.1; ends = begins.ends.1 })

pub begins_alone : (l : Layout) (v : Values l) → Fits l v → Ends l v [] → Begins l (octets_of l v) v []
begins_alone l v fits ends = record { parts = sym (append-nil (octets_of l v)); fits = fits; ends = ends }

-- composed data parse back
pub parses_back : (l : Layout) (v : Values l) → splits l ≡ true → Fits l v → Ends l v [] → ParsesBack l v
parses_back l v split fits ends = record {
  begins = begins_alone l v fits ends;
  alone = λ w r read. one_reading l _ w v r [] split read (begins_alone l v fits ends);
  no_fault = λ fault found. fault_excludes l _ fault found split v [] (begins_alone l v fits ends);
}

-- ---- octets have one first fault at most

-- the fault that a name has, if it has one
name_fault : ℕ → ℕ → List ℕ → Fault
name_fault zero used octets = ends_early
name_fault (suc n) used [] = ends_early
name_fault (suc n) used (len ∷ after) =
    if nat_lt 63 len then malformed (codes "compressed or bad label")
    else (if nat_lt 255 (used + len + 2) then malformed (codes "long domain name")
    else (if nat_lt (length after) len then ends_early else name_fault n (used + len + 1) (drop len after)))

name_fault_is : (n used : ℕ) (octets : List ℕ) (fault : Fault) → NameFault used octets fault → length octets < n → fault ≡ name_fault n used octets
unfolding name_fault
name_fault_is zero used octets fault h below = absurd (omega arith)
name_fault_is (suc n) used octets fault (bad_label len after big) below = let bad : nat_lt 63 len ≡ true = grind (arith, nat_tests) in rw bad
name_fault_is (suc n) used octets fault (past_label label after f some small brief next) below =
    grind (arith, common_steps, nat_tests, (length-append label after), (name_fault_is n (used + length label + 1) after f next))
name_fault_is (suc n) used octets fault no_octet below = refl
name_fault_is (suc n) used octets fault (long_name len after some small big) below = grind (arith, common_steps)
name_fault_is (suc n) used octets fault (cut_label len after some small brief cut) below = grind (arith, common_steps)

one_name_fault : (octets : List ℕ) (x y : Fault) → NameFault 0 octets x → NameFault 0 octets y → x ≡ y
one_name_fault octets x y p q =
    name_fault_is (suc (length octets)) 0 octets x p (omega arith) ∙ sym (name_fault_is (suc (length octets)) 0 octets y q (omega arith))

-- a field has one fault
field_one_fault : (f : Field) (octets : List ℕ) (x y : Fault) → FieldFault f octets x → FieldFault f octets y → x ≡ y
field_one_fault name octets x y p q = one_name_fault octets x y p q
field_one_fault spelled_name octets x y p q = one_name_fault octets x y p q
field_one_fault types octets x y p q = p.named ∙ ap bitmap_fault_of (one_block_fault p.found q.found) ∙ sym q.named
field_one_fault f octets x y p q = grind (arith, common_steps)

pub one_fault : (l : Layout) (octets : List ℕ) (x y : Fault) → FirstFault l octets x → FirstFault l octets y → splits l ≡ true → x ≡ y
one_fault l octets x y (in_field f o d h) (in_field g p e k) sp = field_one_fault f o d e h k
one_fault l octets x y (in_first a b o d h) (in_first c g p e k) sp = one_fault a o d e h k (delimited_splits a (first_so (is_delimited a) (splits b) sp))
one_fault l octets x y (in_first a b o d h) (in_later c g p v m e begins k) sp = grind (arith, common_steps, fault_excludes, delimited_splits)
one_fault l octets x y (in_later a b o v m d begins h) (in_first c g p e k) sp = grind (arith, common_steps, fault_excludes, delimited_splits)
one_fault l octets x y (in_later a b o v m d begins h) (in_later c g p w n e more k) sp =
    let same = one_reading a o v w m n (delimited_splits a (first_so (is_delimited a) (splits b) sp)) begins more in
    one_fault b n d e (subst (λ r. FirstFault b r d) same.1 h) k (second_so (is_delimited a) (splits b) sp)
