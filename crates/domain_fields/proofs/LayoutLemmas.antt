-- Data on the wire: how they are read and written, and their order.
use Rattle.std.proofs.Common.{◌≡◌, ℕ, List, length, take, drop, refl, ◌+◌, ◌++◌, ap, arith, length-append, Option, Result, ◌<◌, [], ◌∷◌, sym, subst, true}
use Rattle.std.proofs.{Common.{false, ◌∙◌, append_assoc, append-nil, ◌↔◌, Bool}, lemmas.{List.{take_at, drop_at, Concat.flat_map-append}, Grind.common_steps}}
use Rattle.std.specs.{Ordering.{nat_cmp, ordering_then, is_eq}, Cmp.{Lexicographic.{slice_cmp, bytes_decides}, first_so, second_so}}
use Rattle.std.specs.{declared.cmp.Ordering.{Ordering, TheVariants.{Less, Equal, Greater}}, FinMap.nat_cmp-IsAntisymmetric, Prelude.slice_index}
use Rattle.std.{specs.{List.{AllByRecursion, flat_map, fold}, Prelude.{bytes_eq, IsTrue}}, proofs.lemmas.Map.Text.is_eq-slice_cmp}
use Rattle.domain_names.{specs.{Name.{wire_of, IsName, IsLabel}, Wire.{labels_of, IsWire, ends_early}}, proofs.OrderLemmas.IsName-lowered}
use Rattle.domain_octets.specs.{declared.error.AppendError.AppendError, Octets.{Place, Takes}}
use Rattle.domain_bitmap.proofs.BlockLemmas.{bitmap_fault}
use Rattle.domain_fields.specs.Layout.{Layout, ◌▸◌, Values, octets_of, one, Begins, in_field, in_first, in_later, GoesOn, Fits, lower, lower_field}
use Rattle.domain_fields.specs.Layout.{canonical_of, canonical_order, is_delimited, is_delimited_field, splits, Appended, Stops, Appends, octet, short, long}
use Rattle.domain_fields.specs.Layout.{name, spelled_name, counted, exactly, at_most, IsCut, Field, Value, field_octets, FieldFits, in_form}
use Rattle.domain_fields.specs.declared.form.Form.{Form}
use Rattle.std.specs.Hash as fed

-- ---- names as fields

pub name_fits : (octets : List ℕ) → IsWire octets → IsName (labels_of octets)
name_fits octets wire = wire.valid

-- ---- one part of the octets appended after another

module _ (limit : Option ℕ) (old mid new a b : List ℕ) (first : Appended limit old mid a) where
  counts : length old + length (a ++ b) ≡ length mid + length b
  counts = omega (arith, ap length first.all, length-append old a, length-append a b)

  pub appends_more : {X : Type 0} (r : Result X AppendError) → Appends limit r mid new b → Appends limit r old new (a ++ b)
  appends_more r second = grind (arith, common_steps)

pub appends_stop : (limit : Option ℕ) (e : AppendError) (old new a b : List ℕ) → Stops limit e old new a → Stops limit e old new (a ++ b)
appends_stop limit e old new a b first = grind (arith, common_steps)

-- in either form
module _ (limit : Option ℕ) (form : Form) (old mid new a b c d : List ℕ) where
  pub appends_more_in : {X : Type 0} (r : Result X AppendError) → Appended limit old mid (in_form form a c) → Appends limit r mid new (in_form form b d)
      → Appends limit r old new (in_form form (a ++ b) (c ++ d))
  appends_more_in r first second = grind (arith, common_steps, appends_more)

  pub appends_stop_in : (e : AppendError) → Stops limit e old new (in_form form a c) → Stops limit e old new (in_form form (a ++ b) (c ++ d))
  appends_stop_in e first = grind (arith, common_steps, appends_stop)

-- ---- data that are read one after another

pub goes_on : (octets : List ℕ) (old new : Place) → Takes octets old new → GoesOn old new
goes_on octets old new takes = record { whole = omega (arith, takes.moved, ap length takes.parts, length-append octets new.left) }

-- octets whose count is missing, or that are fewer than it says
pub no_count : (octets : List ℕ) → length octets < 1 → IsCut octets (1 + slice_index octets 0) ends_early
no_count octets none = record { short = grind (arith, common_steps); early = refl }

pub cut_counted : (octets after : List ℕ) (count : ℕ) → octets ≡ (count ∷ []) ++ after → length after < count
    → IsCut octets (1 + slice_index octets 0) ends_early
cut_counted octets after count is cut = record { short = rw is (omega (arith, cut)); early = refl }

pub ruleset reading = (goes_on, in_field, bitmap_fault, no_count, cut_counted)

pub begins_both : (a b : Layout) (octets : List ℕ) (v : Values a) (w : Values b) (between after : List ℕ)
    → Begins a octets v between → Begins b between w after → Begins (a ▸ b) octets (v, w) after
unfolding octets_of
begins_both a b octets v w between after h more = grind (arith, common_steps)

pub ruleset pairs = (begins_both, in_first, in_later)

-- ---- the lexicographic order of octets, field by field

-- two values, and what stands after them, are the same
pub record Same {V : Type 0} (v w : V) (r s : List ℕ) : Type 0 where
  pub values : v ≡ w
  pub after : r ≡ s

-- lists of one length at the front
same_front : (a b r s : List ℕ) → length a ≡ length b → a ++ r ≡ b ++ s → Same a b r s
same_front a b r s as_long e = record {
  values = sym (take_at a r (length a) refl) ∙ ap (take (length a)) e ∙ take_at b s (length a) (sym as_long);
  after = sym (drop_at a r (length a) refl) ∙ ap (drop (length a)) e ∙ drop_at b s (length a) (sym as_long);
}

same_counted : (a b r s : List ℕ) → (length a ∷ a) ++ r ≡ (length b ∷ b) ++ s → Same a b r s
same_counted a b r s e = grind (arith, common_steps, same_front)

same_name : (x y : List (List ℕ)) (r s : List ℕ) → AllByRecursion IsLabel x → AllByRecursion IsLabel y → wire_of x ++ r ≡ wire_of y ++ s → Same x y r s
same_name [] [] r s all_x all_y e = record { values = refl; after = cc }
same_name [] (l ∷ ls) r s all_x all_y e = let label : IsLabel l = all_y.0 in let n : 0 ≡ length l = cc in absurd (omega (arith, label.not_empty))
same_name (l ∷ ls) [] r s all_x all_y e = let label : IsLabel l = all_x.0 in let n : length l ≡ 0 = cc in absurd (omega (arith, label.not_empty))
same_name (k ∷ ks) (l ∷ ls) r s all_x all_y e =
    let as_long : length k ≡ length l = cc in
    let tails : (k ++ wire_of ks) ++ r ≡ (l ++ wire_of ls) ++ s = cc in
    let front = same_front k l _ _ as_long (sym (append_assoc k _ r) ∙ tails ∙ append_assoc l _ s) in
    let more = same_name ks ls r s all_x.1 all_y.1 front.after in
    record { values = λ i. front.values i ∷ more.values i; after = more.after }

-- values of a field with the same octets, where nothing stands after one that takes the rest
same_field : (f : Field) (v w : Value f) (r s : List ℕ) → (is_delimited_field f ≡ false → (r ≡ []) × (s ≡ [])) → FieldFits f v
    → FieldFits f w → field_octets f v ++ r ≡ field_octets f w ++ s → Same v w r s
same_field octet v w r s ends fv fw e = record { values = cc; after = cc }
same_field short v w r s ends fv fw e = grind (arith, common_steps)
same_field long v w r s ends fv fw e = grind (arith, common_steps)
same_field name v w r s ends fv fw e = let x : IsName v = fv in let y : IsName w = fw in same_name v w r s x.of_labels y.of_labels e
same_field spelled_name v w r s ends fv fw e = let x : IsName v = fv in let y : IsName w = fw in same_name v w r s x.of_labels y.of_labels e
same_field counted v w r s ends fv fw e = same_counted v w r s e
same_field (exactly count) v w r s ends fv fw e = let as_long : length v ≡ length w = fv.0 ∙ sym fw.0 in same_front v w r s as_long e
same_field (at_most limit) v w r s ends fv fw e = record { values = refl; after = e }
same_field _ v w r s ends fv fw e = let none = ends refl in grind (arith, common_steps)

-- data of which one can tell where they end
pub delimited_splits : (l : Layout) → is_delimited l ≡ true → splits l ≡ true
delimited_splits (one f) d = refl
delimited_splits (a ▸ b) d = grind (arith, common_steps, (delimited_splits b (second_so (is_delimited a) (is_delimited b) d)))

pub same_values : (l : Layout) (v w : Values l) (r s : List ℕ) → splits l ≡ true → (is_delimited l ≡ false → (r ≡ []) × (s ≡ [])) → Fits l v
    → Fits l w → octets_of l v ++ r ≡ octets_of l w ++ s → Same v w r s
unfolding octets_of
same_values (one f) v w r s sp ends fv fw e = same_field f v w r s ends fv fw e
same_values (a ▸ b) v w r s sp ends fv fw e =
    let d : is_delimited a ≡ true = first_so (is_delimited a) (splits b) sp in
    let first = same_values a v.0 w.0 (octets_of b v.1 ++ r) (octets_of b w.1 ++ s) (delimited_splits a d) (λ takes. absurd (cc)) fv.0 fw.0
    (sym (append_assoc (octets_of a v.0) (octets_of b v.1) r) ∙ e ∙ append_assoc (octets_of a w.0) (octets_of b w.1) s) in
    let second = same_values b v.1 w.1 r s (second_so (is_delimited a) (splits b) sp) (λ takes. ends (rw d takes)) fv.1 fw.1 first.after in
    record { values = λ i. (first.values i, second.values i); after = second.after }

pub same_data : (l : Layout) (v w : Values l) (r s : List ℕ) → is_delimited l ≡ true → Fits l v → Fits l w
    → octets_of l v ++ r ≡ octets_of l w ++ s → Same v w r s
same_data l v w r s d fv fw e = same_values l v w r s (delimited_splits l d) (λ takes. absurd (cc)) fv fw e

-- neither list begins the other, but for equal ones
record Apart (a b : List ℕ) : Type 0 where
  left : (r : List ℕ) → a ≡ b ++ r → r ≡ []
  right : (r : List ℕ) → b ≡ a ++ r → r ≡ []

tails_apart : (x : ℕ) (a b : List ℕ) → Apart (x ∷ a) (x ∷ b) → Apart a b
tails_apart x a b apart = grind (arith, common_steps)

-- then what stands after them is compared only where they are equal
cmp_apart : (a b x y : List ℕ) → Apart a b → slice_cmp nat_cmp (a ++ x) (b ++ y) ≡ ordering_then (slice_cmp nat_cmp a b) (slice_cmp nat_cmp x y)
cmp_apart [] [] x y apart = refl
cmp_apart [] (b ∷ bs) x y apart = let e : b ∷ bs ≡ [] = apart.right (b ∷ bs) refl in absurd (cc)
cmp_apart (a ∷ as') [] x y apart = let e : a ∷ as' ≡ [] = apart.left (a ∷ as') refl in absurd (cc)
cmp_apart (a ∷ as') (b ∷ bs) x y apart =
    elim (nat_cmp a b) as (λ o. nat_cmp a b ≡ o → ordering_then o (slice_cmp nat_cmp (as' ++ x) (bs ++ y))
    ≡ ordering_then (ordering_then o (slice_cmp nat_cmp as' bs)) (slice_cmp nat_cmp x y)) [
      | Less ↦ λ is. refl
      | Equal ↦ λ is. let same : a ≡ b = nat_cmp-IsAntisymmetric a b is in
          cmp_apart as' bs x y (tails_apart b as' bs (subst (λ (n : ℕ). Apart (n ∷ as') (b ∷ bs)) same apart))
      | Greater ↦ λ is. refl
    ] refl

data_apart : (l : Layout) (v w : Values l) → is_delimited l ≡ true → Fits l v → Fits l w → Apart (octets_of l v) (octets_of l w)
data_apart l v w d fv fw =
    grind (arith, common_steps, append-nil, (same_data l v w), (append-nil (octets_of l v)), (same_data l w v), (append-nil (octets_of l w)))

lowered_field : (f : Field) (v : Value f) → FieldFits f v → FieldFits f (lower_field f v)
lowered_field name v h = IsName-lowered v h
lowered_field _ v h = h

pub Fits-lower : (l : Layout) (v : Values l) → Fits l v → Fits l (lower l v)
Fits-lower (one f) v h = lowered_field f v h
Fits-lower (a ▸ b) v h = (Fits-lower a v.0 h.0, Fits-lower b v.1 h.1)

-- fields of a layout that can be told apart decide first
pub order_both : (a b : Layout) (v w : Values a) (x y : Values b) → is_delimited a ≡ true → Fits a v → Fits a w
    → canonical_order (a ▸ b) (v, x) (w, y) ≡ ordering_then (canonical_order a v w) (canonical_order b x y)
unfolding octets_of
order_both a b v w x y d fv fw = grind (arith, common_steps, cmp_apart, data_apart, Fits-lower)

pub fold_both : {S : Type 0} (f : S → List ℕ → S) (s : S) (a b : List ℕ)
    → fold f (fold f s (flat_map fed.u8 a)) (flat_map fed.u8 b) ≡ fold f s (flat_map fed.u8 (a ++ b))
fold_both f s a b = rw (flat_map-append fed.u8 a b) (grind (arith, common_steps))

-- a list is compared with as many octets part by part
pub front_cmp : (a b o : List ℕ) → slice_cmp nat_cmp (a ++ b) (take (length (a ++ b)) o)
    ≡ ordering_then (slice_cmp nat_cmp a (take (length a) o)) (slice_cmp nat_cmp b (take (length b) (drop (length a) o)))
front_cmp [] b o = refl
front_cmp (x ∷ a) b [] = refl
front_cmp (x ∷ a) b (y ∷ o) = grind (arith, common_steps, (front_cmp a b o))

drop_nil : (n : ℕ) → drop {A = ℕ} n [] ≡ []
drop_nil n = grind (arith, common_steps)

pub front_drop : (a b o : List ℕ) → drop (length (a ++ b)) o ≡ drop (length b) (drop (length a) o)
front_drop [] b o = refl
front_drop (x ∷ a) b [] = sym (drop_nil (length b))
front_drop (x ∷ a) b (y ∷ o) = front_drop a b o

-- octets are compared with others by as many of those, and then by whether more follow
pub whole_cmp : (a o : List ℕ) → slice_cmp nat_cmp a o ≡ ordering_then (slice_cmp nat_cmp a (take (length a) o)) (slice_cmp nat_cmp [] (drop (length a) o))
whole_cmp [] o = refl
whole_cmp (x ∷ a) [] = refl
whole_cmp (x ∷ a) (y ∷ o) = grind (arith, common_steps, (whole_cmp a o))

pub ruleset both = (appends_more_in, appends_stop_in, order_both, front_cmp, front_drop, fold_both)

-- ---- values that have the same octets

-- the order of canonical octets tells whether the values of the canonical form are the same
module _ (l : Layout) (v w : Values l) (order : Ordering) (r : Bool) (is : order ≡ canonical_order l v w) (told : r ≡ is_eq order) where
  pub equal_octets : r ≡ bytes_eq (canonical_of l v) (canonical_of l w)
  equal_octets = told ∙ ap is_eq is ∙ is_eq-slice_cmp (canonical_of l v) (canonical_of l w)

  pub equal_values : splits l ≡ true → Fits l v → Fits l w → IsTrue r ↔ (lower l v ≡ lower l w)
  equal_values sp fv fw = (
    λ yes. let same = (bytes_decides (canonical_of l v) (canonical_of l w)).0 (sym equal_octets ∙ yes) in
        (same_values l (lower l v) (lower l w) [] [] sp (λ takes. (refl, refl)) (Fits-lower l v fv) (Fits-lower l w fw)
        (append-nil (canonical_of l v) ∙ same ∙ sym (append-nil (canonical_of l w)))).values,
    λ same. equal_octets ∙ (bytes_decides (canonical_of l v) (canonical_of l w)).1 (ap (octets_of l) same),
  )
