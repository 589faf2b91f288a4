-- names that are read label by label, one run after another; that at a place of a message stands one name at most, and none where
-- there is a fault
use Rattle.std.proofs.{lemmas.Grind.common_steps, Common.{◌≡◌, ℕ, ◌+◌, ◌-◌, ◌*◌, ◌<◌, ◌≤◌, List, [], ◌∷◌, ◌++◌, length, get_or, take, drop, refl, sym, ap}}
use Rattle.std.proofs.{Common.{subst, ◌∙◌, arith, length-append, IfOk}, lemmas.List.{append_assoc, take-append-drop, take_at, drop_more, drop_all, drop_at}}
use Rattle.std.proofs.lemmas.List.{drop-drop, length-drop, length-take-le, Elements.{All-take, All-drop}}
use Rattle.std.specs.{Prelude.{All, Option, Some, None, Ok, Err, unwrap_or}, List.AllByRecursion}
use Rattle.domain_octets.proofs.WordLemmas.{octets_from_type}
use Rattle.domain_names.{specs.Name.{wire_of, IsLabel, IsName, Name}, proofs.WireLemmas.{IsWire-wire_of, labels_of-wire_of}}
use Rattle.domain_message.specs.Name.{pointer_octets, behind, up_to, Outcome, ComesTo, LabelsFault, NameAt, root, label, pointer, at_fault}
use Rattle.domain_message.specs.Name.{EndFault, no_octet, half_pointer, bad_type, not_backward, long_name, cut_label}
use Rattle.domain_message.specs.{Steps.{IsStep, at_root, at_label, at_pointer}, declared.name.{NameFault.NameFault, Step.TheVariants.{Root, Label, Pointer}}}
use Rattle.domain_message.specs.declared.name.NameFault.TheVariants as name_fault

-- ---- outcomes

behind_none : (rest : Outcome) → behind [] rest ≡ rest
behind_none rest = grind (arith, common_steps)

behind_more : (labels more : Name) (rest : Outcome) → behind labels (behind more rest) ≡ behind (labels ++ more) rest
behind_more labels more rest = grind (arith, common_steps)

-- the place behind the first pointer, if there was one, is the one behind the name
abbrev pub ended : Option ℕ → Outcome → Outcome
ended None rest = rest
ended (Some end) rest = up_to end rest

ended_fault : (end : Option ℕ) (f : NameFault) → ended end (Err f) ≡ Err f
ended_fault end f = grind (arith, common_steps)

ended_up_to : (end : Option ℕ) (far : ℕ) (labels : Name) (rest : Outcome)
    → ended end (behind labels (up_to far rest)) ≡ ended (Some (unwrap_or end far)) (behind labels rest)
ended_up_to end far labels rest = grind (arith, common_steps)

-- ---- what stands at a place

module _ (message : List ℕ) (start at used : ℕ) (inside : at < length message) where
  ahead : (len : ℕ) → get_or message at 0 ≡ len → drop at message ≡ len ∷ drop (at + 1) message
  ahead len is = rw (← is) (drop_more message at 0 inside)

  pub root_here : get_or message at 0 ≡ 0 → IsStep message start at used Root
  root_here is = at_root _ (ahead 0 is)

  pub half_fault : 192 ≤ get_or message at 0 → length message ≤ at + 1 → EndFault start used (drop at message) name_fault.ShortInput
  half_fault big out = grind (arith, common_steps, half_pointer)

  module _ (bytes : All (λ octet. octet < 256) message) (big : 192 ≤ get_or message at 0) (both : at + 1 < length message) where
    abbrev place : ℕ
    place = (get_or message at 0 - 192) * 256 + get_or message (at + 1) 0

    pointer_ahead : drop at message ≡ pointer_octets place ++ drop (at + 2) message
    pointer_ahead = grind (arith, common_steps, (bytes at 0), (bytes (at + 1) 0))

    pub forward_fault : start ≤ place → EndFault start used (drop at message) name_fault.ForwardPointer
    forward_fault forward = rw pointer_ahead (not_backward place (drop (at + 2) message) forward)

    pub pointer_here : (target : ℕ) → target ≡ place → target < start → IsStep message start at used (Pointer target)
    pointer_here target is earlier = at_pointer target (drop (at + 2) message) (rw is pointer_ahead)
        (record { earlier = earlier; fits = omega (arith, bytes at 0 inside, bytes (at + 1) 0 both) })

  module _ (len : ℕ) (is : get_or message at 0 ≡ len) where
    pub type_fault : 63 < len → len < 192 → EndFault start used (drop at message) name_fault.BadLabelType
    type_fault big small = rw (ahead len is) (bad_type len _ big small)

    pub length_fault : 0 < len → len ≤ 63 → 255 < used + len + 2 → EndFault start used (drop at message) name_fault.LongName
    length_fault some small big = rw (ahead len is) (long_name len _ some small big)

    pub cut_fault : 0 < len → len ≤ 63 → used + len + 2 ≤ 255 → length message < at + 1 + len → EndFault start used (drop at message) name_fault.ShortInput
    cut_fault some small room cut = rw (ahead len is) (cut_label len (drop (at + 1) message) some small room (omega (arith, length-drop (at + 1) message)))

    pub label_here : All (λ octet. octet < 256) message → 0 < len → len ≤ 63 → used + len + 2 ≤ 255 → at + 1 + len ≤ length message
        → IsStep message start at used (Label (at + 1 + len))
    label_here bytes some small room whole =
        let text = take len (drop (at + 1) message) in
        let long : length text ≡ len = length-take-le len _ (omega (arith, length-drop (at + 1) message)) in
        at_label text (drop (at + 1 + len) message) _
        (record {
          not_empty = omega (arith, long);
          fits = omega (arith, long);
          octets = All-take (λ octet. octet < 256) len _ (All-drop (λ octet. octet < 256) _ message bytes);
        })
        (grind (arith, common_steps, (ahead len is), long, (take-append-drop len (drop (at + 1) message))))
        (omega (arith, long, room)) (omega (arith, long))

pub end_fault : (message : List ℕ) (start at used : ℕ) → length message ≤ at → EndFault start used (drop at message) name_fault.ShortInput
end_fault message start at used out = rw (drop_all at message out) no_octet

pub ruleset place_steps = (root_here, half_fault, forward_fault, pointer_here, type_fault, length_fault, cut_fault, label_here, end_fault, octets_from_type)

-- ---- one step after another

-- labels of the name that stands at a place were read and their octets appended; others go on at a place
pub record Read (message : List ℕ) (at start place : ℕ) (wire : List ℕ) (end : Option ℕ) : Type 0 where
  pub labels : Name
  pub wires : (more : Name) → wire_of (labels ++ more) ≡ wire ++ wire_of more
  pub room : length wire < 255
  pub on : (rest : Outcome) → ComesTo message start place (length wire) rest → ComesTo message at at 0 (ended end (behind labels rest))

pub read_starts : (message : List ℕ) (at : ℕ) → Read message at at at [] None
read_starts message at = record { labels = []; wires = λ more. refl; room = omega arith; on = λ rest h. rw (behind_none rest) h }

module _ (message : List ℕ) (at start place : ℕ) (wire : List ℕ) (end : Option ℕ) (so_far : Read message at start place wire end) where
  pub read_label : (next : ℕ) (new : List ℕ) → IsStep message start place (length wire) (Label next)
      → new ≡ wire ++ take (next - place) (drop place message) → Read message at start next new end
  read_label next new (at_label text after _ is_label spelled room is) appended =
      let octets : take (next - place) (drop place message) ≡ length text ∷ text =
      ap (take (next - place)) spelled ∙ take_at (length text ∷ text) after _ (omega (arith, is)) in
      let new_is : new ≡ wire ++ length text ∷ text = appended ∙ ap (λ o. wire ++ o) octets in
      let count : length new ≡ length wire + 1 + length text = omega (arith, ap length new_is, length-append wire (length text ∷ text)) in
      record {
        labels = so_far.labels ++ text ∷ [];
        wires = λ more. grind (arith, common_steps, new_is, (so_far.wires (text ∷ more)), (append_assoc so_far.labels (text ∷ []) more));
        room = omega (arith, count, room);
        on = λ rest h. subst (λ o. ComesTo message at at 0 (ended end o)) (behind_more so_far.labels (text ∷ []) rest) (so_far.on _
            (label start place _ text after rest is_label spelled room
            (subst (λ n. ComesTo message start n (length wire + 1 + length text) rest) is
            (subst (λ n. ComesTo message start next n rest) count h))));
      }

  pub label_inside : (next : ℕ) → IsStep message start place (length wire) (Label next) → next ≤ length message
  label_inside next (at_label text after _ is_label spelled room is) = omega (arith, is, ap length spelled, length-append text after, length-drop place message)

  pub read_pointer : (target : ℕ) → IsStep message start place (length wire) (Pointer target)
      → Read message at target target wire (Some (unwrap_or end (place + 2)))
  read_pointer target (at_pointer _ after spelled back) = record {
    labels = so_far.labels;
    wires = so_far.wires;
    room = so_far.room;
    on = λ rest h. subst (ComesTo message at at 0) (ended_up_to end (place + 2) so_far.labels rest)
        (so_far.on _ (pointer start place _ target after rest spelled back h));
  }

  pub read_fault : (f : NameFault) → EndFault start (length wire) (drop place message) f → LabelsFault message at 0 f
  read_fault f why = subst (ComesTo message at at 0) (ended_fault end f) (so_far.on (Err f) (at_fault start place _ f why))

-- how far the name may still lead
pub ruleset name_steps = (read_starts, read_label, read_pointer, read_fault)

-- the octets of a name that were read are made a name
pub ruleset wire_steps = (IsWire-wire_of, labels_of-wire_of)

-- ---- one outcome at a place

-- where there is a fault is no root, no label with room for it, and no pointer that leads back
no_root : (at used : ℕ) (a b : List ℕ) (f : NameFault) → EndFault at used b f → b ≡ 0 ∷ a → ⊥
no_root at used a b f h same = grind (arith, common_steps)

no_label : (at used len : ℕ) (a b : List ℕ) (f : NameFault) → EndFault at used b f → b ≡ len ∷ a → 0 < len → len ≤ 63 → len ≤ length a
    → used + len + 2 ≤ 255 → ⊥
no_label at used len a b f h same some small whole room = grind (arith, common_steps)

no_pointer : (at used t : ℕ) (a b : List ℕ) (f : NameFault) → EndFault at used b f → b ≡ pointer_octets t ++ a → t < at → ⊥
no_pointer at used t a b f h same back = grind (arith, common_steps)

same_label : (l k a b : List ℕ) → length l ∷ (l ++ a) ≡ length k ∷ (k ++ b) → l ≡ k
same_label l k a b same =
    let long : length l ≡ length k = cc in
    let joined : l ++ a ≡ k ++ b = cc in
    sym (take_at l a _ refl) ∙ ap (take (length l)) joined ∙ take_at k b _ (sym long)

same_target : (t u : ℕ) (a b : List ℕ) → pointer_octets t ++ a ≡ pointer_octets u ++ b → t ≡ u
same_target t u a b same = grind (arith, common_steps)

-- the first outcome is a name, and the other is the same, or it is a fault
abbrev Agree : Outcome → Outcome → Type 0
Agree x y = IfOk x (λ _. x ≡ y)

one_outcome : (message : List ℕ) (start at used : ℕ) (x y : Outcome) → ComesTo message start at used x → ComesTo message start at used y → Agree x y
one_outcome message start at used x y (at_fault _ _ _ _ _) b = tt
one_outcome message start at used x y (root _ _ _ a is) (root _ _ _ b be) = refl
one_outcome message start at used x y (label _ _ _ l a r l_is is _ on) (label _ _ _ k b s _ be _ onward) =
    let same : k ≡ l = sym (same_label l k a b (sym is ∙ be)) in
    let onward' = subst (λ m. ComesTo message start (at + 1 + length m) (used + 1 + length m) s) same onward in
    grind (arith, common_steps, same, (one_outcome message start _ _ r s on onward'))
one_outcome message start at used x y (pointer _ _ _ t a r is back on) (pointer _ _ _ u b s be forth onward) =
    let onward' = subst (λ p. ComesTo message p p used s) (sym (same_target t u a b (sym is ∙ be))) onward in
    grind (arith, common_steps, (one_outcome message t t used r s on onward'))
one_outcome message start at used x y (root _ _ _ a is) (label _ _ _ k b s k_is be _ onward) = grind (arith, common_steps)
one_outcome message start at used x y (root _ _ _ a is) (pointer _ _ _ u b s be _ onward) = grind (arith, common_steps)
one_outcome message start at used x y (root _ _ _ a is) (at_fault _ _ _ f why) = absurd (no_root start used a _ f why is)
one_outcome message start at used x y (label _ _ _ l a r l_is is room on) (root _ _ _ b be) = grind (arith, common_steps)
one_outcome message start at used x y (label _ _ _ l a r l_is is room on) (pointer _ _ _ u b s be _ onward) = grind (arith, common_steps)
one_outcome message start at used x y (label _ _ _ l a r l_is is room on) (at_fault _ _ _ f why) =
    absurd (no_label start used (length l) (l ++ a) _ f why is l_is.not_empty l_is.fits (omega (arith, length-append l a)) room)
one_outcome message start at used x y (pointer _ _ _ t a r is back on) (root _ _ _ b be) = grind (arith, common_steps)
one_outcome message start at used x y (pointer _ _ _ t a r is back on) (label _ _ _ k b s k_is be _ onward) = grind (arith, common_steps)
one_outcome message start at used x y (pointer _ _ _ t a r is back on) (at_fault _ _ _ f why) = absurd (no_pointer start used t a _ f why is back.earlier)

-- ---- of names

pub one_name : (message : List ℕ) (at : ℕ) (x y : Name) (e f : ℕ) → NameAt message at x e → NameAt message at y f → (x ≡ y) × (e ≡ f)
one_name message at x y e f a b = grind (arith, common_steps, (one_outcome message at at 0 (Ok (x, e)) (Ok (y, f)) a.stands b.stands))

pub no_fault : (message : List ℕ) (at : ℕ) (x : Name) (e : ℕ) (f : NameFault) → NameAt message at x e → LabelsFault message at 0 f → ⊥
no_fault message at x e f a found = let same = one_outcome message at at 0 (Ok (x, e)) (Err f) a.stands found in cc

-- labels that stand somewhere are labels, and end within the message
abbrev IsInside : List ℕ → Outcome → Type 0
IsInside message x = IfOk x (λ r. AllByRecursion IsLabel r.0 × (r.1 ≤ length message))

stand_inside : (message : List ℕ) (start at used : ℕ) (x : Outcome) → ComesTo message start at used x → IsInside message x
stand_inside message start at used x (root _ _ _ a is) = (tt, omega (arith, ap length is, length-drop at message))
stand_inside message start at used x (label _ _ _ l a r l_is is _ on) = grind (arith, common_steps, (stand_inside message start _ _ r on))
stand_inside message start at used x (pointer _ _ _ t a r is back on) =
    grind (arith, common_steps, (stand_inside message t t used r on), (length-drop at message))
stand_inside message start at used x (at_fault _ _ _ f why) = tt

-- what stands behind some octets
pub past : (message : List ℕ) (at : ℕ) (front rest : List ℕ) → drop at message ≡ front ++ rest → drop (at + length front) message ≡ rest
past message at front rest is = sym (drop-drop (length front) at message) ∙ ap (drop (length front)) is ∙ drop_at front rest (length front) refl

wire_some : (name : Name) → 1 ≤ length (wire_of name)
wire_some [] = omega arith
wire_some (l ∷ labels) = omega arith

in_full : (message : List ℕ) (start at used : ℕ) (name : Name) (after : List ℕ) → AllByRecursion IsLabel name
    → used + length (wire_of name) ≤ 255 → drop at message ≡ wire_of name ++ after
    → ComesTo message start at used (Ok (name, at + length (wire_of name)))
in_full message start at used [] after all room is = root start at used after is
in_full message start at used (l ∷ labels) after all room is =
    let joined : drop at message ≡ (length l ∷ l) ++ (wire_of labels ++ after) = grind (arith, common_steps) in
    let count : length (wire_of (l ∷ labels)) ≡ 1 + length l + length (wire_of labels) = omega (arith, length-append l (wire_of labels)) in
    let ends : at + 1 + length l + length (wire_of labels) ≡ at + length (wire_of (l ∷ labels)) = omega (arith, count) in
    let some : 1 ≤ length (wire_of labels) = wire_some labels in
    let place : at + length (length l ∷ l) ≡ at + 1 + length l = omega arith in
    let more = in_full message start (at + 1 + length l) (used + 1 + length l) labels after all.1 (omega (arith, room, count))
    (subst (λ n. drop n message ≡ wire_of labels ++ after) place (past message at (length l ∷ l) _ joined)) in
    subst (λ e. ComesTo message start at used (Ok (l ∷ labels, e))) ends
    (label start at used l (wire_of labels ++ after) (Ok (labels, _)) all.0 joined (omega (arith, room, count, some)) more)

-- a name that stands without pointers
pub in_full_at : (message : List ℕ) (at : ℕ) (name : Name) (after : List ℕ) → IsName name → drop at message ≡ wire_of name ++ after
    → NameAt message at name (at + length (wire_of name))
in_full_at message at name after valid is =
    record { stands = in_full message at at 0 name after valid.of_labels (omega (arith, valid.fits)) is; valid = valid }

-- the labels that were read, with the root, are the octets of a name
module _ (message : List ℕ) (at start place : ℕ) (wire : List ℕ) (end : Option ℕ) (so_far : Read message at start place wire end)
    (root_is : IsStep message start place (length wire) Root) where
  stands : ComesTo message at at 0 (Ok (so_far.labels ++ [], unwrap_or end (place + 1)))
  stands = grind (arith, common_steps, root, (so_far.on (Ok ([], place + 1))))

  pub named : (whole : List ℕ) → whole ≡ wire ++ 0 ∷ [] → (name : Name) × NameAt message at name (unwrap_or end (place + 1)) × (whole ≡ wire_of name)
  named whole is =
      let are : whole ≡ wire_of (so_far.labels ++ []) = is ∙ sym (so_far.wires []) in (
        so_far.labels ++ [],
        record {
          stands = stands;
          valid = record {
            of_labels = (stand_inside message at at 0 _ stands).0;
            fits = omega (arith, ap length are, ap length is, length-append wire (0 ∷ []), so_far.room);
          };
        },
        are,
      )

  pub name_inside : unwrap_or end (place + 1) ≤ length message
  name_inside = (stand_inside message at at 0 _ stands).1
