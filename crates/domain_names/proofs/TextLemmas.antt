-- Names as text.
use Rattle.std.proofs.Common.{arith, ℕ, zero, suc, ◌<◌, ◌≤◌, ◌≡◌, ◌∷◌, ◌++◌, [], List, refl, ap, subst, ◌∙◌, length, take, drop, length-append, ◌≢◌, get_or}
use Rattle.std.proofs.{Common.{◌+◌, ◌-◌, slice_set, Option, Some, None, sym, inl, inr, ◌⊎◌}, Math.Seq.set-append_seam}
use Rattle.std.proofs.lemmas.List.{append_assoc, append-nil, length-drop, length-take-le, take_more, drop_more}
use Rattle.std.proofs.lemmas.{List.Elements.{All-head, All-tail, All-cons}, Str.{IsAscii-append, IsAscii-take, IsAscii-drop, IsUtf8-from_ascii}}
use Rattle.std.proofs.lemmas.Grind.{common_steps}
use Rattle.std.{proofs.lemmas.Str.Ascii.IsAscii-nil, specs.{List.{All, AllByRecursion as ByRecursion, AllByRecursion}, Str.{IsAscii, IsUtf8}, Prelude.IsSome}}
use Rattle.std.specs.Prelude.{IfSome}
use Rattle.domain_names.specs.Text.{octet_text, label_text, dotted_text, symbol_at, LabelText, ends, octet, HasNoLabel, HasNoLabelAfter, LabelTexts, IsBefore}
use Rattle.domain_names.specs.{Text.{last, dotted, NameText, root, of_labels, IsNoName}, Name.{wire_of, IsLabel, IsName, Name}}
use Rattle.domain_names.{specs.Wire.{labels_of, IsWire}, proofs.WireLemmas.length-wire_of}

-- ---- texts of names are ASCII

octet_text_ascii : (c : ℕ) → c < 256 → IsAscii (octet_text c)
unfolding octet_text
octet_text_ascii c small = grind (arith, common_steps)

pub label_text_ascii : (label : List ℕ) → All (λ c. c < 256) label → IsAscii (label_text label)
label_text_ascii [] octets = IsAscii-nil
label_text_ascii (c ∷ label) octets = IsAscii-append _ _
    (octet_text_ascii c (All-head (λ x. x < 256) c label octets)) (label_text_ascii label (All-tail (λ x. x < 256) c label octets))

dotted_text_ascii : (labels : Name) → ByRecursion IsLabel labels → IsAscii (dotted_text labels)
dotted_text_ascii [] valid = IsAscii-nil
dotted_text_ascii (label ∷ labels) valid = grind (arith, common_steps, label_text_ascii, (dotted_text_ascii labels valid.1))

pub behind_dot : (labels : Name) (text : List ℕ) (n : ℕ) → IsName labels → text ≡ dotted_text labels → IsUtf8 (take n (drop 1 text))
behind_dot labels text n valid is =
    IsUtf8-from_ascii _ (IsAscii-take _ n (IsAscii-drop text 1 (subst IsAscii (sym is) (dotted_text_ascii labels valid.of_labels))))

-- ---- names whose octets become their text

-- the labels of a name before its rest have become text, and the rest stands as it was
pub record IsDotted (name rest text : List ℕ) : Type 0 where
  pub front : List ℕ
  pub parts : text ≡ front ++ rest
  pub dots : dotted_text (labels_of name) ≡ front ++ dotted_text (labels_of rest)
  pub wire : IsWire rest
  pub size : length text ≡ length name

pub dotted_more : (name rest text label above : List ℕ) → IsDotted name rest text → labels_of rest ≡ label ∷ labels_of above → IsWire above
    → label_text label ≡ label → IsDotted name above (slice_set text (length name - length rest) 46)
dotted_more name rest text label above so_far labels further same =
    let is : rest ≡ length label ∷ (label ++ above) = (let wire = so_far.wire.spelled in grind (arith, common_steps)) in
    record {
      front = so_far.front ++ 46 ∷ label;
      parts = grind (arith, common_steps, (set-append_seam so_far.front (length label) (label ++ above) 46));
      dots = grind (arith, common_steps);
      wire = further;
      size = grind (arith, common_steps);
    }

pub dotted_ends : (name rest text : List ℕ) → IsDotted name rest text → labels_of rest ≡ []
    → slice_set text (length name - length rest) 46 ≡ dotted_text (labels_of name) ++ 46 ∷ []
dotted_ends name rest text so_far none =
    let is : rest ≡ 0 ∷ [] = so_far.wire.spelled ∙ ap wire_of none in
    grind (arith, common_steps, (set-append_seam so_far.front 0 [] 46))

pub dotted_ascii : (labels : Name) → IsName labels → IsAscii (dotted_text labels ++ 46 ∷ [])
dotted_ascii labels valid = grind (arith, common_steps, dotted_text_ascii)

-- a part of a text that is ASCII
pub ascii_within : (text : List ℕ) (n m : ℕ) → IsAscii text → IsUtf8 (take n (drop m text))
ascii_within text n m ascii = IsUtf8-from_ascii _ (IsAscii-take _ n (IsAscii-drop text m ascii))

pub ruleset dotted_steps = (common_steps, dotted_more, dotted_ends)

-- ---- names spelled by texts

-- no octet of a label stands where a label ends
pub before_stops : (next after : List ℕ) → IsBefore next after → symbol_at after ≡ None
unfolding symbol_at
before_stops next after before = grind (arith, common_steps)

-- what a label's text is after its first octet
record Onward (text label after : List ℕ) (used c : ℕ) : Type 0 where
  rest : List ℕ
  is : label ≡ c ∷ rest
  spelled : LabelText (drop used text) rest after

after_octet : (text label after : List ℕ) (c used : ℕ) → symbol_at text ≡ Some (c, used) → LabelText text label after → Onward text label after used c
after_octet text label after c used is spelled = grind (arith, common_steps)

-- a text that is read as a label, up to some place
pub record Spelling (text rest done : List ℕ) : Type 0 where
  pub onward : (label after : List ℕ) → LabelText rest label after → LabelText text (done ++ label) after
  pub back : (label after : List ℕ) → LabelText text label after → (end : List ℕ) × (label ≡ done ++ end) × LabelText rest end after

pub spelling_begins : (text : List ℕ) → Spelling text text []
spelling_begins text = record { onward = λ label after spelled. spelled; back = λ label after spelled. (label, refl, spelled) }

pub spelling_goes : (text rest done : List ℕ) (c used : ℕ) → Spelling text rest done → symbol_at rest ≡ Some (c, used)
    → Spelling text (drop used rest) (done ++ c ∷ [])
spelling_goes text rest done c used so_far is = record {
  onward = λ label after spelled. rw append_assoc (so_far.onward (c ∷ label) after (octet rest label after c used is spelled));
  back = λ label after spelled.
      let here = so_far.back label after spelled in
      let next = after_octet rest here.0 after c used is here.2 in
      (next.rest, grind (arith, common_steps), next.spelled);
}

-- characters that stand for themselves
pub spelling_plain : (text : List ℕ) (n : ℕ) → n ≤ length text
    → ((k : ℕ) → k < n → symbol_at (drop k text) ≡ Some (get_or text k 0, 1)) → Spelling text (drop n text) (take n text)
spelling_plain text zero le h = spelling_begins text
spelling_plain text (suc n) le h =
    let e : n + 1 ≡ suc n = omega arith in
    let so_far = spelling_plain text n (omega arith) (λ k lt. h k (omega arith)) in
    let next = spelling_goes text (drop n text) (take n text) (get_or text n 0) 1 so_far (h n (omega arith)) in
    grind (arith, common_steps, (take_more text n 0 (omega arith)))

-- one character more that stands for itself
pub plain_symbol : (c : ℕ) (text : List ℕ) → c ≢ 92 → c ≢ 46 → 32 ≤ c → c ≤ 126 → symbol_at (c ∷ text) ≡ Some (c, 1)
unfolding symbol_at
plain_symbol c text slash dot low high = grind (arith, common_steps)

pub spelling_ends : (text rest done : List ℕ) → Spelling text rest done → symbol_at rest ≡ None → LabelText text done rest
spelling_ends text rest done so_far none = rw append-nil at (so_far.onward [] rest (ends rest none))

pub no_label_by_length : (text rest done : List ℕ) (c used : ℕ) → Spelling text rest done → symbol_at rest ≡ Some (c, used)
    → 63 < length done + 1 → HasNoLabel text
no_label_by_length text rest done c used so_far is long = λ label after spelled.
    let here = so_far.back label after spelled in
    let next = after_octet rest here.0 after c used is here.2 in
    omega (arith, ap length here.1, length-append done here.0, ap length next.is)

pub no_label_by_plain : (text : List ℕ) (n : ℕ) → n ≤ length text
    → ((k : ℕ) → k < n → symbol_at (drop k text) ≡ Some (get_or text k 0, 1)) → 63 < n → HasNoLabel text
no_label_by_plain text n within plain long = λ label after spelled.
    let here = (spelling_plain text n within plain).back label after spelled in
    omega (arith, ap length here.1, length-append (take n text) here.0, length-take-le n text within)

-- what follows a label is no longer than the text
pub after_label : (text label after : List ℕ) → LabelText text label after → length after ≤ length text
after_label text label after (ends t none) = omega arith
after_label text label after (octet t l a c used is spelled) = omega (arith, after_label (drop used text) l after spelled, length-drop used text)

-- a text begins with one label
pub one_label : (text label after other end : List ℕ) → LabelText text label after → LabelText text other end → (other ≡ label) × (end ≡ after)
one_label text label after other end (ends t none) (ends t' none') = (refl, refl)
one_label text label after other end (ends t none) (octet t' l a c used is spelled) = absurd (cc)
one_label text label after other end (octet t l a c used is spelled) second =
    let next = after_octet text other end c used is second in
    let same = one_label (drop used text) l after next.rest end spelled next.spelled in
    (next.is ∙ ap (λ r. c ∷ r) same.0, same.1)

-- labels that are read up to some place, and their octets
pub record Naming (text rest wire : List ℕ) : Type 0 where
  pub onward : (labels : Name) → LabelTexts rest labels → (all : Name) × LabelTexts text all × (wire ++ wire_of labels ≡ wire_of all)
  pub back : (all : Name) → LabelTexts text all → (labels : Name) × LabelTexts rest labels × (wire ++ wire_of labels ≡ wire_of all)

pub naming_goes : (text rest wire label after next : List ℕ) → Naming text rest wire → LabelText rest label after
    → IsBefore next after → next ≢ [] → IsLabel label → Naming text next (wire ++ length label ∷ label)
naming_goes text rest wire label after next so_far read before some valid = record {
  onward = λ labels spelled.
      let here : LabelText rest label (46 ∷ next) = grind (arith, common_steps) in
      let whole = so_far.onward (label ∷ labels) (dotted rest label next labels here valid spelled) in
      (whole.0, whole.1, append_assoc wire (length label ∷ label) (wire_of labels) ∙ whole.2);
  back = λ all spelled. let here = so_far.back all spelled in go all here.0 here.1 here.2;
} where
  go : (all labels : Name) → LabelTexts rest labels → wire ++ wire_of labels ≡ wire_of all
      → (more : Name) × LabelTexts next more × ((wire ++ length label ∷ label) ++ wire_of more ≡ wire_of all)
  go all labels (last t l a s v e) is = absurd (let same = one_label rest label after l a read s in grind (arith, common_steps))
  go all labels (dotted t l end more s v others) is =
      let same = one_label rest label after l (46 ∷ end) read s in
      let e : end ≡ next = grind (arith, common_steps) in
      (more, subst (λ x. LabelTexts x more) e others, grind (arith, common_steps))

-- the octets of the labels of a text, to which the root is added
abbrev pub IsLabelsWire : List ℕ → List ℕ → Type 0
IsLabelsWire text wire = (labels : Name) × LabelTexts text labels × (wire ++ 0 ∷ [] ≡ wire_of labels)

pub naming_ends : (text rest wire label after : List ℕ) → Naming text rest wire → LabelText rest label after → IsBefore [] after
    → IsLabel label → IsLabelsWire text (wire ++ length label ∷ label)
naming_ends text rest wire label after so_far read end valid = grind (arith, common_steps, (so_far.onward (label ∷ []) (last rest label after read valid end)))

abbrev pub IsNoLabels : List ℕ → Type 0
IsNoLabels text = (labels : Name) → LabelTexts text labels → IsName labels → ⊥

-- where no name goes on
pub no_label_left : (text rest wire : List ℕ) → Naming text rest wire → HasNoLabelAfter wire rest → IsNoLabels text
no_label_left text rest wire so_far none = λ all spelled valid. let here = so_far.back all spelled in
    go here.0 here.1 (omega (arith, valid.fits, ap length here.2, length-append wire (wire_of here.0)))
  where
    go : (labels : Name) → LabelTexts rest labels → length wire + length (wire_of labels) ≤ 255 → ⊥
    go labels (last t l a s v e) fits = let long = none l a s v in grind (arith, common_steps)
    go labels (dotted t l end more s v others) fits = let long = none l _ s v in grind (arith, common_steps, (length-wire_of more))

pub wrong_after : (text rest wire label after : List ℕ) → Naming text rest wire → LabelText rest label after
    → ((next : List ℕ) → IsBefore next after → ⊥) → IsNoLabels text
wrong_after text rest wire label after so_far read wrong = λ all spelled valid. let here = so_far.back all spelled in go here.0 here.1 where
  go : (labels : Name) → LabelTexts rest labels → ⊥
  go labels (last t l a s v e) = wrong [] (subst (IsBefore []) (one_label rest label after l a read s).1 e)
  go labels (dotted t l next more s v others) = wrong next (inl (sym (one_label rest label after l (46 ∷ next) read s).1))

-- the text is the root's or that of labels
pub no_name : (text : List ℕ) → text ≢ 46 ∷ [] → IsNoLabels text → IsNoName text
no_name text other none labels spelled = grind (arith, common_steps)

-- a text of labels begins with an octet of the first
no_labels : (text : List ℕ) (labels : Name) → IsBefore [] text → LabelTexts text labels → ⊥
no_labels text labels before spelled = grind (arith, common_steps, one_label, (ends text (before_stops [] text before)))

-- a text spells one list of labels at most
same_labels : (text : List ℕ) (xs ys : Name) → LabelTexts text xs → LabelTexts text ys → xs ≡ ys
same_labels text xs ys (last t l a s v e) (last t' l' a' s' v' e') = grind (arith, common_steps, one_label)
same_labels text xs ys (last t l a s v e) (dotted t' l' end' more' s' v' others') = grind (arith, common_steps, one_label, no_labels)
same_labels text xs ys (dotted t l end more s v others) (last t' l' a' s' v' e') = grind (arith, common_steps, one_label, no_labels)
same_labels text xs ys (dotted t l end more s v others) (dotted t' l' end' more' s' v' others') =
    let same = one_label t l (46 ∷ end) l' (46 ∷ end') s s' in
    let e : end' ≡ end = grind (arith, common_steps) in
    let rest = same_labels end more more' others (subst (λ x. LabelTexts x more') e others') in grind (arith, common_steps)

-- a text spells one name at most
pub one_name : (text : List ℕ) (xs ys : Name) → NameText text xs → NameText text ys → xs ≡ ys
one_name text xs ys first second = grind (arith, common_steps, no_labels, same_labels)

all_valid : (text : List ℕ) (labels : Name) → LabelTexts text labels → AllByRecursion IsLabel labels
all_valid text labels (last t l a s valid e) = (valid, tt)
all_valid text labels (dotted t l end more s valid others) = (valid, all_valid end more others)

-- what is answered for a text: the octets of its name
abbrev pub IsNamed : List ℕ → List ℕ → Type 0
IsNamed text wire = (labels : Name) × NameText text labels × (wire ≡ wire_of labels)

pub named_root : (text new : List ℕ) → text ≡ 46 ∷ [] → new ≡ 0 ∷ [] → IsNamed text new
named_root text new is found = ([], subst (λ t. NameText t []) (sym is) root, found)

-- the octets of labels, and then of the root, for which there was room
pub named_fits : {U : Type 0} (text wire new : List ℕ) (o : Option U) → IsLabelsWire text wire → (IsSome o → length wire < 255)
    → IfSome o (λ _. new ≡ wire ++ 0 ∷ []) → IfSome o (λ _. IsNamed text new)
named_fits text wire new None found fits is = tt
named_fits text wire new (Some u) (labels, spelled, whole) fits is =
    let small : length wire < 255 = fits refl in
    let valid : IsName labels = grind (arith, common_steps, (ap length whole), all_valid) in
    (labels, of_labels text labels spelled valid, is ∙ whole)

-- the root has no room after those of labels
pub long_name : (text wire : List ℕ) → IsLabelsWire text wire → 255 ≤ length wire → text ≢ 46 ∷ [] → IsNoName text
long_name text wire found long other = grind (arith, common_steps, no_name, same_labels)

pub name_is_valid : (text : List ℕ) (labels : Name) → NameText text labels → IsName labels
name_is_valid text labels spelled = grind (arith, common_steps)

-- ---- texts whose octets become names

-- the last octet of a text, if it is a dot, ends it
pub before_last_dot : (text : List ℕ) (n : ℕ) → n + 1 ≡ length text → get_or text n 0 ≡ 46 → IsBefore [] (drop n text)
before_last_dot text n last_one dot = inl (grind (arith, common_steps, (drop_more text n 0 (omega arith))))

-- what follows a label, from its dot on, and the octets of the labels there, each with its length before it
abbrev IsRead : List ℕ → List ℕ → Type 0
IsRead rest after =
    (IsBefore [] rest × (after ≡ []))
    ⊎ ((next : List ℕ) × (labels : Name) × (rest ≡ 46 ∷ next) × LabelTexts next labels × (after ++ 0 ∷ [] ≡ wire_of labels))

-- labels that are read from the end of a text to some place, where the first of them may go on before it
pub record Backward (text octets : List ℕ) (end start count : ℕ) : Type 0 where
  pub first : ℕ
  pub label : List ℕ
  pub rest : List ℕ
  pub after : List ℕ
  pub within : start ≤ end
  pub inside : end ≤ length text
  pub parts : octets ≡ first ∷ (take start text ++ (label ++ after))
  pub spelled : LabelText (drop start text) label rest
  pub read : IsRead rest after
  pub long : length label ≡ count
  pub small : All (λ c. c < 256) label
  pub size : length octets ≡ end + 1

pub backward_begins : (text octets : List ℕ) (end : ℕ) → IsBefore [] (drop end text) → end ≤ length text
    → (first : ℕ) × (octets ≡ first ∷ take end text) → Backward text octets end end 0
backward_begins text octets end before within (first, is) = record {
  first = first;
  label = [];
  rest = drop end text;
  after = [];
  within = omega arith;
  inside = within;
  parts = grind (arith, common_steps);
  spelled = ends (drop end text) (before_stops [] _ before);
  read = inl (before, refl);
  long = refl;
  small = λ i d below. absurd (omega (arith, below));
  size = grind (arith, common_steps);
}

-- one character more of a label
pub backward_plain : (text octets : List ℕ) (end start next count c : ℕ) → Backward text octets end start count → next + 1 ≡ start
    → c ≡ get_or text next 0 → c ≢ 92 → c ≢ 46 → 32 ≤ c → c ≤ 126 → Backward text octets end next (count + 1)
backward_plain text octets end start next count c so_far is c_is slash dot low high =
    let here : drop next text ≡ c ∷ drop start text = grind (arith, common_steps, (drop_more text next 0 (omega (arith, so_far.within, so_far.inside)))) in
    record {
      first = so_far.first;
      label = c ∷ so_far.label;
      rest = so_far.rest;
      after = so_far.after;
      within = omega (arith, so_far.within);
      inside = so_far.inside;
      parts = grind (arith, common_steps, (take_more text next 0 (omega (arith, so_far.within, so_far.inside))));
      spelled = rw here (octet (c ∷ drop start text) so_far.label so_far.rest c 1 (plain_symbol c _ slash dot low high) so_far.spelled);
      read = so_far.read;
      long = omega (arith, so_far.long);
      small = All-cons (λ d. d < 256) c so_far.label (omega (arith, high)) so_far.small;
      size = so_far.size;
    }

-- one label more before what is read, and its length before it
label_read : (text label rest after : List ℕ) → LabelText text label rest → IsRead rest after → IsLabel label
    → (labels : Name) × LabelTexts text labels × ((length label ∷ (label ++ after)) ++ 0 ∷ [] ≡ wire_of labels)
label_read text label rest after spelled (inl (before, none)) valid = (label ∷ [], last text label rest spelled valid before, grind (arith, common_steps))
label_read text label rest after spelled (inr (next, labels, is, others, wire)) valid =
    (label ∷ labels, dotted text label next labels (subst (λ r. LabelText text label r) is spelled) valid others, grind (arith, common_steps))

module _ {text octets : List ℕ} {end start count : ℕ} (so_far : Backward text octets end start count) (some : 0 < count) (fits : count ≤ 63) where
  label_valid : IsLabel so_far.label
  label_valid = record { not_empty = omega (arith, some, so_far.long); fits = omega (arith, fits, so_far.long); octets = so_far.small }

  here : (labels : Name) × LabelTexts (drop start text) labels × ((count ∷ (so_far.label ++ so_far.after)) ++ 0 ∷ [] ≡ wire_of labels)
  here =
      let found = label_read (drop start text) so_far.label so_far.rest so_far.after so_far.spelled so_far.read label_valid in
      (found.0, found.1, ap (λ n. (n ∷ (so_far.label ++ so_far.after)) ++ 0 ∷ []) (sym so_far.long) ∙ found.2)

  pub backward_dot : (next : ℕ) → next + 1 ≡ start → get_or text next 0 ≡ 46 → Backward text (slice_set octets start count) end next 0
  backward_dot next is dot =
      let inside : next < length text = omega (arith, so_far.within, so_far.inside, is) in
      let at_dot : drop next text ≡ 46 ∷ drop start text = grind (arith, common_steps, (drop_more text next 0 inside)) in
      let parted : octets ≡ (so_far.first ∷ take next text) ++ 46 ∷ (so_far.label ++ so_far.after) =
      grind (arith, common_steps, (so_far.parts), (take_more text next 0 inside)) in
      let place : length (so_far.first ∷ take next text) ≡ start = grind (arith, common_steps, (length-take-le next text (omega (arith, inside)))) in
      record {
        first = so_far.first;
        label = [];
        rest = drop next text;
        after = count ∷ (so_far.label ++ so_far.after);
        within = omega (arith, so_far.within, is);
        inside = so_far.inside;
        parts = rw (parted, ← place) (set-append_seam (so_far.first ∷ take next text) 46 (so_far.label ++ so_far.after) count);
        spelled = ends (drop next text) (before_stops (drop start text) _ (inl at_dot));
        read = inr (drop start text, here.0, at_dot, here.1, here.2);
        long = refl;
        small = λ i d below. absurd (omega (arith, below));
        size = grind (arith, common_steps, (so_far.size));
      }

  pub backward_ends : start ≡ 0 → IsLabelsWire text (slice_set octets 0 count)
  backward_ends is =
      let whole : drop start text ≡ text = rw is refl in
      let parted : octets ≡ so_far.first ∷ (so_far.label ++ so_far.after) = grind (arith, common_steps, (so_far.parts)) in
      (here.0, subst (λ t. LabelTexts t here.0) whole here.1, ap (λ o. slice_set o 0 count ++ 0 ∷ []) parted ∙ here.2)

pub ruleset naming_steps = (common_steps, after_label, naming_goes, naming_ends, no_label_left, wrong_after)

pub ruleset spelling_steps = (common_steps, spelling_goes, spelling_ends, no_label_by_length)

pub ruleset named_steps = (common_steps, named_root, long_name, no_name)

pub ruleset backward_steps = (common_steps, backward_begins, backward_plain, backward_dot, backward_ends)
