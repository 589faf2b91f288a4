-- Data that tokens spell.
use Rattle.std.proofs.Common.{◌≡◌, ℕ, zero, suc, ◌+◌, ◌-◌, ◌<◌, ◌≤◌, List, [], ◌∷◌, ◌++◌, length, get_or, take, drop, map, refl, sym, ap, ◌∙◌, subst, arith}
use Rattle.std.proofs.Common.{inl, inr, true, false, add-one, drop-cons}
use Rattle.std.proofs.lemmas.{Grind.common_steps, List.{append_assoc, append-nil, take_rest}}
use Rattle.domain_names.specs.Name.{Name}
use Rattle.domain_types.specs.Spelling.{FieldSpelling}
use Rattle.domain_types.specs.declared.token.Token.{Token}
use Rattle.domain_types.specs.Reading.{TokenText, token_text, SpellsField, TokenFault, ManyTexts, ManyFault, LayoutTexts, LayoutFault, AreRead}
use Rattle.domain_types.specs.Reading.{AreUnquoted, token_texts, has_inner_quote}
use Rattle.domain_types.specs.Reading.{TailTexts, TailFault, BaseTexts, BaseFault, QuotedFault, tail_kind}
use Rattle.domain_svcb.specs.Strings.{SpellsNothing, StringText}
use Rattle.domain_codecs.specs.{Codec.Decodes, declared.codec.Codec.Codec}
use Rattle.std.specs.{List.{concat}}
use Rattle.domain_svcb.specs.declared.fault.SpellFault.{SpellFault}
use Rattle.domain_svcb.specs.declared.fault.SpellFault.TheVariants as spell
use Rattle.domain_types.specs.declared.field.Tail.TheVariants as tails
use Rattle.domain_types.specs.declared.token.DataFaultKind.TheVariants.{Missing}
use Rattle.domain_types.specs.declared.token.DataFaultKind.TheVariants as kinds
use Rattle.domain_types.specs.declared.field.Tail.{Tail}
use Rattle.domain_types.specs.declared.field.Field.{Field}
use Rattle.domain_types.specs.declared.token.DataFaultKind.{DataFaultKind}

pub spells_nothing : (origin : Name) (field : Field) (token : TokenText) → ((octets : List ℕ) → FieldSpelling origin field token.octets octets → ⊥)
    → (octets : List ℕ) → SpellsField origin field token octets → ⊥
spells_nothing origin field token none octets is = none octets is.text

pub ruleset field_steps = (common_steps, spells_nothing)

-- the first tokens spell these octets, and the others what is left
pub record IsReadMany (origin : Name) (field : Field) (tokens : List TokenText) (place : ℕ) (old now : List ℕ) : Type 0 where
  pub part : List ℕ
  pub appended : now ≡ old ++ part
  pub back : (after : List ℕ) → ManyTexts origin field (drop place tokens) after → ManyTexts origin field tokens (part ++ after)
  pub fault : (later : ℕ) (kind : DataFaultKind) → ManyFault origin field (drop place tokens) later kind → ManyFault origin field tokens (place + later) kind

-- the token at a place
pub many_at : (tokens : List TokenText) (place : ℕ) (token : TokenText) → place < length tokens → token ≡ get_or tokens place token
    → drop place tokens ≡ token ∷ drop (place + 1) tokens
many_at tokens place token below at = drop-cons tokens place token below ∙ ap (λ t. t ∷ drop (suc place) tokens) (sym at) ∙ rw add-one refl

pub many_next : (origin : Name) (field : Field) (tokens : List TokenText) (place : ℕ) (token : TokenText) (part old now next : List ℕ)
    → place < length tokens → token ≡ get_or tokens place token → IsReadMany origin field tokens place old now
    → SpellsField origin field token part → next ≡ now ++ part → IsReadMany origin field tokens (place + 1) old next
many_next origin field tokens place token part old now next below at so spells next_is =
    let rest = many_at tokens place token below at in
    record {
      part = so.part ++ part;
      appended = next_is ∙ ap (λ n. n ++ part) so.appended ∙ append_assoc old so.part part;
      back = λ after is.
          let more : ManyTexts origin field (drop place tokens) (part ++ after) =
          subst (λ ts. ManyTexts origin field ts (part ++ after)) (sym rest) (part, after, refl, spells, is) in
          subst (ManyTexts origin field tokens) (sym (append_assoc so.part part after)) (so.back (part ++ after) more);
      fault = λ later kind is.
          let more : ManyFault origin field (drop place tokens) (later + 1) kind =
          subst (λ ts. ManyFault origin field ts (later + 1) kind) (sym rest) (inr ((part, spells), (later, refl, is))) in
          subst (λ n. ManyFault origin field tokens n kind) (let e : place + (later + 1) ≡ place + 1 + later = omega arith in e) (so.fault
          (later + 1) kind more);
    }

pub many_fault : (origin : Name) (field : Field) (tokens : List TokenText) (place : ℕ) (token : TokenText) (old now : List ℕ) (kind : DataFaultKind)
    → place < length tokens → token ≡ get_or tokens place token → IsReadMany origin field tokens place old now
    → TokenFault origin field token kind → ManyFault origin field tokens place kind
many_fault origin field tokens place token old now kind below at so wrong =
    let here : ManyFault origin field (drop place tokens) 0 kind =
    subst (λ ts. ManyFault origin field ts 0 kind) (sym (many_at tokens place token below at)) (inl (refl, wrong)) in
    subst (λ n. ManyFault origin field tokens n kind) (let e : place + 0 ≡ place = omega arith in e) (so.fault 0 kind here)

pub many_ends : (origin : Name) (field : Field) (tokens : List TokenText) (place : ℕ) (old now : List ℕ) → length tokens ≤ place
    → (so : IsReadMany origin field tokens place old now) → ManyTexts origin field tokens so.part
many_ends origin field tokens place old now over so =
    let none : drop place tokens ≡ [] = grind (arith, common_steps) in
    subst (ManyTexts origin field tokens) (append-nil so.part) (so.back [] (subst (λ ts. ManyTexts origin field ts []) (sym none) refl))

-- ---- the tokens of the code

abbrev pub first_token : Token
first_token = record { octets = record { ref_ptr = (0, 0); now = [] }; is_quoted = false }

pub token_at : (tokens : List Token) (place : ℕ) (first : Token) → place < length tokens
    → token_text (get_or tokens place first) ≡ get_or (map token_text tokens) place (token_text (get_or tokens place first))
token_at (t ∷ tokens) zero first below = refl
token_at (t ∷ tokens) (suc place) first below = token_at tokens place first (omega (arith, below))
token_at [] place first below = absurd (omega (arith, below))

-- ---- fields, one token each

field_at : (layout : List Field) (place : ℕ) (field first : Field) → place < length layout → field ≡ get_or layout place first
    → drop place layout ≡ field ∷ drop (place + 1) layout
field_at layout place field first below at = drop-cons layout place first below ∙ ap (λ f. f ∷ drop (suc place) layout) (sym at) ∙ rw add-one refl

pub layout_next : (origin : Name) (layout : List Field) (tokens : List TokenText) (place : ℕ) (field first : Field) (token : TokenText)
    (part old now next : List ℕ) → place < length layout → field ≡ get_or layout place first → place < length tokens
    → token ≡ get_or tokens place token → AreRead origin layout tokens place old now → SpellsField origin field token part → next ≡ now ++ part
    → AreRead origin layout tokens (place + 1) old next
layout_next origin layout tokens place field first token part old now next in_layout is_field in_tokens is_token so spells next_is =
    let kinds = field_at layout place field first in_layout is_field in
    let rest = many_at tokens place token in_tokens is_token in
    record {
      part = so.part ++ part;
      appended = next_is ∙ ap (λ n. n ++ part) so.appended ∙ append_assoc old so.part part;
      back = λ tail after is.
          let more : LayoutTexts origin (drop place layout) tail (drop place tokens) (part ++ after) =
          subst (λ fs. LayoutTexts origin fs tail (drop place tokens) (part ++ after)) (sym kinds)
          (subst (λ ts. LayoutTexts origin (field ∷ drop (place + 1) layout) tail ts (part ++ after)) (sym rest) (part, after, refl, spells, is)) in
          subst (LayoutTexts origin layout tail tokens) (sym (append_assoc so.part part after)) (so.back tail (part ++ after) more);
      fault = λ tail later kind is.
          let more : LayoutFault origin (drop place layout) tail (drop place tokens) (later + 1) kind =
          subst (λ fs. LayoutFault origin fs tail (drop place tokens) (later + 1) kind) (sym kinds)
          (subst (λ ts. LayoutFault origin (field ∷ drop (place + 1) layout) tail ts (later + 1) kind) (sym rest) (inr ((part, spells), (later, refl, is)))) in
          subst (λ n. LayoutFault origin layout tail tokens n kind) (let e : place + (later + 1) ≡ place + 1 + later = omega arith in e)
          (so.fault tail (later + 1) kind more);
    }

pub layout_fault : (origin : Name) (layout : List Field) (tokens : List TokenText) (place : ℕ) (field first : Field) (token : TokenText)
    (old now : List ℕ) (kind : DataFaultKind) (tail : Tail) → place < length layout → field ≡ get_or layout place first → place < length tokens
    → token ≡ get_or tokens place token → AreRead origin layout tokens place old now → TokenFault origin field token kind
    → LayoutFault origin layout tail tokens place kind
layout_fault origin layout tokens place field first token old now kind tail in_layout is_field in_tokens is_token so wrong =
    let here : LayoutFault origin (drop place layout) tail (drop place tokens) 0 kind =
    subst (λ fs. LayoutFault origin fs tail (drop place tokens) 0 kind) (sym (field_at layout place field first in_layout is_field))
    (subst (λ ts. LayoutFault origin (field ∷ drop (place + 1) layout) tail ts 0 kind) (sym (many_at tokens place token in_tokens is_token)) (inl
    (refl, wrong))) in
    subst (λ n. LayoutFault origin layout tail tokens n kind) (let e : place + 0 ≡ place = omega arith in e) (so.fault tail 0 kind here)

pub layout_missing : (origin : Name) (layout : List Field) (tokens : List TokenText) (place : ℕ) (first : Field) (old now : List ℕ) (tail : Tail)
    → place < length layout → length tokens ≤ place → AreRead origin layout tokens place old now → LayoutFault origin layout tail tokens place Missing
layout_missing origin layout tokens place first old now tail in_layout over so =
    let none : drop place tokens ≡ [] = grind (arith, common_steps) in
    let here : LayoutFault origin (drop place layout) tail (drop place tokens) 0 Missing =
    subst (λ fs. LayoutFault origin fs tail (drop place tokens) 0 Missing) (sym (field_at layout place (get_or layout place first) first in_layout refl))
    (subst (λ ts. LayoutFault origin (get_or layout place first ∷ drop (place + 1) layout) tail ts 0 Missing) (sym none) (refl, refl)) in
    subst (λ n. LayoutFault origin layout tail tokens n Missing) (let e : place + 0 ≡ place = omega arith in e) (so.fault tail 0 Missing here)

-- ---- tails

pub base_texts : (codec : Codec) (tokens : List TokenText) (text octets : List ℕ) → 0 < length tokens → AreUnquoted tokens
    → text ≡ concat (token_texts tokens) → Decodes codec text octets → BaseTexts codec tokens octets
base_texts codec tokens text octets some unquoted text_is is =
    record { some = some; unquoted = unquoted; decodes = subst (λ t. Decodes codec t octets) text_is is }

pub base_fault : (codec : Codec) (tail : Tail) (tokens : List TokenText) (text : List ℕ) (fault : SpellFault) (place : ℕ) (kind : DataFaultKind)
    → 0 < length tokens → text ≡ concat (token_texts tokens) → SpellsNothing (Decodes codec text) fault → place ≡ 0 → kind ≡ tail_kind fault tail
    → BaseFault codec tail tokens place kind
base_fault codec tail tokens text spell.Invalid place kind some text_is none at is =
    subst (BaseFault codec tail tokens place) (sym is)
    (at, refl, some, λ octets texts_are. none octets (subst (λ t. Decodes codec t octets) (sym text_is) texts_are.decodes))
base_fault codec tail tokens text spell.OutOfMemory place kind some text_is none at is = subst (BaseFault codec tail tokens place) (sym is) tt

pub one_token : (tokens : List Token) → length tokens ≡ 1 → map token_text tokens ≡ token_text (get_or tokens 0 first_token) ∷ []
one_token [] one = absurd (omega (arith, one))
one_token (t ∷ []) one = refl
one_token (t ∷ u ∷ tokens) one = absurd (omega (arith, one))

pub inner_fault : (tokens : List TokenText) (token : TokenText) (place : ℕ) (kind : DataFaultKind) → tokens ≡ token ∷ [] → has_inner_quote token ≡ true
    → place ≡ 0 → kind ≡ kinds.Quoted → QuotedFault tokens place kind
inner_fault tokens token place kind one inner at is = subst (QuotedFault tokens place) (sym is) (at, (token, one, inner))

pub quoted_fault : (tokens : List TokenText) (token : TokenText) (fault : SpellFault) (place : ℕ) (kind : DataFaultKind) → tokens ≡ token ∷ []
    → SpellsNothing (StringText token.octets) fault → place ≡ 0 → kind ≡ tail_kind fault tails.Quoted → QuotedFault tokens place kind
quoted_fault tokens token spell.Invalid place kind one none at is = subst (QuotedFault tokens place) (sym is) (
  at,
  refl,
  ap length one,
  λ octets found.
      let same : found.token ≡ token = let both : ◌≡◌ {A = List TokenText} (found.token ∷ []) (token ∷ []) = sym found.one ∙ one in cc in
      none octets (subst (λ t. StringText t.octets octets) same found.text),
)
quoted_fault tokens token spell.OutOfMemory place kind one none at is = subst (QuotedFault tokens place) (sym is) tt

pub nothing_left : (tokens : List Token) → length tokens ≡ 0 → map token_text tokens ≡ []
nothing_left [] none = refl
nothing_left (t ∷ tokens) none = absurd (omega (arith, none))

pub ruleset tail_steps = (common_steps, nothing_left)

pub ruleset generic_steps = (common_steps)

-- ---- data

drop_map : (tokens : List Token) (n : ℕ) → drop n (map token_text tokens) ≡ map token_text (drop n tokens)
drop_map [] zero = refl
drop_map [] (suc n) = refl
drop_map (t ∷ tokens) zero = refl
drop_map (t ∷ tokens) (suc n) = drop_map tokens n

pub tokens_left : (tokens : List Token) (n : ℕ) → map token_text (take (length tokens - n) (drop n tokens)) ≡ drop n (map token_text tokens)
tokens_left tokens n = ap (map token_text) (take_rest tokens n) ∙ sym (drop_map tokens n)

pub layout_read : (origin : Name) (layout : List Field) (tail : Tail) (tokens left : List TokenText) (old now next part : List ℕ)
    → AreRead origin layout tokens (length layout) old now → left ≡ drop (length layout) tokens → TailTexts origin tail left part → next ≡ now ++ part
    → (all : List ℕ) × LayoutTexts origin layout tail tokens all × (next ≡ old ++ all)
layout_read origin layout tail tokens left old now next part so left_is is next_is =
    let none : drop (length layout) layout ≡ [] = grind (arith, common_steps) in
    let rest : LayoutTexts origin (drop (length layout) layout) tail (drop (length layout) tokens) part =
    subst (λ fs. LayoutTexts origin fs tail (drop (length layout) tokens) part) (sym none) (subst (λ ts. TailTexts origin tail ts part) left_is is) in
    (so.part ++ part, so.back tail part rest, next_is ∙ ap (λ n. n ++ part) so.appended ∙ append_assoc old so.part part)

pub layout_refused : (origin : Name) (layout : List Field) (tail : Tail) (tokens left : List TokenText) (old now : List ℕ) (place : ℕ) (kind : DataFaultKind)
    → AreRead origin layout tokens (length layout) old now → left ≡ drop (length layout) tokens → TailFault origin tail left place kind
    → LayoutFault origin layout tail tokens (length layout + place) kind
layout_refused origin layout tail tokens left old now place kind so left_is is =
    let none : drop (length layout) layout ≡ [] = grind (arith, common_steps) in
    let rest : LayoutFault origin (drop (length layout) layout) tail (drop (length layout) tokens) place kind =
    subst (λ fs. LayoutFault origin fs tail (drop (length layout) tokens) place kind) (sym none) (subst
    (λ ts. TailFault origin tail ts place kind) left_is is) in
    so.fault tail place kind rest

-- the first of the tokens of the code, and the others
pub first_parts : (tokens : List Token) → 0 < length tokens
    → map token_text tokens ≡ token_text (get_or tokens 0 first_token) ∷ drop 1 (map token_text tokens)
first_parts [] some = absurd (omega (arith, some))
first_parts (t ∷ tokens) some = refl
