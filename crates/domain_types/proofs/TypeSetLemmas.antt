-- Types that tokens spell, and a builder that holds them.
use Rattle.std.proofs.Common.{◌≡◌, ℕ, ◌+◌, ◌<◌, ◌≤◌, List, [], ◌∷◌, ◌++◌, length, get_or, drop, refl, sym, ap, ◌∙◌, subst, arith, inl, inr}
use Rattle.std.specs.Prelude.{◌==◌, ◌||◌}
use Rattle.std.proofs.lemmas.{Grind.common_steps, Bool.Decides.nat_tests, List.{append_assoc, append-nil}}
use Rattle.domain_bitmap.specs.{Blocks.holds, Bitmap.bitmap_octets, Text.is_among}
use Rattle.domain_bitmap.proofs.BitmapLemmas.{bitmap_octets-same}
use Rattle.domain_types.specs.Reading.{TokenText, SpellsType, TypeTokenFault, MnemonicTexts, MnemonicFault}
use Rattle.domain_types.specs.declared.token.DataFaultKind.{DataFaultKind, TheVariants.OutOfMemory}
use Rattle.domain_types.proofs.ReadLemmas.{many_at}

-- a set with one more type
among_more : (types : List ℕ) (t u : ℕ) → is_among (types ++ t ∷ []) u ≡ (u == t || is_among types u)
unfolding is_among
among_more [] t u = refl
among_more (x ∷ types) t u = grind (arith, common_steps, nat_tests, (among_more types t u))

-- the first tokens spell these types, and the builder holds them
pub record AreAdded (tokens : List TokenText) (place : ℕ) (value : List ℕ) : Type 0 where
  pub types : List ℕ
  pub back : (more : List ℕ) → MnemonicTexts (drop place tokens) more → MnemonicTexts tokens (types ++ more)
  pub fault : (later : ℕ) (kind : DataFaultKind) → MnemonicFault (drop place tokens) later kind → MnemonicFault tokens (place + later) kind
  pub held : (t : ℕ) → t < 65536 → holds value t ≡ is_among types t

pub added_begins : (tokens : List TokenText) (value : List ℕ) → value ≡ [] → AreAdded tokens 0 value
unfolding holds is_among
added_begins tokens value none = record {
  types = [];
  back = λ more is. is;
  fault = λ later kind is. subst (λ n. MnemonicFault tokens n kind) (let e : later ≡ 0 + later = omega arith in e) is;
  held = λ t small. rw none refl;
}

pub added_next : (tokens : List TokenText) (place : ℕ) (token : TokenText) (t : ℕ) (old new : List ℕ) → place < length tokens
    → token ≡ get_or tokens place token → AreAdded tokens place old → SpellsType token t
    → ((u : ℕ) → u < 65536 → holds new u ≡ (u == t || holds old u)) → AreAdded tokens (place + 1) new
added_next tokens place token t old new below at so spells held =
    let rest = many_at tokens place token below at in
    record {
      types = so.types ++ t ∷ [];
      back = λ more is.
          let later : MnemonicTexts (drop place tokens) (t ∷ more) = subst (λ ts. MnemonicTexts ts (t ∷ more)) (sym rest) (t, more, refl, spells, is) in
          subst (MnemonicTexts tokens) (sym (append_assoc so.types (t ∷ []) more)) (so.back (t ∷ more) later);
      fault = λ later kind is.
          let more : MnemonicFault (drop place tokens) (later + 1) kind =
          subst (λ ts. MnemonicFault ts (later + 1) kind) (sym rest) (inr ((t, spells), (later, refl, is))) in
          subst (λ n. MnemonicFault tokens n kind) (let e : place + (later + 1) ≡ place + 1 + later = omega arith in e) (so.fault (later + 1) kind more);
      held = λ u small. held u small ∙ ap (λ b. u == t || b) (so.held u small) ∙ sym (among_more so.types t u);
    }

pub added_fault : (tokens : List TokenText) (place : ℕ) (token : TokenText) (value : List ℕ) (kind : DataFaultKind) → place < length tokens
    → token ≡ get_or tokens place token → AreAdded tokens place value → TypeTokenFault token kind → MnemonicFault tokens place kind
added_fault tokens place token value kind below at so wrong =
    let here : MnemonicFault (drop place tokens) 0 kind =
    subst (λ ts. MnemonicFault ts 0 kind) (sym (many_at tokens place token below at)) (inl (refl, wrong)) in
    subst (λ n. MnemonicFault tokens n kind) (let e : place + 0 ≡ place = omega arith in e) (so.fault 0 kind here)

none_left : (tokens : List TokenText) (place : ℕ) → length tokens ≤ place → drop place tokens ≡ []
none_left tokens place over = grind (arith, common_steps)

pub added_ends : (tokens : List TokenText) (place : ℕ) (value : List ℕ) → length tokens ≤ place → AreAdded tokens place value
    → (types : List ℕ) × MnemonicTexts tokens types × (bitmap_octets (holds value) ≡ bitmap_octets (is_among types))
added_ends tokens place value over so = (
  so.types,
  subst (MnemonicTexts tokens) (append-nil so.types) (so.back [] (subst (λ ts. MnemonicTexts ts []) (sym (none_left tokens place over)) refl)),
  bitmap_octets-same (holds value) (is_among so.types) so.held,
)

pub added_memory : (tokens : List TokenText) (place n : ℕ) (value : List ℕ) → length tokens ≤ place → place ≡ n → AreAdded tokens place value
    → MnemonicFault tokens n OutOfMemory
added_memory tokens place n value over same so =
    let here : MnemonicFault (drop place tokens) 0 OutOfMemory =
    subst (λ ts. MnemonicFault ts 0 OutOfMemory) (sym (none_left tokens place over)) (refl, refl) in
    subst (λ n. MnemonicFault tokens n OutOfMemory) (let e : place + 0 ≡ n = omega (arith, same) in e) (so.fault 0 OutOfMemory here)
