-- Entries: how they go on from lexeme to lexeme.
use Rattle.std.proofs.Common.{arith, ℕ, zero, suc, ◌+◌, ◌-◌, ◌<◌, ◌≤◌, ◌≡◌, ◌∷◌, ◌++◌, [], List, refl, ap, subst, ◌∙◌, sym, length, take, drop}
use Rattle.std.proofs.Common.{get_or, Bool, true, false, Option, Some, None, append_assoc, inl, inr}
use Rattle.std.proofs.{lemmas.Bool.cases_lt, lemmas.Grind.common_steps, lemmas.List.{drop-drop, append-nil, length-drop}}
use Rattle.std.specs.Prelude.{if◌then◌else◌, max, nat_le}
use Rattle.domain_octets.specs.Octets.{Octets}
use Rattle.domain_zonefile.proofs.LexemeLemmas.{split_at, lexeme_bounds, lexeme_within, rest_is}
use Rattle.domain_zonefile.specs.Lexemes.{lexeme_at, lexeme_len, HasBounds}
use Rattle.domain_zonefile.specs.Entries.{Placed, placed, lexemes_from, lexemes, Piece, lexeme_tokens, open_after, ends_entry, lexeme_fault}
use Rattle.domain_zonefile.specs.Entries.{tokens_in, or_else, unclosed_bracket, fault_in, EntryEnd, BeforeLine, EndOfFile, end_in, resume, tokens_at}
use Rattle.domain_zonefile.specs.Entries.{fault_at, next_at, line_after, item_of, items_in, items_from, entry_of, begins_blank, Entry as EntryItem}
use Rattle.domain_zonefile.specs.Entries.{Faulty as FaultyItem}
use Rattle.domain_zonefile.specs.{Tokens.{innermost, has_no_token}, Reading.{IsReading, IsFileEnd}}
use Rattle.domain_zonefile.specs.declared.{error.SyntaxFault.SyntaxFault, lexeme.Lexeme.{Lexeme, TheVariants.{Gap, LineEnd, Open, Close}}}
use Rattle.domain_zonefile.specs.declared.lexeme.Lexeme.TheVariants.{Word, Quoted, Bad}
use Rattle.domain_zonefile.specs.declared.entry.Reading.{Reading, TheVariants.{Entry, Faulty}}

-- ---- the lexemes of a file, one after the other

lexemes_skip : (skip at : ℕ) (text : Octets) → lexemes_from skip at text ≡ lexemes_from 0 (at + skip) (drop skip text)
unfolding lexemes_from
lexemes_skip zero at text = grind (arith, common_steps)
lexemes_skip (suc skip) at [] = refl
lexemes_skip (suc skip) at (c ∷ text) =
    lexemes_skip skip (at + 1) text ∙ ap (λ k. lexemes_from 0 k (drop skip text)) (omega arith)

lexemes_first : (at : ℕ) (c : ℕ) (text : Octets) → lexemes_from 0 at (c ∷ text)
    ≡ placed at (c ∷ text) ∷ lexemes_from (lexeme_len (lexeme_at (c ∷ text)) - 1) (at + 1) text
unfolding lexemes_from
lexemes_first at c text = refl

lexemes_none : (at : ℕ) → lexemes_from 0 at [] ≡ []
unfolding lexemes_from
lexemes_none at = refl

-- the lexeme at a place is not empty, and within the file
pub lexeme_here : (file : Octets) (at : ℕ) → at < length file
    → HasBounds 1 (length file - at) (lexeme_at (drop at file))
lexeme_here file at h = subst (λ n. HasBounds 1 n (lexeme_at (drop at file))) (length-drop at file)
    (lexeme_within (drop at file) (lexeme_at (drop at file)) refl (omega (arith, length-drop at file)))

lexemes_more : (file : Octets) (at : ℕ) → at < length file
    → lexemes file at ≡ placed at (drop at file) ∷ lexemes file (at + lexeme_len (lexeme_at (drop at file)))
lexemes_more file at h =
    let c = get_or file at 0 in
    let rest = drop (at + 1) file in
    let split = split_at file at h in
    let len = lexeme_len (lexeme_at (c ∷ rest)) in
    let some : 1 ≤ len = (lexeme_bounds c rest).low in
    ap (lexemes_from 0 at) split ∙ lexemes_first at c rest
    ∙ ap (λ xs. placed at (c ∷ rest) ∷ xs) (lexemes_skip (len - 1) (at + 1) rest
    ∙ ap (λ k. lexemes_from 0 k (drop (len - 1) rest)) (omega arith)
    ∙ ap (lexemes_from 0 (at + len)) (drop-drop (len - 1) (at + 1) file ∙ ap (λ k. drop k file) (omega arith)))
    ∙ ap (λ (text : Octets). placed at text ∷ lexemes_from 0 (at + lexeme_len (lexeme_at text)) (drop (at + lexeme_len (lexeme_at text)) file)) (sym split)

lexemes_end : (file : Octets) (at : ℕ) → length file ≤ at → lexemes file at ≡ []
lexemes_end file at h = let none : drop at file ≡ [] = grind (arith, common_steps) in ap (lexemes_from 0 at) none ∙ lexemes_none at

-- ---- an entry, seen from a lexeme in it

pub record Entering (file : Octets) (start at : ℕ) (tokens : List Piece) (brackets : List ℕ) : Type 0 where
  pub within : at ≤ length file
  pub so_far : tokens ++ tokens_in brackets (lexemes file at) ≡ tokens_at file start
  pub fault : fault_in brackets (lexemes file at) ≡ fault_at file start
  pub end : end_in brackets (lexemes file at) ≡ end_in [] (lexemes file start)

-- the next lexeme
ends_here : (file : Octets) (at : ℕ) (brackets : List ℕ) → at < length file → ends_entry (lexeme_at (drop at file)) brackets ≡ true
    → (tokens_in brackets (lexemes file at) ≡ []) × (fault_in brackets (lexemes file at) ≡ None) × (end_in brackets (lexemes file at) ≡ BeforeLine (at + 1))
ends_here file at brackets h ends = rw (lexemes_more file at h, ends) (refl, refl, refl)

goes_on : (file : Octets) (at : ℕ) (brackets : List ℕ) → at < length file → ends_entry (lexeme_at (drop at file)) brackets ≡ false
    → (tokens_in brackets (lexemes file at)
    ≡ lexeme_tokens at (lexeme_at (drop at file)) (drop at file)
    ++ tokens_in (open_after at (lexeme_at (drop at file)) brackets) (lexemes file (at + lexeme_len (lexeme_at (drop at file)))))
    × (fault_in brackets (lexemes file at)
    ≡ or_else (lexeme_fault at (lexeme_at (drop at file)) brackets) (fault_in (open_after at (lexeme_at (drop at file)) brackets) (lexemes file
    (at + lexeme_len (lexeme_at (drop at file))))))
    × (end_in brackets (lexemes file at)
    ≡ end_in (open_after at (lexeme_at (drop at file)) brackets) (lexemes file (at + lexeme_len (lexeme_at (drop at file)))))
goes_on file at brackets h ends = rw (lexemes_more file at h, ends) (refl, refl, refl)

pub entering_more : (file : Octets) (start at : ℕ) (tokens : List Piece) (brackets : List ℕ) → Entering file start at tokens brackets → at < length file
    → ends_entry (lexeme_at (drop at file)) brackets ≡ false → lexeme_fault at (lexeme_at (drop at file)) brackets ≡ None
    → Entering file start (at + lexeme_len (lexeme_at (drop at file))) (tokens
    ++ lexeme_tokens at (lexeme_at (drop at file)) (drop at file)) (open_after at (lexeme_at (drop at file)) brackets)
entering_more file start at tokens brackets e h ends fine =
    let on = goes_on file at brackets h ends in
    let x = lexeme_at (drop at file) in
    let rest = lexemes file (at + lexeme_len x) in
    record {
      within = omega (arith, (lexeme_here file at h).high);
      so_far = append_assoc tokens (lexeme_tokens at x (drop at file)) (tokens_in (open_after at x brackets) rest) ∙ ap (λ ts. tokens ++ ts) (sym on.0)
          ∙ e.so_far;
      fault = ap (λ f. or_else f (fault_in (open_after at x brackets) rest)) (sym fine) ∙ sym on.1 ∙ e.fault;
      end = sym on.2 ∙ e.end;
    }

pub entering_line : (file : Octets) (start at : ℕ) (tokens : List Piece) (brackets : List ℕ) → Entering file start at tokens brackets → at < length file
    → ends_entry (lexeme_at (drop at file)) brackets ≡ true → IsReading file start (Entry (at + 1)) tokens
entering_line file start at tokens brackets e h ends =
    let here = ends_here file at brackets h ends in
    let none : fault_at file start ≡ None = sym e.fault ∙ here.1 in (
      none,
      sym (append-nil tokens) ∙ ap (λ ts. tokens ++ ts) (sym here.0) ∙ e.so_far,
      ap (resume file (fault_at file start)) (sym here.2 ∙ e.end),
    )

pub entering_fault : (file : Octets) (start at : ℕ) (tokens : List Piece) (brackets : List ℕ) (fault : SyntaxFault) (next : ℕ) (after : List Piece)
    → Entering file start at tokens brackets → at < length file
    → ends_entry (lexeme_at (drop at file)) brackets ≡ false → lexeme_fault at (lexeme_at (drop at file)) brackets ≡ Some fault
    → next ≡ resume file (Some fault) (end_in brackets (lexemes file at)) → IsReading file start (Faulty fault next) after
entering_fault file start at tokens brackets fault next after e h ends bad is =
    let on = goes_on file at brackets h ends in
    let x = lexeme_at (drop at file) in
    let some : fault_at file start ≡ Some fault =
    sym e.fault ∙ on.1 ∙ ap (λ f. or_else f (fault_in (open_after at x brackets) (lexemes file (at + lexeme_len x)))) bad in
    (some, is ∙ ap (resume file (Some fault)) e.end ∙ ap (λ f. resume file f (end_in [] (lexemes file start))) (sym some))

pub entering_end : (file : Octets) (start at : ℕ) (tokens : List Piece) (brackets : List ℕ) (reading : Reading)
    → Entering file start at tokens brackets → length file ≤ at → IsFileEnd file brackets reading → IsReading file start reading tokens
entering_end file start at tokens brackets (Entry next) e h is =
    let none = lexemes_end file at h in
    let fault : fault_at file start ≡ None = sym e.fault ∙ ap (fault_in brackets) none ∙ is.0 in (
      fault,
      sym (append-nil tokens) ∙ ap (λ xs. tokens ++ tokens_in brackets xs) (sym none) ∙ e.so_far,
      is.1 ∙ ap (resume file None) (ap (end_in brackets) (sym none) ∙ e.end) ∙ ap (λ f. resume file f (end_in [] (lexemes file start))) (sym fault),
    )
entering_end file start at tokens brackets (Faulty fault next) e h is =
    let none = lexemes_end file at h in
    let some : fault_at file start ≡ unclosed_bracket brackets = sym e.fault ∙ ap (fault_in brackets) none in (
      some ∙ is.0,
      is.1 ∙ ap (resume file (unclosed_bracket brackets)) (ap (end_in brackets) (sym none) ∙ e.end)
          ∙ ap (λ f. resume file f (end_in [] (lexemes file start))) (sym some),
    )

-- ---- the rest of an entry with a fault

pub skipping_more : (file : Octets) (at : ℕ) (brackets : List ℕ) → at < length file → ends_entry (lexeme_at (drop at file)) brackets ≡ false
    → end_in brackets (lexemes file at) ≡ end_in (open_after at (lexeme_at (drop at file)) brackets) (lexemes file (at + lexeme_len (lexeme_at (drop at file))))
skipping_more file at brackets h ends = (goes_on file at brackets h ends).2

pub skipping_line : (file : Octets) (at : ℕ) (brackets : List ℕ) → at < length file → ends_entry (lexeme_at (drop at file)) brackets ≡ true
    → end_in brackets (lexemes file at) ≡ BeforeLine (at + 1)
skipping_line file at brackets h ends = (ends_here file at brackets h ends).2

pub skipping_end : (file : Octets) (at : ℕ) (brackets : List ℕ) → length file ≤ at → end_in brackets (lexemes file at) ≡ EndOfFile brackets
skipping_end file at brackets h = ap (end_in brackets) (lexemes_end file at h)

-- ---- the same of a lexeme that was read from the part of the file from its place on

pub read_here : (file : Octets) (at : ℕ) (x : Lexeme) → x ≡ lexeme_at (take (length file - at) (drop at file)) → x ≡ lexeme_at (drop at file)
read_here file at x is = is ∙ ap lexeme_at (rest_is file at)

ends_at : (file : Octets) (at : ℕ) (brackets : List ℕ) (x : Lexeme) (b : Bool) → x ≡ lexeme_at (take (length file - at) (drop at file))
    → b ≡ ends_entry x brackets → ends_entry (lexeme_at (drop at file)) brackets ≡ b
ends_at file at brackets x b is ends = ap (λ y. ends_entry y brackets) (sym (read_here file at x is)) ∙ sym ends

-- the end of an entry, seen from a lexeme in it
pub record Skipping (file : Octets) (at : ℕ) (brackets : List ℕ) (whole : EntryEnd) : Type 0 where
  pub within : at ≤ length file
  pub end : end_in brackets (lexemes file at) ≡ whole

pub skip_line : (file : Octets) (at : ℕ) (brackets : List ℕ) (whole : EntryEnd) (x : Lexeme) → Skipping file at brackets whole → at < length file
    → x ≡ lexeme_at (take (length file - at) (drop at file)) → true ≡ ends_entry x brackets → BeforeLine (at + 1) ≡ whole
skip_line file at brackets whole x s h is ends = sym (skipping_line file at brackets h (ends_at file at brackets x true is ends)) ∙ s.end

pub skip_more : (file : Octets) (at : ℕ) (brackets after : List ℕ) (whole : EntryEnd) (x : Lexeme) (len : ℕ) → Skipping file at brackets whole
    → at < length file
    → x ≡ lexeme_at (take (length file - at) (drop at file)) → false ≡ ends_entry x brackets → after ≡ open_after at x brackets → len ≡ lexeme_len x
    → Skipping file (at + len) after whole
skip_more file at brackets after whole x len s h is ends next len_is =
    let here = read_here file at x is in
    let more = skipping_more file at brackets h (ends_at file at brackets x false is ends) in
    let within : at + lexeme_len (lexeme_at (drop at file)) ≤ length file = omega (arith, (lexeme_here file at h).high) in
    rw (len_is, next, here) (record { within = within; end = sym more ∙ s.end })

pub skip_end : (file : Octets) (at : ℕ) (brackets : List ℕ) (whole : EntryEnd) → Skipping file at brackets whole → length file ≤ at → EndOfFile brackets ≡ whole
skip_end file at brackets whole s h = sym (skipping_end file at brackets h) ∙ s.end

pub enter_line : (file : Octets) (start at : ℕ) (tokens : List Piece) (brackets : List ℕ) (x : Lexeme) → Entering file start at tokens brackets
    → at < length file
    → x ≡ lexeme_at (take (length file - at) (drop at file)) → true ≡ ends_entry x brackets → IsReading file start (Entry (at + 1)) tokens
enter_line file start at tokens brackets x e h is ends = entering_line file start at tokens brackets e h (ends_at file at brackets x true is ends)

pub enter_fault : (file : Octets) (start at : ℕ) (tokens : List Piece) (brackets : List ℕ) (x : Lexeme) (fault : SyntaxFault) (next : ℕ) (after : List Piece)
    → Entering file start at tokens brackets → at < length file → x ≡ lexeme_at (take (length file - at) (drop at file)) → false ≡ ends_entry x brackets
    → Some fault ≡ lexeme_fault at x brackets → next ≡ resume file (Some fault) (end_in brackets (lexemes file at))
    → IsReading file start (Faulty fault next) after
enter_fault file start at tokens brackets x fault next after e h is ends bad next_is =
    entering_fault file start at tokens brackets fault next after e h (ends_at file at brackets x false is ends)
    (ap (λ y. lexeme_fault at y brackets) (sym (read_here file at x is)) ∙ sym bad) next_is

pub enter_more : (file : Octets) (start at : ℕ) (tokens more : List Piece) (brackets after : List ℕ) (x : Lexeme) (len : ℕ)
    → Entering file start at tokens brackets → at < length file → x ≡ lexeme_at (take (length file - at) (drop at file)) → false ≡ ends_entry x brackets
    → None ≡ lexeme_fault at x brackets → more ≡ tokens ++ lexeme_tokens at x (take (length file - at) (drop at file)) → after ≡ open_after at x brackets
    → len ≡ lexeme_len x
    → Entering file start (at + len) more after
enter_more file start at tokens more brackets after x len e h is ends fine more_is next len_is =
    let here = read_here file at x is in
    let on = entering_more file start at tokens brackets e h (ends_at file at brackets x false is ends) (ap (λ y. lexeme_fault at y brackets)
    (sym here) ∙ sym fine) in
    rw (len_is, next, more_is, rest_is, here) on

pub resume_some : (file : Octets) (fault : SyntaxFault) (brackets : List ℕ) (bracket : ℕ) (whole : EntryEnd) (last next : ℕ) → EndOfFile brackets ≡ whole
    → Some bracket ≡ innermost brackets → last ≡ max fault.at bracket → next ≡ line_after file last → next ≡ resume file (Some fault) whole
resume_some file fault [] bracket whole last next end some last_is is = cc
resume_some file fault (b ∷ brackets) bracket whole last next end some last_is is =
    let same : bracket ≡ b = cc in
    is ∙ ap (line_after file) (last_is ∙ ap (max fault.at) same) ∙ ap (resume file (Some fault)) end

pub resume_none : (file : Octets) (fault : SyntaxFault) (brackets : List ℕ) (whole : EntryEnd) → EndOfFile brackets ≡ whole
    → None ≡ innermost brackets → length file ≡ resume file (Some fault) whole
resume_none file fault [] whole end none = ap (resume file (Some fault)) end
resume_none file fault (b ∷ brackets) whole end none = cc

-- ---- reading goes on

-- each lexeme is between two places
abbrev AreBetween : ℕ → ℕ → List Placed → Type 0
AreBetween start stop [] = Unit {0}
AreBetween start stop (x ∷ xs) = (start ≤ x.at) × (x.at < stop) × AreBetween start stop xs

-- each place is not before the start
abbrev AreFrom : ℕ → List ℕ → Type 0
AreFrom start [] = Unit {0}
AreFrom start (n ∷ ns) = (start ≤ n) × AreFrom start ns

abbrev IsPast : ℕ → ℕ → EntryEnd → Type 0
IsPast start stop (BeforeLine next) = (start < next) × (next ≤ stop)
IsPast start stop (EndOfFile brackets) = AreFrom start brackets

abbrev IsFaultFrom : ℕ → Option SyntaxFault → Type 0
IsFaultFrom start None = Unit {0}
IsFaultFrom start (Some fault) = start ≤ fault.at

lexemes_between : (skip at : ℕ) (text : Octets) (start : ℕ) → start ≤ at → AreBetween start (at + length text) (lexemes_from skip at text)
unfolding lexemes_from
lexemes_between skip at [] start h = tt
lexemes_between zero at (c ∷ text) start h = (
  h,
  omega arith,
  subst (λ n. AreBetween start n (lexemes_from (lexeme_len (lexeme_at (c ∷ text)) - 1) (at + 1) text)) (omega arith)
      (lexemes_between (lexeme_len (lexeme_at (c ∷ text)) - 1) (at + 1) text start (omega arith)),
)
lexemes_between (suc skip) at (c ∷ text) start h =
    subst (λ n. AreBetween start n (lexemes_from skip (at + 1) text)) (omega arith) (lexemes_between skip (at + 1) text start (omega arith))

brackets_from : (start at : ℕ) (x : Lexeme) (brackets : List ℕ) → start ≤ at → AreFrom start brackets → AreFrom start (open_after at x brackets)
brackets_from start at (Gap len) brackets h from = from
brackets_from start at LineEnd brackets h from = from
brackets_from start at Open brackets h from = (h, from)
brackets_from start at Close [] h from = tt
brackets_from start at Close (b ∷ brackets) h from = from.1
brackets_from start at (Word len) brackets h from = from
brackets_from start at (Quoted len) brackets h from = from
brackets_from start at (Bad len error place) brackets h from = from

past_either : (start stop : ℕ) (b : Bool) (x y : EntryEnd) → IsPast start stop x → IsPast start stop y → IsPast start stop (if b then x else y)
past_either start stop true x y p q = p
past_either start stop false x y p q = q

end_past : (start stop : ℕ) (brackets : List ℕ) (xs : List Placed) → AreBetween start stop xs → AreFrom start brackets → IsPast start stop (end_in brackets xs)
end_past start stop brackets [] between from = from
end_past start stop brackets (x ∷ xs) between from =
    past_either start stop (ends_entry x.lexeme brackets) (BeforeLine (x.at + 1)) (end_in (open_after x.at x.lexeme brackets) xs)
    (omega (arith, between.0), omega (arith, between.1))
    (end_past start stop (open_after x.at x.lexeme brackets) xs between.2 (brackets_from start x.at x.lexeme brackets between.0 from))

fault_either : (start : ℕ) (b : Bool) (x y : Option SyntaxFault) → IsFaultFrom start x → IsFaultFrom start y → IsFaultFrom start (if b then x else y)
fault_either start true x y p q = p
fault_either start false x y p q = q

fault_or : (start : ℕ) (x y : Option SyntaxFault) → IsFaultFrom start x → IsFaultFrom start y → IsFaultFrom start (or_else x y)
fault_or start None y p q = q
fault_or start (Some fault) y p q = p

fault_from : (start at : ℕ) (x : Lexeme) (brackets : List ℕ) → start ≤ at → IsFaultFrom start (lexeme_fault at x brackets)
fault_from start at (Gap len) brackets h = tt
fault_from start at LineEnd brackets h = tt
fault_from start at Open brackets h = tt
fault_from start at Close [] h = h
fault_from start at Close (b ∷ brackets) h = tt
fault_from start at (Word len) brackets h = tt
fault_from start at (Quoted len) brackets h = tt
fault_from start at (Bad len error place) brackets h = omega arith

unclosed_from : (start : ℕ) (brackets : List ℕ) → AreFrom start brackets → IsFaultFrom start (unclosed_bracket brackets)
unclosed_from start [] from = tt
unclosed_from start (b ∷ brackets) from = from.0

fault_past : (start stop : ℕ) (brackets : List ℕ) (xs : List Placed) → AreBetween start stop xs → AreFrom start brackets
    → IsFaultFrom start (fault_in brackets xs)
fault_past start stop brackets [] between from = unclosed_from start brackets from
fault_past start stop brackets (x ∷ xs) between from =
    fault_either start (ends_entry x.lexeme brackets) None _ tt
    (fault_or start (lexeme_fault x.at x.lexeme brackets) _ (fault_from start x.at x.lexeme brackets between.0)
    (fault_past start stop (open_after x.at x.lexeme brackets) xs between.2 (brackets_from start x.at x.lexeme brackets between.0 from)))

line_past : (file : Octets) (start at : ℕ) → start < length file → start ≤ at → (start < line_after file at) × (line_after file at ≤ length file)
line_past file start at h from = (omega arith, omega arith)

resume_past : (file : Octets) (start : ℕ) (fault : Option SyntaxFault) (end : EntryEnd) → start < length file → IsFaultFrom start fault
    → IsPast start (length file) end
    → (start < resume file fault end) × (resume file fault end ≤ length file)
resume_past file start fault (BeforeLine next) h from past = past
resume_past file start fault (EndOfFile []) h from past = (h, omega arith)
resume_past file start None (EndOfFile (b ∷ brackets)) h from past = line_past file start b h past.0
resume_past file start (Some fault) (EndOfFile (b ∷ brackets)) h from past = line_past file start (max fault.at b) h (omega (arith, past.0))

pub next_past : (file : Octets) (start : ℕ) → start < length file → (start < next_at file start) × (next_at file start ≤ length file)
next_past file start h =
    let between : AreBetween start (length file) (lexemes file start) =
    subst (λ n. AreBetween start n (lexemes file start)) (omega (arith, length-drop start file)) (lexemes_between 0 start (drop start file) start
    (omega arith)) in
    resume_past file start (fault_at file start) (end_in [] (lexemes file start)) h (fault_past start (length file) [] (lexemes file start) between tt)
    (end_past start (length file) [] (lexemes file start) between tt)

-- ---- the entries and faults of a file

test_is : (n at : ℕ) → at < n → nat_le n at ≡ false
test_is n at h = grind (arith, common_steps)

test_over : (n at : ℕ) → n ≤ at → nat_le n at ≡ true
test_over n at h = grind (arith, common_steps)

items_step : (lines at : ℕ) (file : Octets) → at < length file
    → items_in (suc lines) file at ≡ item_of file at (fault_at file at) ++ items_in lines file (next_at file at)
unfolding items_in
items_step lines at file h = rw (test_is (length file) at h) refl

items_over : (lines at : ℕ) (file : Octets) → length file ≤ at → items_in lines file at ≡ []
unfolding items_in
items_over zero at file h = refl
items_over (suc lines) at file h = rw (test_over (length file) at h) refl

-- any number of lines that is enough gives all
items_enough : (m n at : ℕ) (file : Octets) → length file ≤ at + m → length file ≤ at + n → items_in m file at ≡ items_in n file at
items_enough zero n at file hm hn = items_over zero at file (omega arith) ∙ sym (items_over n at file (omega arith))
items_enough (suc m) zero at file hm hn = items_over (suc m) at file (omega arith) ∙ sym (items_over zero at file (omega arith))
items_enough (suc m) (suc n) at file hm hn = elim (cases_lt at (length file)) [
  | inr over ↦ items_over (suc m) at file over ∙ sym (items_over (suc n) at file over)
  | inl below ↦
      let past = next_past file at below in
      items_step m at file below ∙ ap (λ is. item_of file at (fault_at file at)
      ++ is) (items_enough m n (next_at file at) file (omega (arith, past.0)) (omega (arith, past.0)))
      ∙ sym (items_step n at file below)
]

pub items_next : (file : Octets) (at : ℕ) → at < length file → items_from file at ≡ item_of file at (fault_at file at) ++ items_from file (next_at file at)
items_next file at h =
    let past = next_past file at h in
    items_enough (length file) (suc (length file)) at file (omega arith) (omega arith) ∙ items_step (length file) at file h

pub items_none : (file : Octets) (at : ℕ) → length file ≤ at → items_from file at ≡ []
items_none file at h = items_over (length file) at file h

-- ---- what is read at a line is the next item

pub found_fault : (file : Octets) (start : ℕ) (fault : SyntaxFault) (next : ℕ) (tokens : List Piece) → start < length file
    → IsReading file start (Faulty fault next) tokens
    → items_from file start ≡ FaultyItem fault ∷ items_from file next
found_fault file start fault next tokens h is =
    items_next file start h ∙ ap (λ f. item_of file start f ++ items_from file (next_at file start)) is.0
    ∙ ap (λ n. FaultyItem fault ∷ items_from file n) (sym is.1)

found : (file : Octets) (start next : ℕ) (tokens : List Piece) → start < length file → IsReading file start (Entry next) tokens
    → items_from file start ≡ entry_of (begins_blank (drop start file)) tokens ++ items_from file next
found file start next tokens h is =
    items_next file start h ∙ ap (λ f. item_of file start f ++ items_from file (next_at file start)) is.0
    ∙ ap (λ ts. entry_of (begins_blank (drop start file)) ts ++ items_from file (next_at file start)) (sym is.1)
    ∙ ap (λ n. entry_of (begins_blank (drop start file)) tokens ++ items_from file n) (sym is.2)

pub found_blank : (file : Octets) (start next : ℕ) (tokens : List Piece) → start < length file → IsReading file start (Entry next) tokens
    → true ≡ has_no_token tokens
    → items_from file start ≡ items_from file next
found_blank file start next [] h is empty = found file start next [] h is
found_blank file start next (t ∷ tokens) h is empty = cc

pub found_entry : (file : Octets) (start next : ℕ) (tokens : List Piece) (indented : Bool) → start < length file → IsReading file start (Entry next) tokens
    → false ≡ has_no_token tokens → indented ≡ begins_blank (take (length file - start) (drop start file))
    → items_from file start ≡ EntryItem indented tokens ∷ items_from file next
found_entry file start next [] indented h is empty blank = cc
found_entry file start next (t ∷ tokens) indented h is empty blank =
    found file start next (t ∷ tokens) h is ∙ ap (λ b. EntryItem b (t ∷ tokens) ∷ items_from file next) (ap begins_blank (sym (rest_is file start)) ∙ sym blank)

pub next_entry_past : (file : Octets) (start next : ℕ) (tokens : List Piece) → start < length file → IsReading file start (Entry next) tokens
    → (start < next) × (next ≤ length file)
next_entry_past file start next tokens h is = let past = next_past file start h in (omega (arith, past.0, is.2), omega (arith, past.1, is.2))

pub next_fault_past : (file : Octets) (start : ℕ) (fault : SyntaxFault) (next : ℕ) (tokens : List Piece) → start < length file
    → IsReading file start (Faulty fault next) tokens → next ≤ length file
next_fault_past file start fault next tokens h is = let past = next_past file start h in omega (arith, past.1, is.1)
