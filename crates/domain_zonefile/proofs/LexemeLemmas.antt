-- Lexemes: how runs, tokens and quoted tokens go on, and how long lexemes are.
use Rattle.std.proofs.Common.{arith, ℕ, zero, suc, ◌+◌, ◌-◌, ◌<◌, ◌≤◌, ◌≡◌, ◌≢◌, ◌∷◌, [], refl, ap, ◌∙◌, sym, length, take, drop, get_or, add-one, Bool}
use Rattle.std.proofs.Common.{true, false, Option, Some, None}
use Rattle.std.proofs.{Math.Seq.drop-cons, lemmas.Grind.common_steps, lemmas.List.drop-drop}
use Rattle.std.proofs.lemmas.List.Sums.{prefix_len-drop_yes, prefix_len-drop_no, prefix_len-drop_all, prefix_len-le-length}
use Rattle.std.specs.{List.prefix_len, Prelude.{◌&&◌, ◌==◌, if◌then◌else◌, slice_index}}
use Rattle.domain_octets.specs.Octets.{Octets}
use Rattle.domain_octets.specs.Text.{is_blank}
use Rattle.domain_zonefile.specs.Lexemes.{is_comment, is_return, is_separator, is_escape, IsOrdinary, quoted_from, word_from, valued, quoted_fault}
use Rattle.domain_zonefile.specs.Lexemes.{quoted_step, first_fault, with_fault}
use Rattle.domain_zonefile.specs.Lexemes.{equals_after, is_after, lexeme_at, lexeme_len, HasBounds, inner_len, begins_apart, begins_at_line_end, returns_at}
use Rattle.domain_zonefile.specs.declared.lexeme.Lexeme.{Lexeme, TheVariants.{Gap, LineEnd, Open, Close, Word, Quoted, Bad}}
use Rattle.domain_zonefile.specs.declared.error.SyntaxError.{SyntaxError, TheVariants.{BadEscape, UnclosedQuote, MisplacedQuote, NoSeparator, StrayReturn, Nul}}

-- ---- runs of octets

pub ruleset run_steps = (common_steps, prefix_len-drop_yes, prefix_len-drop_no, prefix_len-drop_all)

-- ---- texts from a place on

-- the octet at a place, and the rest
pub split_at : (text : Octets) (n : ℕ) → n < length text → drop n text ≡ get_or text n 0 ∷ drop (n + 1) text
split_at text n h = drop-cons text n 0 h ∙ ap (λ k. get_or text n 0 ∷ drop k text) (sym (add-one n))

escape_first : (text : Octets) → is_escape text ≡ true → (0 < length text) × (get_or text 0 0 ≢ 10)
unfolding is_escape
escape_first [] h = cc
escape_first (c ∷ text) h = grind (arith, common_steps)

-- what is escaped is there, and is no line feed
pub escape_here : (text : Octets) (n : ℕ) → is_escape (drop n text) ≡ true → (n < length text) × (get_or text n 0 ≢ 10)
escape_here text n h = let first = escape_first (drop n text) h in grind (arith, common_steps)

-- the part of a text from a place on
pub rest_is : (text : Octets) (n : ℕ) → take (length text - n) (drop n text) ≡ drop n text
rest_is text n = grind (arith, common_steps)

-- ---- unquoted tokens

-- the token, seen from a place in it
pub record Wording (text : Octets) (n : ℕ) (equals : Option ℕ) : Type 0 where
  pub within : n ≤ length text
  pub same : word_from n false equals (drop n text) ≡ word_from 0 false None text

pub word_more : (text : Octets) (n : ℕ) (equals : Option ℕ) → n < length text → is_separator (get_or text n 0) ≡ false
    → get_or text n 0 ≢ 34 → get_or text n 0 ≢ 92
    → word_from n false equals (drop n text) ≡ word_from (n + 1) false (equals_after n (get_or text n 0) equals) (drop (n + 1) text)
unfolding word_from
word_more text n equals h apart quote slash = rw (split_at text n h) (grind (arith, common_steps))

-- ordinary octets continue the token
pub word_run : (text : Octets) (n : ℕ) → n ≤ length text → ((k : ℕ) → k < n → IsOrdinary (slice_index text k)) → Wording text n None
word_run text zero within all = record { within = within; same = refl }
word_run text (suc n) within all =
    let before = word_run text n (omega (arith, within)) (λ k h. all k (omega (arith, h))) in
    let here = all n (omega arith) in
    let step = word_more text n None (omega (arith, within)) here.apart here.quote_not here.backslash_not in
    let none : equals_after n (get_or text n 0) None ≡ None = grind (arith, here.equals_not) in
    record { within = within; same = grind (arith, step, none, before.same) }

pub word_ends : (text : Octets) (n : ℕ) (equals : Option ℕ) → n < length text → is_separator (get_or text n 0) ≡ true
    → word_from n false equals (drop n text) ≡ Word n
unfolding word_from
word_ends text n equals h apart = rw (split_at text n h) (grind (arith, common_steps))

pub word_all : (text : Octets) (n : ℕ) (equals : Option ℕ) → length text ≤ n → word_from n false equals (drop n text) ≡ Word n
unfolding word_from
word_all text n equals h = grind (arith, common_steps)

pub word_value : (text : Octets) (n : ℕ) (equals : Option ℕ) → n < length text → get_or text n 0 ≡ 34 → is_after n equals ≡ true
    → word_from n false equals (drop n text) ≡ valued n (drop n text) (quoted_from 1 false (drop (n + 1) text))
unfolding word_from
word_value text n equals h quote after = rw (split_at text n h) (grind (arith, common_steps))

pub word_quote : (text : Octets) (n : ℕ) (equals : Option ℕ) → n < length text → get_or text n 0 ≡ 34 → is_after n equals ≡ false
    → word_from n false equals (drop n text) ≡ Bad n MisplacedQuote n
unfolding word_from
word_quote text n equals h quote after = rw (split_at text n h) (grind (arith, common_steps))

pub word_bad : (text : Octets) (n : ℕ) (equals : Option ℕ) → n < length text → get_or text n 0 ≡ 92 → is_escape (drop (n + 1) text) ≡ false
    → word_from n false equals (drop n text) ≡ Bad (n + 1) BadEscape n
unfolding word_from
word_bad text n equals h slash other = rw (split_at text n h) (grind (arith, common_steps))

pub word_escape : (text : Octets) (n : ℕ) (equals : Option ℕ) → n < length text → get_or text n 0 ≡ 92 → is_escape (drop (n + 1) text) ≡ true
    → word_from n false equals (drop n text) ≡ word_from (n + 2) false equals (drop (n + 2) text)
unfolding word_from
word_escape text n equals h slash good =
    let here : word_from n false equals (drop n text) ≡ word_from (n + 1) true equals (drop (n + 1) text) = rw (split_at text n h) (grind
    (arith, common_steps)) in
    let next : word_from (n + 1) true equals (drop (n + 1) text) ≡ word_from (n + 1 + 1) false equals (drop (n + 1 + 1) text) =
    rw (split_at text (n + 1) (escape_here text (n + 1) good).0) refl in
    here ∙ next ∙ ap (λ k. word_from k false equals (drop k text)) (omega arith)

pub ruleset word_steps = (common_steps, word_more, word_ends, word_all, word_value, word_quote, word_bad, word_escape, escape_here)

-- ---- quoted tokens

-- the token, seen from a place in it
pub record Quoting (text : Octets) (n : ℕ) (fault : Option (SyntaxError × ℕ)) : Type 0 where
  pub within : n ≤ length text
  pub begun : 1 ≤ n
  pub same : with_fault fault (quoted_from n false (drop n text)) ≡ quoted_from 1 false (drop 1 text)

-- the first of two faults comes first
pub first_of_two : (fault : Option (SyntaxError × ℕ)) (here : Option SyntaxError) (n : ℕ) (lexeme : Lexeme)
    → with_fault fault (with_fault (first_fault None here n) lexeme) ≡ with_fault (first_fault fault here n) lexeme
first_of_two None None n lexeme = refl
first_of_two None (Some error) n lexeme = refl
first_of_two (Some fault) None n lexeme = refl
first_of_two (Some fault) (Some error) n lexeme = refl

quoted_here : (text : Octets) (n : ℕ) → n < length text → get_or text n 0 ≢ 10 → get_or text n 0 ≢ 34
    → quoted_from n false (drop n text) ≡ with_fault (first_fault None (quoted_fault (get_or text n 0) (drop (n + 1) text)) n)
    (quoted_from (n + 1) (get_or text n 0 == 92 && is_escape (drop (n + 1) text)) (drop (n + 1) text))
unfolding quoted_from
quoted_here text n h line quote = rw (split_at text n h) (grind (arith, common_steps))

quoted_taken : (text : Octets) (n : ℕ) → is_escape (drop n text) ≡ true → quoted_from n true (drop n text) ≡ quoted_from (n + 1) false (drop (n + 1) text)
unfolding quoted_from
quoted_taken text n good = let here = escape_here text n good in rw (split_at text n here.0) (grind (arith, common_steps))

pub quoted_ends : (text : Octets) (n : ℕ) → n < length text → get_or text n 0 ≡ 34 → quoted_from n false (drop n text) ≡ Quoted (n + 1)
unfolding quoted_from
quoted_ends text n h quote = rw (split_at text n h) (grind (arith, common_steps))

pub quoted_line : (text : Octets) (n : ℕ) → n < length text → get_or text n 0 ≡ 10 → quoted_from n false (drop n text) ≡ Bad n UnclosedQuote 0
unfolding quoted_from
quoted_line text n h line = rw (split_at text n h) (grind (arith, common_steps))

pub quoted_all : (text : Octets) (n : ℕ) → length text ≤ n → quoted_from n false (drop n text) ≡ Bad n UnclosedQuote 0
unfolding quoted_from
quoted_all text n h = grind (arith, common_steps)

quoting_by : (text : Octets) (n : ℕ) (fault : Option (SyntaxError × ℕ)) (taken : Bool) → Quoting text n fault → n < length text
    → (get_or text n 0 == 92 && is_escape (drop (n + 1) text)) ≡ taken
    → with_fault fault (quoted_from n false (drop n text))
    ≡ with_fault (first_fault fault (quoted_fault (get_or text n 0) (drop (n + 1) text)) n) (quoted_from (n + 1) taken (drop (n + 1) text))
    → Quoting text (n + (if taken then 2 else 1)) (first_fault fault (quoted_fault (get_or text n 0) (drop (n + 1) text)) n)
quoting_by text n fault true so_far h is step =
    let good : is_escape (drop (n + 1) text) ≡ true = grind (arith, common_steps) in
    let here = escape_here text (n + 1) good in
    let past : quoted_from (n + 1) true (drop (n + 1) text) ≡ quoted_from (n + 2) false (drop (n + 2) text) =
    quoted_taken text (n + 1) good ∙ ap (λ k. quoted_from k false (drop k text)) (omega arith) in
    record {
      within = omega (arith, here.0);
      begun = omega arith;
      same = sym (ap (with_fault (first_fault fault (quoted_fault (get_or text n 0) (drop (n + 1) text)) n)) past) ∙ sym step ∙ so_far.same;
    }
quoting_by text n fault false so_far h is step =
    record { within = omega arith; begun = omega arith; same = sym step ∙ so_far.same }

-- a step over one octet, or over an escape's first two
pub quoting_more : (text : Octets) (n : ℕ) (fault : Option (SyntaxError × ℕ)) → Quoting text n fault → n < length text → get_or text n 0 ≢ 10
    → get_or text n 0 ≢ 34
    → Quoting text (n + quoted_step (get_or text n 0) (drop (n + 1) text)) (first_fault fault (quoted_fault (get_or text n 0) (drop (n + 1) text)) n)
quoting_more text n fault so_far h line quote =
    quoting_by text n fault (get_or text n 0 == 92 && is_escape (drop (n + 1) text)) so_far h refl
    (ap (with_fault fault) (quoted_here text n h line quote) ∙ first_of_two fault (quoted_fault (get_or text n 0) (drop (n + 1) text)) n _)

pub ruleset quoted_steps = (common_steps, quoted_ends, quoted_line, quoted_all, quoting_more)

-- ---- quoted values

-- a quoted token, read from the part of a text that it begins
pub value_at : (text : Octets) (n : ℕ) (x : Lexeme) → x ≡ quoted_from 1 false (drop 1 (take (length text - n) (drop n text)))
    → x ≡ quoted_from 1 false (drop (n + 1) text)
value_at text n x is = is ∙ ap (λ (xs : Octets). quoted_from 1 false (drop 1 xs)) (rest_is text n) ∙ ap (quoted_from 1 false) (drop-drop 1 n text)

valued_other : (n : ℕ) (text : Octets) (x : Lexeme) → ((len : ℕ) (error : SyntaxError) (at : ℕ) → x ≡ Bad len error at → ⊥)
    → valued n text x ≡ (if begins_apart (drop (lexeme_len x) text) then Word (n + lexeme_len x) else Bad (n + lexeme_len x) NoSeparator (n + lexeme_len x))
valued_other n text (Bad len error at) fine = absurd (fine len error at refl)
valued_other n text (Gap len) fine = refl
valued_other n text LineEnd fine = refl
valued_other n text Open fine = refl
valued_other n text Close fine = refl
valued_other n text (Word len) fine = refl
valued_other n text (Quoted len) fine = refl

-- the token with its value, if a separator follows it or not
pub valued_at : (text : Octets) (n : ℕ) (x : Lexeme) (apart : Bool) → x ≡ quoted_from 1 false (drop 1 (take (length text - n) (drop n text)))
    → ((len : ℕ) (error : SyntaxError) (at : ℕ) → x ≡ Bad len error at → ⊥)
    → apart ≡ begins_apart (take (length text - (n + lexeme_len x)) (drop (n + lexeme_len x) text))
    → (if apart then Word (n + lexeme_len x) else Bad (n + lexeme_len x) NoSeparator (n + lexeme_len x)) ≡ valued n (drop n text)
    (quoted_from 1 false (drop (n + 1) text))
valued_at text n x apart is fine apart_is =
    let same : apart ≡ begins_apart (drop (lexeme_len x) (drop n text)) =
    apart_is ∙ ap begins_apart (rest_is text (n + lexeme_len x)) ∙ ap begins_apart (sym (drop-drop (lexeme_len x) n text)) in
    ap (λ b. if b then Word (n + lexeme_len x) else Bad (n + lexeme_len x) NoSeparator (n + lexeme_len x)) same
    ∙ sym (valued_other n (drop n text) x fine) ∙ ap (valued n (drop n text)) (value_at text n x is)

-- ---- how long lexemes are

chosen : {least most : ℕ} {x y : Lexeme} (b : Bool) → (b ≡ true → HasBounds least most x) → (b ≡ false → HasBounds least most y)
    → HasBounds least most (if b then x else y)
chosen true yes_case no_case = yes_case refl
chosen false yes_case no_case = no_case refl

fault_bounds : (here : Option SyntaxError) (n least most : ℕ) (x : Lexeme) → n ≤ least → HasBounds least most x
    → HasBounds least most (with_fault (first_fault None here n) x)
fault_bounds None n least most x h bounds = bounds
fault_bounds (Some error) n least most x h bounds = record { low = bounds.low; high = bounds.high; inner = omega (arith, bounds.low) }

bad_bounds : (least most len : ℕ) (error : SyntaxError) (at : ℕ) → least ≤ len → len ≤ most → at ≤ len → HasBounds least most (Bad len error at)
bad_bounds least most len error at low high place = record { low = low; high = high; inner = place }

word_is : (least most len : ℕ) → least ≤ len → len ≤ most → HasBounds least most (Word len)
word_is least most len low high = record { low = low; high = high; inner = omega arith }

quoted_is : (least most len : ℕ) → least ≤ len → len ≤ most → 2 ≤ len → HasBounds least most (Quoted len)
quoted_is least most len low high two = record { low = low; high = high; inner = two }

gap_is : (least most len : ℕ) → least ≤ len → len ≤ most → HasBounds least most (Gap len)
gap_is least most len low high = record { low = low; high = high; inner = omega arith }

-- one octet was read
read_one : (n len : ℕ) (x : Lexeme) → HasBounds (n + 1) (n + 1 + len) x → HasBounds n (n + suc len) x
read_one n len x bounds = record { low = omega (arith, bounds.low); high = omega (arith, bounds.high); inner = bounds.inner }

pub quoted_bounds : (text : Octets) (n : ℕ) (taken : Bool) → 1 ≤ n → HasBounds n (n + length text) (quoted_from n taken text)
unfolding quoted_from
quoted_bounds [] n taken h = bad_bounds n (n + 0) n UnclosedQuote 0 (omega arith) (omega arith) (omega arith)
quoted_bounds (c ∷ text) n taken h =
    let most = n + suc (length text) in
    let next : (more : Bool) → HasBounds n most (quoted_from (n + 1) more text) = λ more. read_one n (length text) _ (quoted_bounds text
    (n + 1) more (omega arith)) in
    chosen (c == 10) (λ _. bad_bounds n most n UnclosedQuote 0 (omega arith) (omega arith) (omega arith))
    (λ _. chosen taken (λ _. next false)
    (λ _. chosen (c == 34) (λ _. quoted_is n most (n + 1) (omega arith) (omega arith) (omega arith))
    (λ _. fault_bounds (quoted_fault c text) n n most (quoted_from (n + 1) (c == 92 && is_escape text) text) (omega arith) (next (c == 92 && is_escape text)))))

value_bounds : (n most : ℕ) (text : Octets) (len : ℕ) → len ≤ most
    → HasBounds n (n + most) (if begins_apart (drop len text) then Word (n + len) else Bad (n + len) NoSeparator (n + len))
value_bounds n most text len h = chosen (begins_apart (drop len text)) (λ _. word_is n (n + most) (n + len) (omega arith) (omega arith))
    (λ _. bad_bounds n (n + most) (n + len) NoSeparator (n + len) (omega arith) (omega arith) (omega arith))

valued_bounds : (n most : ℕ) (text : Octets) (x : Lexeme) → HasBounds 1 most x → HasBounds n (n + most) (valued n text x)
valued_bounds n most text (Bad len error at) bounds = record { low = omega arith; high = omega (arith, bounds.high); inner = omega (arith, bounds.inner) }
valued_bounds n most text (Gap len) bounds = value_bounds n most text len bounds.high
valued_bounds n most text LineEnd bounds = value_bounds n most text 1 bounds.high
valued_bounds n most text Open bounds = value_bounds n most text 1 bounds.high
valued_bounds n most text Close bounds = value_bounds n most text 1 bounds.high
valued_bounds n most text (Word len) bounds = value_bounds n most text len bounds.high
valued_bounds n most text (Quoted len) bounds = value_bounds n most text len bounds.high

pub word_bounds : (text : Octets) (n : ℕ) (taken : Bool) (equals : Option ℕ) → HasBounds n (n + length text) (word_from n taken equals text)
unfolding word_from
word_bounds [] n taken equals = word_is n (n + 0) n (omega arith) (omega arith)
word_bounds (c ∷ text) n taken equals =
    let most = n + suc (length text) in
    let next : (more : Bool) (e : Option ℕ) → HasBounds n most (word_from (n + 1) more e text) = λ more e. read_one n (length text) _
    (word_bounds text (n + 1) more e) in
    let quoted : HasBounds 1 (suc (length text)) (quoted_from 1 false text) =
    (let q = quoted_bounds text 1 false (omega arith) in record { low = q.low; high = omega (arith, q.high); inner = q.inner }) in
    chosen taken (λ _. next false equals)
    (λ _. chosen (is_separator c) (λ _. word_is n most n (omega arith) (omega arith))
    (λ _. chosen (c == 34) (λ _. chosen (is_after n equals) (λ _. valued_bounds n (suc (length text)) (c ∷ text) (quoted_from 1 false text) quoted)
    (λ _. bad_bounds n most n MisplacedQuote n (omega arith) (omega arith) (omega arith)))
    (λ _. chosen (c == 92) (λ _. chosen (is_escape text) (λ _. next true equals)
    (λ _. bad_bounds n most (n + 1) BadEscape n (omega arith) (omega arith) (omega arith)))
    (λ _. next false (equals_after n c equals)))))

-- a token that begins with no separator and no quote has an octet
word_first : (c : ℕ) (text : Octets) → is_separator c ≡ false → (c == 34) ≡ false → HasBounds 1 (suc (length text)) (word_from 0 false None (c ∷ text))
unfolding word_from
word_first c text apart quote =
    let next : (more : Bool) (e : Option ℕ) → HasBounds 1 (suc (length text)) (word_from 1 more e text) =
    λ more e. (let w = word_bounds text 1 more e in record { low = w.low; high = omega (arith, w.high); inner = w.inner }) in
    rw (apart, quote) (chosen (c == 92) (λ _. chosen (is_escape text) (λ _. next true None)
    (λ _. bad_bounds 1 (suc (length text)) 1 BadEscape 0 (omega arith) (omega arith) (omega arith)))
    (λ _. next false (equals_after 0 c None)))

run_bounds : (p : ℕ → Bool) (c : ℕ) (text : Octets) → p c ≡ true → (1 ≤ prefix_len p (c ∷ text)) × (prefix_len p (c ∷ text) ≤ suc (length text))
run_bounds p c text h = (rw h (omega arith), prefix_len-le-length p (c ∷ text))

returns_bounds : (c : ℕ) (text : Octets) → (c == 13) ≡ true → HasBounds 1 (suc (length text)) (returns_at (prefix_len is_return (c ∷ text)) (c ∷ text))
returns_bounds c text h =
    let most = suc (length text) in
    let len = prefix_len is_return (c ∷ text) in
    let r = run_bounds is_return c text h in
    chosen (begins_at_line_end (drop len (c ∷ text))) (λ _. gap_is 1 most len r.0 r.1) (λ _. bad_bounds 1 most len StrayReturn 0 r.0 r.1 (omega arith))

comment_begins : (c : ℕ) → (c == 59) ≡ true → is_comment c ≡ true
comment_begins c h = grind (arith, common_steps)

no_separator : (c : ℕ) → is_blank c ≡ false → (c == 10) ≡ false → (c == 59) ≡ false → (c == 40) ≡ false → (c == 41) ≡ false
    → (c == 0) ≡ false → (c == 13) ≡ false → is_separator c ≡ false
no_separator c blank line semi left right nul ret = rw (blank, line, semi, left, right, nul, ret) refl

pub lexeme_bounds : (c : ℕ) (text : Octets) → HasBounds 1 (suc (length text)) (lexeme_at (c ∷ text))
unfolding lexeme_at
lexeme_bounds c text =
    let most = suc (length text) in
    let one : (x : Lexeme) → lexeme_len x ≡ 1 → inner_len x ≡ 0
    → HasBounds 1 most x = λ x l p. record { low = omega arith; high = omega arith; inner = omega arith } in
    let run : (p : ℕ → Bool) → p c ≡ true → HasBounds 1 most (Gap (prefix_len p (c ∷ text))) =
    λ p h. gap_is 1 most (prefix_len p (c ∷ text)) (run_bounds p c text h).0 (run_bounds p c text h).1 in
    let quoted : HasBounds 1 most (quoted_from 1 false text) = (let q = quoted_bounds text 1 false
    (omega arith) in record { low = q.low; high = omega (arith, q.high); inner = q.inner }) in
    chosen (is_blank c) (λ h. run is_blank h)
    (λ blank. chosen (c == 10) (λ _. one LineEnd refl refl)
    (λ line. chosen (c == 59) (λ h. run is_comment (comment_begins c h))
    (λ semi. chosen (c == 40) (λ _. one Open refl refl)
    (λ left. chosen (c == 41) (λ _. one Close refl refl)
    (λ right. chosen (c == 34) (λ _. quoted)
    (λ quote. chosen (c == 0) (λ _. bad_bounds 1 most 1 Nul 0 (omega arith) (omega arith) (omega arith))
    (λ nul. chosen (c == 13) (λ h. returns_bounds c text h)
    (λ ret. word_first c text (no_separator c blank line semi left right nul ret) quote))))))))

-- ---- what the code returns has these bounds

pub quoted_within : (text : Octets) (x : Lexeme) → x ≡ quoted_from 1 false (drop 1 text) → 0 < length text → HasBounds 1 (length text) x
quoted_within [] x is h = absurd (omega arith)
quoted_within (c ∷ text) x is h =
    let q = quoted_bounds text 1 false (omega arith) in
    rw is (record { low = q.low; high = omega (arith, q.high); inner = q.inner })

pub lexeme_within : (text : Octets) (x : Lexeme) → x ≡ lexeme_at text → 0 < length text → HasBounds 1 (length text) x
lexeme_within [] x is h = absurd (omega arith)
lexeme_within (c ∷ text) x is h = rw is (lexeme_bounds c text)
