-- a line spells one record at most, and none where it is refused
use Rattle.std.proofs.Common.{arith, ◌≡◌, ℕ, List, Option, [], sym, subst, ◌∙◌, ◌+◌, ◌<◌, ◌≤◌, refl, ap, ◌↔◌, IsTrue, true, false, ◌∷◌, drop, get_or, length}
use Rattle.std.{proofs.{Common.{Result, IfErr, ◌^◌, ◌++◌}, lemmas.{Grind.common_steps, List.{drop_all, drop_more}}}, specs.Prelude.{Bool, Some, None}}
use Rattle.std.specs.{Prelude.{IfSome, slice_index}, Fmt.decimal}
use Rattle.domain_octets.{specs.{Text.{words_of, is_blank}, Octets.Octets}, proofs.WordLemmas.{blank_first, first_begins, joined_words, first_word}}
use Rattle.domain_octets.proofs.WordLemmas.{decimal_word}
use Rattle.domain_base.specs.{Numbers.{ClassText, IsNoClass, IsNoType, TypeText, class_text, type_text}, Scan.{IsNoNumber, IsNumber, RefusesToken, TakesToken}}
use Rattle.domain_base.proofs.TextLemmas.{one_named, name_excludes, token_excludes, number_back, type_back, class_back, dotted_name_back, name_word}
use Rattle.domain_names.specs.{Text.{NameText, IsOfTokens, NameTextFault, scan_fault_of, name_text, label_text, octet_text}, Name.{Name, Token, Tokens, IsName}}
use Rattle.domain_names.{specs.Name.IsLabel, proofs.TextLemmas.one_name}
use Rattle.domain_record.specs.{declared.record.Record.Record, Record.record_text}
use Rattle.domain_rdata.{proofs.ScanLemmas.{none_spelled, text_once}, specs.{Scan.RdataText, Zone.{rtype_of, data_text}}}
use Rattle.domain_rdata.specs.declared.zone_record_data.ZoneRecordData.{ZoneRecordData}
use Rattle.domain_message.specs.Entry.{NumbersTaken, OwnerTaken, ClassTaken, BodyText, EntryText, IsOfLine, EntryLineText, RefusesBody}
use Rattle.domain_message.specs.Entry.{RefusesRecordText, RefusesLine}
use Rattle.domain_message.specs.{Entry.{in_entry, no_entry, no_memory, IsNoEntry}, Record.IsSameRecord, declared.line.LineError.{LineError, TheVariants.Owner}}
use Rattle.domain_message.{specs.declared.line.LineError.TheVariants.{Ttl, Class, Rtype, RecordData, Trailing}, proofs.RecordLemmas.on_err}

same_number : (text : Token) (m n : ℕ) → IsNumber 32 text m → IsNumber 32 text n → m ≡ n
same_number text m n p q = p.value ∙ sym q.value

same_class : (text : Token) (m n : ℕ) → ClassText text m → ClassText text n → m ≡ n
same_class text m n p q = one_named _ _ text m n p q

same_type : (text : Token) (m n : ℕ) → TypeText text m → TypeText text n → m ≡ n
same_type text m n p q = one_named _ _ text m n p q

-- tokens that two kinds of token are taken from are the same behind it
taken_once : {P Q : Token → Type 0} (old m n : Tokens) → TakesToken P old m → TakesToken Q old n → m ≡ n
taken_once old m n x y = let e = x.first in let f = y.first in cc

-- the three numbers, and what follows them
numbers_once : (ttl class rtype ttl' class' rtype' : ℕ) (tokens m n : Tokens) → NumbersTaken ttl class rtype tokens m
    → NumbersTaken ttl' class' rtype' tokens n → (ttl ≡ ttl') × (class ≡ class') × (rtype ≡ rtype') × (m ≡ n)
numbers_once ttl class rtype ttl' class' rtype' tokens m n x y = grind (arith, common_steps, same_number, same_class, same_type)

owner_once : (owner other : Name) (tokens m n : Tokens) → OwnerTaken owner tokens m → OwnerTaken other tokens n → (owner ≡ other) × (m ≡ n)
owner_once owner other tokens m n x y = grind (arith, common_steps, one_name)

module _ {O N : Type 0} (octets : O → Octets) (labels : N → Name) where
  text_type : (rtype : ℕ) (old new : Tokens) (d : ZoneRecordData O N) → RdataText octets labels rtype old d new → rtype_of d ≡ rtype
  text_type rtype old new d h = grind (arith, common_steps)

  -- data of the type that was taken, in the tokens that are left
  moved : (rtype : ℕ) (after : Tokens) {ttl class ttl' class' : ℕ} {tokens : Tokens} (d : ZoneRecordData O N)
      → NumbersTaken ttl class rtype tokens after
      → BodyText octets labels tokens ttl' class' d → RdataText octets labels rtype after d []
  moved rtype after d taken b =
      let same = numbers_once _ _ _ _ _ _ _ _ _ b.numbers taken in
      subst (λ t. RdataText octets labels t after d []) same.2 (subst (λ ws. RdataText octets labels b.rtype ws d []) same.3 b.spelled)

  pub one_line : (line : List ℕ) (r s : Record N (ZoneRecordData O N)) → EntryLineText octets labels line r → EntryLineText octets labels line s
      → IsSameRecord octets labels r s
  one_line line r s x y =
      let owned = owner_once _ _ _ _ _ x.spelled.owned y.spelled.owned in
      let a = x.spelled.body in
      let b = subst (λ ws. BodyText octets labels ws s.ttl s.class s.«data») (sym owned.1) y.spelled.body in
      let same = numbers_once _ _ _ _ _ _ _ _ _ a.numbers b.numbers in
      let other = moved a.rtype a.data_tokens s.«data» a.numbers b in
      record {
        owners = owned.0;
        classes = same.1;
        ttls = same.0;
        types = text_type _ _ [] r.«data» a.spelled ∙ sym (text_type _ _ [] s.«data» other);
        wires = (text_once octets labels _ _ [] [] r.«data» s.«data» a.spelled other).1;
      }

  -- ---- tokens that are refused spell nothing

  pub none_behind : (limit : Option ℕ) (tokens : Tokens) (ttl class : ℕ) (d : ZoneRecordData O N) (e : LineError)
      → RefusesBody octets labels limit tokens e
      → IsOfLine limit e → BodyText octets labels tokens ttl class d → ⊥
  unfolding RefusesBody
  none_behind limit tokens ttl class d (Ttl e) (left, why) own b =
      token_excludes (IsNoNumber 32) (IsOfTokens limit) (IsNumber 32) (λ fault text v no yes known. no.none v yes) tokens left _ ttl (scan_fault_of e) why
      b.numbers.timed own
  none_behind limit tokens ttl class d (Class e) (_, behind, left, timed, why) own b =
      token_excludes IsNoClass (IsOfTokens limit) ClassText (λ fault text v no yes known. no.none v yes) b.numbers.behind_ttl left _ class (scan_fault_of e)
      (subst (λ ws. RefusesToken IsNoClass ws left (scan_fault_of e)) (taken_once tokens _ _ timed b.numbers.timed) why) b.numbers.classed own
  none_behind limit tokens ttl class d (Rtype e) (_, number, between, behind, left, timed, classed, why) own b =
      let first = taken_once tokens between _ timed b.numbers.timed in
      let same = taken_once b.numbers.behind_ttl behind _ (subst (λ ws. ClassTaken number ws behind) first classed) b.numbers.classed in
      token_excludes IsNoType (IsOfTokens limit) TypeText (λ fault text v no yes known. no.none v yes) b.numbers.behind_class left _ b.rtype (scan_fault_of e)
      (subst (λ ws. RefusesToken IsNoType ws left (scan_fault_of e)) same why) b.numbers.typed own
  none_behind limit tokens ttl class d (RecordData e) (_, _, rtype, after, left, taken, why) own b =
      none_spelled octets labels rtype after limit left (scan_fault_of e) why own d [] (moved rtype after d taken b)
  none_behind limit tokens ttl class d Trailing (_, _, rtype, after, left, other, taken, text, some) own b =
      some ((text_once octets labels rtype after left [] other d text (moved rtype after d taken b)).0)
  none_behind limit tokens ttl class d _ why own b = absurd why

  none_in_body : (limit : Option ℕ) (tokens : Tokens) (r : Record N (ZoneRecordData O N)) (e : LineError)
      → (owner : Name) × (behind : Tokens) × OwnerTaken owner tokens behind × RefusesBody octets labels limit behind e
      → IsOfLine limit e → EntryText octets labels tokens r → ⊥
  none_in_body limit tokens r e (owner, behind, owned, why) own x =
      none_behind limit x.behind r.ttl r.class r.«data» e
      (subst (λ ws. RefusesBody octets labels limit ws e) (taken_once tokens behind x.behind owned x.owned) why) own x.body

  pub none_in : (limit : Option ℕ) (tokens : Tokens) (r : Record N (ZoneRecordData O N)) (e : LineError)
      → RefusesRecordText octets labels limit tokens e
      → IsOfLine limit e → EntryText octets labels tokens r → ⊥
  none_in limit tokens r (Owner e) (left, why) own x =
      token_excludes (NameTextFault limit) (IsOfTokens limit) NameText (name_excludes limit) tokens left _ (labels r.owner) (scan_fault_of e) why x.owned own
  none_in limit tokens r _ why own x = none_in_body limit tokens r _ why own x

  pub none_where_refused : (limit : Option ℕ) (line : List ℕ) (e : LineError) (r : Record N (ZoneRecordData O N))
      → RefusesLine octets labels limit line e → IsOfLine limit e → EntryLineText octets labels line r → ⊥
  none_where_refused limit line e r (no_entry none is) own x = x.seen none
  none_where_refused limit line e r (in_entry seen why) own x = none_in limit (words_of line) r e why own x.spelled
  none_where_refused limit line e r (no_memory seen is) own x = subst (IsOfLine limit) is own

-- ---- why a line spells no record, from what is refused of its tokens

pub none_left : (tokens : List (List ℕ)) (more : Bool) → IsTrue more ↔ (tokens ≡ [] → ⊥) → more ≡ false → tokens ≡ []
none_left [] more test off = refl
none_left (token ∷ tokens) more test off = absurd (let on = test.1 (λ e. cc) in cc)

-- what is refused behind an owner is of the entry
pub in_body : {O N : Type 0} (octets : O → Octets) (labels : N → Name) (limit : Option ℕ) (owner : Name) (tokens behind : Tokens) (e : LineError)
    → OwnerTaken owner tokens behind → RefusesBody octets labels limit behind e → RefusesRecordText octets labels limit tokens e
unfolding RefusesBody
in_body octets labels limit owner tokens behind (Owner e) owned why = absurd why
in_body octets labels limit owner tokens behind _ owned why = (owner, behind, owned, why)

-- ---- the first octet that is no blank

module _ (line : List ℕ) (i : ℕ) where
  pub blank_passed : i < length line → is_blank (get_or line i 0) ≡ true → words_of (drop (i + 1) line) ≡ words_of (drop i line)
  blank_passed below is = sym (ap words_of (drop_more line i 0 below) ∙ blank_first _ _ is)

  pub entry_begins : i < length line → is_blank (get_or line i 0) ≡ false → words_of (drop i line) ≡ words_of line
      → IsNoEntry (words_of line) ↔ (get_or line i 0 ≡ 59)
  entry_begins below other before =
      let first = first_begins _ (drop (i + 1) line) other in
      let whole = sym before ∙ ap words_of (drop_more line i 0 below) ∙ first.2 in
      (λ none. subst IsNoEntry whole none, λ is. subst IsNoEntry (sym whole) is)

  pub all_blank : length line ≤ i → words_of (drop i line) ≡ words_of line → IsNoEntry (words_of line)
  all_blank past before = subst IsNoEntry (sym (joined_words [] tt) ∙ ap words_of (sym (drop_all i line past)) ∙ before) tt

pub line_refused : {O N X : Type 0} (octets : O → Octets) (labels : N → Name) (limit : Option ℕ) (line : List ℕ) (tokens : Tokens)
    (skipped : Bool) (r : Result X LineError) → tokens ≡ words_of line → IsTrue skipped ↔ IsNoEntry (words_of line) → skipped ≡ false
    → IfErr r (RefusesRecordText octets labels limit tokens) → IfErr r (RefusesLine octets labels limit line)
line_refused octets labels limit line tokens skipped r is test off =
    on_err (λ e why. in_entry (λ none. let on = test.1 none in cc) (subst (λ ws. RefusesRecordText octets labels limit ws e) is why)) r

-- ---- what a record is written as is a line that spells it

-- an octet of a label does not begin with a semicolon
octet_begins : (c : ℕ) (after : List ℕ) → slice_index (octet_text c ++ after) 0 ≡ 59 → ⊥
unfolding octet_text
octet_begins c after is = grind (arith, common_steps)

-- nor does a label
label_begins : (label after : List ℕ) → IsLabel label → slice_index (label_text label ++ after) 0 ≡ 59 → ⊥
label_begins [] after label_is is = omega (arith, label_is.not_empty)
label_begins (c ∷ label) after label_is is = grind (arith, common_steps, octet_begins)

-- nor does a name
name_begins : (name : Name) → IsName name → slice_index (name_text name ++ 46 ∷ []) 0 ≡ 59 → ⊥
name_begins [] valid is = omega (arith, is)
name_begins (label ∷ labels) valid is = grind (arith, common_steps, label_begins)

module _ {O N : Type 0} (octets : O → Octets) (labels : N → Name) (r : Record N (ZoneRecordData O N)) (owned : IsName (labels r.owner))
    (timed : r.ttl < 2 ^ 32) (classed : r.class < 65536) (typed : rtype_of r.«data» < 65536) where
  abbrev owner_word : List ℕ
  owner_word = name_text (labels r.owner) ++ 46 ∷ []

  line_words : (text : List ℕ)
      → words_of (owner_word ++ 32 ∷ (decimal r.ttl ++ 32 ∷ (class_text r.class ++ 32 ∷ (type_text (rtype_of r.«data») ++ 32 ∷ text))))
      ≡ owner_word ∷ decimal r.ttl ∷ class_text r.class ∷ type_text (rtype_of r.«data») ∷ words_of text
  line_words text = grind (arith, common_steps, first_word, name_word, decimal_word)

  line_back : (text : List ℕ) → RdataText octets labels (rtype_of r.«data») (words_of text) r.«data» []
      → EntryLineText octets labels
      (owner_word ++ 32 ∷ (decimal r.ttl ++ 32 ∷ (class_text r.class ++ 32 ∷ (type_text (rtype_of r.«data») ++ 32 ∷ text)))) r
  line_back text spelled = record {
    seen = λ none. name_begins _ owned (subst IsNoEntry (line_words text) none);
    spelled = record {
      behind = decimal r.ttl ∷ class_text r.class ∷ type_text (rtype_of r.«data») ∷ words_of text;
      owned = record { token = owner_word; first = line_words text; holds = dotted_name_back _ owned };
      body = record {
        rtype = rtype_of r.«data»;
        data_tokens = words_of text;
        numbers = record {
          behind_ttl = class_text r.class ∷ type_text (rtype_of r.«data») ∷ words_of text;
          behind_class = type_text (rtype_of r.«data») ∷ words_of text;
          timed = record { token = decimal r.ttl; first = refl; holds = number_back 32 _ timed (omega arith) };
          classed = record { token = class_text r.class; first = refl; holds = class_back _ classed };
          typed = record { token = type_text (rtype_of r.«data»); first = refl; holds = type_back _ typed };
        };
        spelled = spelled;
      };
    };
  }

  back_if : (text : Option Octets) → IfSome text (λ t. RdataText octets labels (rtype_of r.«data») (words_of t) r.«data» [])
      → IfSome (record_text labels rtype_of (λ d. text) r) (λ line. EntryLineText octets labels line r)
  back_if None spelled = tt
  back_if (Some text) spelled = line_back text spelled

  pub record_back : IfSome (data_text octets labels r.«data») (λ t. RdataText octets labels (rtype_of r.«data») (words_of t) r.«data» [])
      → IfSome (record_text labels rtype_of (data_text octets labels) r) (λ line. EntryLineText octets labels line r)
  record_back spelled = back_if (data_text octets labels r.«data») spelled
