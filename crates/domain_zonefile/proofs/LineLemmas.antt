-- What entries mean.
use Rattle.std.proofs.Common.{arith, length-append, ◌≡◌, ◌<◌, ◌≤◌, ◌+◌, ℕ, List, map, refl, sym, ap, ◌∙◌, ◌++◌, ◌-◌, length, take, subst, drop, Bool}
use Rattle.std.proofs.Common.{true, false, Option, Some, None, Bor}
use Rattle.std.proofs.lemmas.{Grind.common_steps, Bool.false≢true, List.{drop_at, take_rest}, Option.{slice_get-map, slice_get_read}}
use Rattle.std.specs.Prelude.{Ok, Err, is_some, slice_get, unwrap_or}
use Rattle.std.specs.{Option.{option_map, option_or}, Slice.IsItemAt}
use Rattle.domain_octets.specs.Octets.{Octets}
use Rattle.domain_names.specs.Name.{Name}
use Rattle.domain_types.specs.Reading.{SpellsType, TokenText, token_text, DataTexts, DataTextFault}
use Rattle.domain_types.specs.declared.token.{DataFaultKind.DataFaultKind, Token.Token}
use Rattle.domain_zonefile.specs.Fields.{first_class, first_ttl, prefix_of, then_class, then_ttl, ttl_first}
use Rattle.domain_zonefile.specs.Records.{State, TypedFault, HasOwner, IsTyped, IsBody, BodyFault, in_data, too_long}
use Rattle.domain_zonefile.specs.Records.{FieldsFault, in_body, without_ttl, ttl_of, default_after, owner_count, ReadsBody, ReadsRecord, RecordFault}
use Rattle.domain_zonefile.specs.Records.{after_owner}
use Rattle.domain_zonefile.specs.declared.{body.Body.Body, fault.EntryFaultKind.EntryFaultKind, fields.{LargeTtl.LargeTtl, Prefix.Prefix}}
use Rattle.domain_zonefile.specs.declared.fault.EntryFaultKind.TheVariants.{NoType, NotType, NoRecords, Data, LongData, NoTtl}
use Rattle.domain_zonefile.specs.declared.fault.EntryFaultKind.TheVariants as kinds
use Rattle.domain_types.specs.declared.ttl.TtlText.{TtlText, TheVariants.{NoTtl, TooLarge, Seconds}}

-- at most two tokens are before the type
then_small : (class : ℕ) (ttl : TtlText) (p : Prefix) → then_ttl class ttl ≡ Ok p → p.count ≤ 2
then_small class NoTtl p e = grind (arith, common_steps)
then_small class TooLarge p e = grind (arith, common_steps)
then_small class (Seconds n) p e = grind (arith, common_steps)

class_small : (ttl : ℕ) (class : Option ℕ) (p : Prefix) → then_class ttl class ≡ p → p.count ≤ 2
class_small ttl None p e = grind (arith, common_steps)
class_small ttl (Some class) p e = grind (arith, common_steps)

first_small : (ttl : TtlText) (class : Option ℕ) (rest : List TokenText) (p : Prefix) → ttl_first ttl class rest ≡ Ok p → p.count ≤ 2
first_small NoTtl None rest p e = grind (arith, common_steps)
first_small NoTtl (Some class) rest p e = then_small class (first_ttl rest) p e
first_small TooLarge class rest p e = grind (arith, common_steps)
first_small (Seconds n) class rest p e = class_small n (first_class rest) p (grind (arith, common_steps))

pub prefix_small : (tokens : List TokenText) (p : Prefix) → prefix_of tokens ≡ Ok p → p.count ≤ 2
prefix_small tokens p e = first_small (first_ttl tokens) (first_class tokens) (drop 1 tokens) p e

then_large : (class : ℕ) (ttl : TtlText) (large : LargeTtl) → then_ttl class ttl ≡ Err large → large.token ≤ 1
then_large class NoTtl large e = grind (arith, common_steps)
then_large class TooLarge large e = grind (arith, common_steps)
then_large class (Seconds n) large e = grind (arith, common_steps)

first_large : (ttl : TtlText) (class : Option ℕ) (rest : List TokenText) (large : LargeTtl) → ttl_first ttl class rest ≡ Err large → large.token ≤ 1
first_large NoTtl None rest large e = grind (arith, common_steps)
first_large NoTtl (Some class) rest large e = then_large class (first_ttl rest) large e
first_large TooLarge class rest large e = grind (arith, common_steps)
first_large (Seconds n) class rest large e = grind (arith, common_steps)

pub large_small : (tokens : List TokenText) (large : LargeTtl) → prefix_of tokens ≡ Err large → large.token ≤ 1
large_small tokens large e = first_large (first_ttl tokens) (first_class tokens) (drop 1 tokens) large e

-- the token that was lent
pub lent : (tokens : List Token) (i : ℕ) (token : Bor Token) → IsItemAt tokens i (Some token)
    → slice_get (map token_text tokens) i ≡ Some (token_text token.now)
lent tokens i token item =
    slice_get-map token_text tokens i ∙ ap (option_map token_text) (slice_get_read tokens (length tokens) i token.now refl item.3.0 item.1)

-- a token that spells no type is the fault
pub not_type : (tokens : List TokenText) (prefix : Prefix) (token : TokenText) → prefix_of tokens ≡ Ok prefix
    → slice_get tokens prefix.count ≡ Some token → ((t : ℕ) → SpellsType token t → ⊥) → TypedFault tokens prefix.count NotType
not_type tokens prefix token is there none = (prefix, is, refl, (token, there, none))

-- an indented entry has the last owner, if there is one
some_is : (o : Option Name) → is_some o ≡ true → (n : Name) × o ≡ Some n
some_is None h = absurd (false≢true h)
some_is (Some n) h = (n, refl)

pub last_owner : (s : State) (is_indented : Bool) (tokens : List TokenText) → is_indented ≡ true → is_some s.owner ≡ true
    → HasOwner s is_indented tokens None
last_owner s false tokens e some = absurd (false≢true e)
last_owner s true tokens e some = let owner = some_is s.owner some in record { owner = owner.0; is = owner.1; kept = owner.1 }

-- a fault before the data is at one of three places
pub typed_place : (tokens : List TokenText) (place : ℕ) (kind : EntryFaultKind) → TypedFault tokens place kind → place ≤ 2
typed_place tokens place kinds.LargeTtl h = omega (arith, large_small tokens (record { token = place }) h)
typed_place tokens place NoType h = subst (λ n. n ≤ 2) (sym h.2) (prefix_small tokens h.0 h.1)
typed_place tokens place NotType h = subst (λ n. n ≤ 2) (sym h.2) (prefix_small tokens h.0 h.1)
typed_place tokens place NoRecords h = subst (λ n. n ≤ 2) (sym h.2) (prefix_small tokens h.0 h.1)
typed_place tokens place (Data fault) h = absurd h
typed_place tokens place kinds.NoOwner h = absurd h
typed_place tokens place kinds.NotName h = absurd h
typed_place tokens place kinds.NoTtl h = absurd h
typed_place tokens place kinds.LongData h = absurd h
typed_place tokens place kinds.UnknownDirective h = absurd h
typed_place tokens place kinds.MissingArgument h = absurd h
typed_place tokens place kinds.ExtraArgument h = absurd h
typed_place tokens place kinds.NotTtl h = absurd h
typed_place tokens place kinds.OutOfMemory h = absurd h

-- the data after the type
pub body_is : (origin : Name) (tokens ts : List TokenText) (prefix : Prefix) (t : ℕ) (octets : Octets) → IsTyped tokens prefix t
    → ts ≡ drop (prefix.count + 1) tokens → DataTexts origin t ts octets → length octets ≤ 65535
    → IsBody origin tokens (record { ttl = prefix.ttl; class = prefix.class; rtype = t }) octets
body_is origin tokens ts prefix t octets typed left texts fits =
    record {
      prefix = prefix;
      typed = typed;
      ttl = refl;
      class = refl;
      data_is = subst (λ us. DataTexts origin t us octets) left texts;
      fits = fits;
    }

pub body_long : (origin : Name) (tokens ts : List TokenText) (prefix : Prefix) (t : ℕ) (octets : Octets) → IsTyped tokens prefix t
    → ts ≡ drop (prefix.count + 1) tokens → DataTexts origin t ts octets → 65535 < length octets
    → BodyFault origin tokens (prefix.count + 1) LongData
body_long origin tokens ts prefix t octets typed left texts long =
    too_long prefix t typed octets (subst (λ us. DataTexts origin t us octets) left texts) long refl refl

-- what was appended has as many octets more
pub appended_length : (old part now : Octets) (start count : ℕ) → now ≡ old ++ part → start ≡ length old → count ≡ length now
    → count - start ≡ length part
appended_length old part now start count is at counts = omega (arith, counts, at, ap length is, length-append old part)

pub body_fault : (origin : Name) (tokens ts : List TokenText) (prefix : Prefix) (t later : ℕ) (fault : DataFaultKind) → IsTyped tokens prefix t
    → ts ≡ drop (prefix.count + 1) tokens → DataTextFault origin t ts later fault
    → BodyFault origin tokens (prefix.count + 1 + later) (Data fault)
body_fault origin tokens ts prefix t later fault typed left wrong =
    in_data prefix t typed later fault refl refl (subst (λ us. DataTextFault origin t us later fault) left wrong)

-- ---- records

-- what was appended is behind what there was
pub appended : (old part now : Octets) (start : ℕ) → now ≡ old ++ part → start ≡ length old → take (length now - start) (drop start now) ≡ part
appended old part now start is at = take_rest now start ∙ ap (drop start) is ∙ drop_at old part start (sym at)

pub fields_body : (s : State) (tokens : List TokenText) (place : ℕ) (kind : EntryFaultKind) → BodyFault s.origin tokens place kind
    → FieldsFault s tokens place kind
fields_body s tokens place kind wrong = in_body wrong

pub no_ttl : (s : State) (tokens : List TokenText) (body : Body) (octets : Octets) → IsBody s.origin tokens body octets
    → ttl_of s body.ttl body.rtype octets ≡ None → FieldsFault s tokens 0 NoTtl
no_ttl s tokens body octets is none = without_ttl body octets is none refl refl

-- what was read is a record
pub record_is : (s : State) (is_indented : Bool) (tokens ts : List TokenText) (own : Option Name) (body : Body) (ttl : ℕ) (old new : Octets)
    → HasOwner s is_indented tokens own → ts ≡ drop (owner_count is_indented) tokens → ReadsBody s ts body ttl old new
    → ReadsRecord s is_indented tokens (record { class = unwrap_or body.class s.last_class; ttl = ttl; rtype = body.rtype }) old new (record {
      origin = s.origin;
      owner = option_or own s.owner;
      default_ttl = default_after s body.ttl ttl;
      last_ttl = Some ttl;
      last_class = unwrap_or body.class s.last_class;
    })
record_is s is_indented tokens ts own body ttl old new has left read = record {
  owner = has.owner;
  octets = read.octets;
  is = record {
    owner_is = has.is;
    body = body;
    body_is = subst (λ us. IsBody s.origin us body read.octets) left read.is;
    rtype_is = refl;
    class_is = refl;
    ttl_is = read.ttl_is;
    after_is = ap
        (λ o.
        record {
          origin = s.origin;
          owner = o;
          default_ttl = default_after s body.ttl ttl;
          last_ttl = Some ttl;
          last_class = unwrap_or body.class s.last_class;
        })
        has.kept;
  };
  joined = read.joined;
}

pub fields_refused : (s : State) (is_indented : Bool) (tokens ts : List TokenText) (own : Option Name) (later : ℕ) (kind : EntryFaultKind)
    → HasOwner s is_indented tokens own → ts ≡ drop (owner_count is_indented) tokens → FieldsFault s ts later kind
    → RecordFault s is_indented tokens (owner_count is_indented + later) kind
fields_refused s is_indented tokens ts own later kind has left wrong =
    after_owner has.owner has.is later (subst (λ us. FieldsFault s us later kind) left wrong) refl
