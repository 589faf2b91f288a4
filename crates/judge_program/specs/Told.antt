-- The records that an answer rests on, and those with which a server answers.
use Rattle.std.specs.Prelude.{ℕ, Bool, true, false, Option, Some, None, ◌≡◌, ◌+◌, ◌==◌, not, ◌&&◌, ◌||◌, List, [], ◌++◌, codes, length, nat_lt}
use Rattle.std.specs.{Prelude.{bytes_eq, ◌<◌, ◌≤◌, Result, Ok, Err, if◌then◌else◌}, Option.{is_some, option_map}, List.find}
use Rattle.domain_answer.specs.{declared.answer.Answer.Answer, HashedReading.closer_name, ZoneAnswer.wildcard_below}
use Rattle.domain_answer.specs.{Needs.{needs_of, needs_wildcard_record, wildcard_count}, declared.needs.Needs.Needs}
use Rattle.judge_program.specs.declared.{told.{Listed.{Listed, TheVariants.{Nsec, Nsec3}}, Part.Part, Parts.Parts}, role.Role.Role}
use Rattle.judge_program.specs.{declared.{role.Role.TheVariants.{Asked, Encloser as ClosestEncloser, NextCloser, Wildcard}, shown.Shown.Shown}, Text.full_text}
use Rattle.domain_octets.specs.Octets.{Octets}
use Rattle.domain_names.specs.Name.{Name, same_name, last_labels}
use Rattle.domain_base.specs.Types.{ds}
use Rattle.domain_bitmap.specs.Blocks.{contains_type}
use Rattle.domain_borrowed.specs.Data.{nsec3_record}
use Rattle.domain_nsec.specs.Chain.{Link, as_link}
use Rattle.domain_nsec3.specs.{Chain.{HashedLink, ParamRecord, hash_name}, View.{as_hashed_link, as_param_record}}
use Rattle.domain_checker.specs.{HashedReading.{Encloser, IsFoundEncloser}, HashedVerdict.{HashedRecords, first_cover, first_match}}
use Rattle.domain_checker.specs.Reading.{is_cover, is_match}
use Rattle.domain_answer.specs.Reading.{usable}
use Rattle.denial_program.specs.Text.{nsec_line, nsec3_line, nsec3param_line}
use Rattle.domain_answer.specs.declared.answer.Answer.TheVariants as answers
use Rattle.domain_answer.specs.declared.needs.Needs.TheVariants as needs
use Rattle.judge_program.specs.declared.shown.Shown.TheVariants as shows

-- ---- The records that an answer rests on.

-- records are shown with the answer: those that it rests on or, if the parent zone answers, that of
-- the apex, with which a server of this zone answers (RFC 4035, section 3.1.4.1)
abbrev pub shows_records : Answer → Bool
shows_records answers.OutsideZone = false
shows_records answers.TooManyIterations = false
shows_records answers.NotProven = false
shows_records _ = true

-- the answer rests on a cover of the next closer name
abbrev pub needs_next_closer : Answer → Bool
needs_next_closer answer = is_some (wildcard_count answer)

-- ---- The records that an answer rests on, and those with which a server answers; a is the apex, x
-- the name.

-- the printed form of the name that a record matches or covers
abbrev pub role_text : Role → Octets
role_text Asked = codes "the name"
role_text (ClosestEncloser name) = codes "the closest encloser " ++ full_text name
role_text (NextCloser name) = codes "the next closer name " ++ full_text name
role_text (Wildcard above) = codes "the wildcard " ++ full_text (wildcard_below above)

-- ---- records

-- a record of a chain
pub data AnyLink : Type 0 where
  plain : Link → AnyLink
  hashed : HashedLink → AnyLink

abbrev pub any_of : Listed → AnyLink
any_of (Nsec k) = plain (as_link (λ n. n) k.now)
any_of (Nsec3 k) = hashed (as_hashed_link (λ n. n) k.now)

abbrev pub line_of : AnyLink → Octets
line_of (plain k) = nsec_line k
line_of (hashed k) = nsec3_line k

abbrev pub bits_of : AnyLink → Octets
bits_of (plain k) = k.bits
bits_of (hashed k) = k.bits

-- the same owner, class and data; TTLs are not compared
abbrev pub is_same : AnyLink → AnyLink → Bool
is_same (plain k) (plain l) =
    same_name k.owner l.owner && (k.class == l.class)
    && (same_name k.next l.next && bytes_eq k.bits l.bits)
is_same (hashed k) (hashed l) =
    same_name k.owner l.owner && (k.class == l.class)
    && bytes_eq (nsec3_record k).«data».octets (nsec3_record l).«data».octets
is_same _ _ = false

-- a record that matches or covers a name
pub record Telling : Type 0 where
  pub role : Role
  pub matches : Bool
  pub link : AnyLink

abbrev pub telling_of : Part → Telling
telling_of p = record { role = p.role; matches = p.matches; link = any_of p.listed }

-- the first match or, if there is none, the first cover
abbrev pub finding : {K : Type 0} → (K → AnyLink) → Role → Option K → Option K → Option Telling
finding any role (Some k) covering = Some (record { role = role; matches = true; link = any k })
finding any role None (Some k) = Some (record { role = role; matches = false; link = any k })
finding any role None None = None

-- what NSEC records say of a name, and what NSEC3 records say of a name with this hash; nothing if
-- the hasher fails for it
abbrev pub nsec_told : Name → List Link → Role → Name → Option Telling
nsec_told a listed role x =
    finding plain role (find (is_match a x) listed) (find (is_cover a x) listed)

abbrev pub hash_told : HashedRecords → Role → Result Octets ℕ → Option Telling
hash_told R role (Ok v) = finding hashed role (first_match R v) (first_cover R v)
hash_told R role (Err n) = None

abbrev pub nsec3_told : HashedRecords → Role → Name → Option Telling
nsec3_told R role x = hash_told R role (hash_name R.hash x)

-- the wildcard below the last n labels of x, if x has more than n
abbrev pub wildcard_asked : Name → Option ℕ → Option (Role × Name)
wildcard_asked x None = None
wildcard_asked x (Some n) =
    if nat_lt n (length x)
    then Some (Wildcard (last_labels n x), wildcard_below (last_labels n x)) else None

abbrev pub told_where : (Role → Name → Option Telling) → Option (Role × Name) → Option Telling
told_where told None = None
told_where told (Some (role, name)) = told role name

-- the match and the cover that were found for the wildcard below the last n labels of x
abbrev pub told_wildcard : {K : Type 0} → (K → AnyLink) → Name → Option ℕ
    → Option (Option K × Option K) → Option Telling
told_wildcard any x (Some n) (Some f) = finding any (Wildcard (last_labels n x)) f.0 f.1
told_wildcard any x _ _ = None

-- what is said of the name or its closest encloser, of the next closer name, and of the wildcard
pub record Tellings : Type 0 where
  pub matched : Option Telling
  pub closer : Option Telling
  pub wildcard : Option Telling
  pub param : Option ParamRecord

abbrev pub tellings_of : Parts → Tellings
tellings_of p =
    record {
      matched = option_map telling_of p.matched;
      closer = option_map telling_of p.closer;
      wildcard = option_map telling_of p.wildcard;
      param = option_map (λ k. as_param_record (λ n. n) k.now) p.param;
    }

-- what NSEC records that count say, if the answer rests on some
abbrev pub nsec_tellings : Name → List Link → Name → Answer → Option Tellings
nsec_tellings a listed x answer =
    if shows_records answer
    then Some (record {
      matched = nsec_told a (usable a listed) Asked x;
      closer = None;
      wildcard =
          told_where (nsec_told a (usable a listed)) (wildcard_asked x (wildcard_count answer));
      param = None;
    })
    else None

-- what was found for the wildcard of an answer or, if it was not looked up, what the records say
abbrev pub wildcard_or_found : HashedRecords → Name → Answer
    → Option (Option HashedLink × Option HashedLink) → Option Telling
wildcard_or_found R x answer None =
    told_where (nsec3_told R) (wildcard_asked x (wildcard_count answer))
wildcard_or_found R x answer (Some f) = told_wildcard hashed x (wildcard_count answer) (Some f)

-- the role of the matched name: x itself, or its closest encloser, which has n labels
abbrev pub encloser_role : Name → ℕ → Role
encloser_role x n = if n == length x then Asked else ClosestEncloser (last_labels n x)

abbrev pub encloser_told : Name → Option Encloser → Option Telling
encloser_told x None = None
encloser_told x (Some e) =
    Some (record { role = encloser_role x e.count; matches = true; link = hashed e.link })

-- what is said of the next closer name, if the answer needs it
abbrev pub closer_told : Name → Answer → Option Encloser → Option Telling
closer_told x answer None = None
closer_told x answer (Some e) =
    if needs_next_closer answer
    then finding hashed (NextCloser (last_labels (e.count + 1) x)) None e.cover else None

-- what NSEC3 records say, given what was found of x and its ancestors; and, if n is the Labels
-- field of the signatures of data, what they say of only the next closer name, which is one label
-- longer
abbrev pub nsec3_tellings : ParamRecord → HashedRecords → Name → Answer → Option Encloser → Tellings
nsec3_tellings param R x answer found =
    record {
      matched = encloser_told x found;
      closer = closer_told x answer found;
      wildcard = told_where (nsec3_told R) (wildcard_asked x (wildcard_count answer));
      param = Some param;
    }

abbrev pub expansion_tellings : ParamRecord → HashedRecords → Name → ℕ → Tellings
expansion_tellings param R x n =
    record {
      matched = None;
      closer = nsec3_told R (NextCloser (closer_name n x)) (closer_name n x);
      wildcard = None;
      param = Some param;
    }

-- nothing is looked up in records with more iterations than the limit
pub record AreWhole (limit : ℕ) (param : ParamRecord) (R : HashedRecords) (x : Name)
    (answer : Answer) (told : Option Tellings) : Type 0 where
  pub past : limit < R.parameters.iterations → told ≡ None
  pub within : R.parameters.iterations ≤ limit
      → (found : Option Encloser) × IsFoundEncloser R x found
      × (told ≡ Some (nsec3_tellings param R x answer found))

-- what is to be printed: nothing if the answer rests on no records, or only the answer is printed
abbrev pub AreNsec3Told : Bool → Shown → Option ℕ → ℕ → ParamRecord → HashedRecords → Name → Answer
    → Option Tellings → Type 0
AreNsec3Told false shown labels limit param R x answer told = told ≡ None
AreNsec3Told true shows.Answer labels limit param R x answer told = told ≡ None
AreNsec3Told true shown None limit param R x answer told = AreWhole limit param R x answer told
AreNsec3Told true shown (Some n) limit param R x answer told =
    told ≡ Some (expansion_tellings param R x n)

-- ---- lines

-- the line on how a record matches or covers a name
abbrev pub told_line : Option Telling → Octets
told_line None = []
told_line (Some t) =
    (if t.matches then codes "matches " else codes "covers ")
    ++ role_text t.role ++ codes ": " ++ line_of t.link ++ codes "\n"

-- a response needs this record of the name or its closest encloser: that of a zone cut only if it
-- does not list DS (RFC 4035, section 3.1.4.1; RFC 5155, section 7.2.7)
abbrev pub is_needed : Needs → AnyLink → Bool
is_needed needs.Nothing k = false
is_needed needs.Cut k = not (contains_type (bits_of k) ds)
is_needed needs.Closer (hashed k) = false
is_needed _ k = true

abbrev pub matched_part : Needs → Option Telling → Option AnyLink
matched_part which None = None
matched_part which (Some t) = if is_needed which t.link then Some t.link else None

abbrev pub listed_of : Bool → Option Telling → Option AnyLink
listed_of is_needed found = if is_needed then option_map (λ t. t.link) found else None

-- the record is the same as another, if there is one
abbrev pub is_same_as : AnyLink → Option AnyLink → Bool
is_same_as k None = false
is_same_as k (Some l) = is_same k l

-- the line of a record, if there is one, unless it is the same as one of two before it
abbrev pub line_once : Option AnyLink → Option AnyLink → Option AnyLink → Octets
line_once first second None = []
line_once first second (Some k) =
    if is_same_as k first || is_same_as k second then [] else line_of k ++ codes "\n"

abbrev pub param_line : Option ParamRecord → Octets
param_line None = []
param_line (Some param) = nsec3param_line param ++ codes "\n"

-- the lines of these records, each once, and then, if there are any, of the NSEC3PARAM record
abbrev pub records_text : Option ParamRecord → Option AnyLink → Option AnyLink → Option AnyLink
    → Octets
records_text param m c w =
    line_once None None m ++ line_once None m c ++ line_once m c w
    ++ (if is_some m || is_some c || is_some w then param_line param else [])

-- the text below the line of an answer
abbrev pub below_text : Shown → Answer → Option Tellings → Octets
below_text shown answer None = []
below_text shows.Answer answer (Some t) = []
below_text shows.Why answer (Some t) =
    told_line t.matched ++ told_line t.closer ++ told_line t.wildcard
below_text shows.Records answer (Some t) =
    records_text t.param (matched_part (needs_of answer) t.matched) (listed_of true t.closer)
    (listed_of (needs_wildcard_record answer) t.wildcard)
