-- Where the arguments say that the input is.
use Rattle.std.specs.{Prelude.{◌≡◌, ◌+◌, ◌<◌, ◌≤◌, ◌||◌, ℕ, [], ◌∷◌, Bool, Option, Some, None, codes, get_or, length, nat_lt, if◌then◌else◌}, Str.bytes_eq}
use Rattle.domain_names.specs.Name.{Token, Tokens}

-- the word at a place, or one that is none
abbrev pub word_at : Tokens → ℕ → Token
word_at words place = get_or words place []

-- the word at a place is this one
abbrev pub word_is : Tokens → ℕ → Token → Bool
word_is words place text = bytes_eq (word_at words place) text

-- one of two words is this one
abbrev pub is_one_of : Token → Token → Token → Bool
is_one_of word first second = bytes_eq word first || bytes_eq word second

-- how many words stand before `--zone` at least: the name of the command, and the arguments that it
-- must have
abbrev pub least_of : Token → Option ℕ
least_of word =
    if is_one_of word (codes "nsec") (codes "lint") then Some 2
    else if bytes_eq word (codes "nsec3") then Some 4
    else if bytes_eq word (codes "check") || is_one_of word (codes "judge") (codes "answer") then Some 5
    else None

abbrev pub least_before : Tokens → Option ℕ
least_before [] = None
least_before (word ∷ more) = least_of word

-- `--zone` is at this place, and a file behind it
abbrev pub IsZoneFrom : Tokens → Option ℕ → ℕ → Type 0
IsZoneFrom words None at = ⊥
IsZoneFrom words (Some least) at =
    (least ≤ at) × (at + 1 < length words) × (word_at words at ≡ codes "--zone")

abbrev pub IsZoneAt : Tokens → ℕ → Type 0
IsZoneAt words at = IsZoneFrom words (least_before words) at

-- how many words each command takes, with its name
abbrev pub taken_with_limit : Tokens → ℕ → ℕ
taken_with_limit words count =
    if word_is words count (codes "--why") || word_is words count (codes "--records") then count + 1
    else count

abbrev pub taken_with_labels : Tokens → ℕ → ℕ
taken_with_labels words count =
    taken_with_limit words (if word_is words count (codes "--limit") then count + 2 else count)

abbrev pub taken_by_judge : Tokens → ℕ
taken_by_judge words =
    taken_with_labels words (if word_is words 5 (codes "--labels") then 7 else 5)

abbrev pub taken_by : Token → Tokens → Option ℕ
taken_by word words =
    if bytes_eq word (codes "nsec") then Some 2
    else if bytes_eq word (codes "nsec3") then Some (if word_is words 4 (codes "optout") then 5 else 4)
    else if is_one_of word (codes "check") (codes "answer") then Some 5
    else if bytes_eq word (codes "judge") then Some (taken_by_judge words)
    else if bytes_eq word (codes "lint") then Some (if nat_lt (length words) 4 then 2 else 4)
    else if bytes_eq word (codes "zone") then Some (if word_is words 2 (codes "unsigned") then 3 else 2)
    else None

abbrev pub taken : Tokens → Option ℕ
taken [] = None
taken (word ∷ more) = taken_by word (word ∷ more)

-- there is one word more
abbrev pub HasMore : Tokens → Option ℕ → Type 0
HasMore words None = ⊥
HasMore words (Some count) = length words ≡ count + 1

abbrev pub HasExtraWord : Tokens → Type 0
HasExtraWord words = HasMore words (taken words)
