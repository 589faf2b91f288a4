-- The fields of an entry before its data: [OWNER] [TTL] [CLASS] TYPE DATA, or CLASS before TTL
-- (RFC 1035, section 5.1).
use Rattle.std.specs.Prelude.{ℕ, List, [], ◌∷◌, Option, Some, None, Result, Ok, Err, if◌then◌else◌, drop}
use Rattle.domain_types.specs.Reading.{TokenText}
use Rattle.domain_types.specs.Ttls.{ttl_text}
use Rattle.domain_zonefile.specs.ZoneClasses.{class_of}
use Rattle.domain_types.specs.declared.ttl.TtlText.{TtlText, TheVariants.{NoTtl, TooLarge, Seconds}}
use Rattle.domain_zonefile.specs.declared.fields.{Prefix.Prefix, LargeTtl.LargeTtl}

-- a token as a TTL: only an unquoted one is
abbrev pub ttl_field : TokenText → TtlText
ttl_field token = if token.is_quoted then NoTtl else ttl_text token.octets

-- a token as a class: only an unquoted one is
abbrev pub class_field : TokenText → Option ℕ
class_field token = if token.is_quoted then None else class_of token.octets

-- a TTL was read: a class may follow
abbrev pub then_class : ℕ → Option ℕ → Prefix
then_class ttl None = record { ttl = Some ttl; class = None; count = 1 }
then_class ttl (Some class) = record { ttl = Some ttl; class = Some class; count = 2 }

-- a class was read: a TTL may follow
abbrev pub then_ttl : ℕ → TtlText → Result Prefix LargeTtl
then_ttl class NoTtl = Ok (record { ttl = None; class = Some class; count = 1 })
then_ttl class TooLarge = Err (record { token = 1 })
then_ttl class (Seconds ttl) = Ok (record { ttl = Some ttl; class = Some class; count = 2 })

-- the first of these tokens as a class, or as a TTL
abbrev pub first_class : List TokenText → Option ℕ
first_class [] = None
first_class (token ∷ tokens) = class_field token

abbrev pub first_ttl : List TokenText → TtlText
first_ttl [] = NoTtl
first_ttl (token ∷ tokens) = ttl_field token

-- no TTL is first: a class may be
abbrev pub class_first : Option ℕ → List TokenText → Result Prefix LargeTtl
class_first None rest = Ok (record { ttl = None; class = None; count = 0 })
class_first (Some class) rest = then_ttl class (first_ttl rest)

-- what is first, as a TTL
abbrev pub ttl_first : TtlText → Option ℕ → List TokenText → Result Prefix LargeTtl
ttl_first NoTtl class rest = class_first class rest
ttl_first TooLarge class rest = Err (record { token = 0 })
ttl_first (Seconds ttl) class rest = Ok (then_class ttl (first_class rest))

-- the TTL and the class at the front of these tokens, in either order
abbrev pub prefix_of : List TokenText → Result Prefix LargeTtl
prefix_of tokens = ttl_first (first_ttl tokens) (first_class tokens) (drop 1 tokens)
