-- The subcommand that the first argument names.
use Rattle.std.specs.{Prelude.{◌≡◌, ◌≢◌, ◌++◌, [], ◌∷◌, Bool, false, codes, if◌then◌else◌}, Str.bytes_eq}
use Rattle.domain_names.specs.Name.{Token, Tokens}
use Rattle.denial_commands.specs.declared.command.Subcommand.{Subcommand, TheVariants.{Denial, Judge, Answer, Lint, Zone}}

-- the word names this subcommand; one that names no other is the specification's
abbrev pub IsSubcommand : Token → Subcommand → Type 0
IsSubcommand word Judge = word ≡ codes "judge"
IsSubcommand word Answer = word ≡ codes "answer"
IsSubcommand word Lint = word ≡ codes "lint"
IsSubcommand word Zone = word ≡ codes "zone"
IsSubcommand word Denial =
    (word ≢ codes "judge") × (word ≢ codes "answer") × (word ≢ codes "lint")
    × (word ≢ codes "zone")

-- the words begin with `nsec3`
abbrev pub names_nsec3 : Tokens → Bool
names_nsec3 [] = false
names_nsec3 (kind ∷ more) = bytes_eq kind (codes "nsec3")

-- the options of `judge` that `answer` stands for: print the records, and hash those of an NSEC3
-- chain with any number of iterations
abbrev pub answer_options : Bool → Tokens
answer_options is_nsec3 =
    if is_nsec3 then codes "--limit" ∷ codes "65535" ∷ codes "--records" ∷ []
    else codes "--records" ∷ []

-- the arguments of `judge` that these of `answer` stand for
abbrev pub answer_words : Tokens → Tokens
answer_words words = words ++ answer_options (names_nsec3 words)
