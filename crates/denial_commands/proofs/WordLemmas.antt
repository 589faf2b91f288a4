-- The words of a command.
use Rattle.std.proofs.Common.{◌≡◌, ℕ, ◌+◌, ◌-◌, ◌<◌, ◌≤◌, Bool, true, false, List, [], ◌∷◌, ◌++◌, length, map, Some, Result, drop, get_or, take}
use Rattle.std.proofs.Common.{IfErr, Ok, Err, String, Global, arith, ap, refl, subst, string_bytes, codes, ◌∙◌, append_assoc}
use Rattle.std.proofs.lemmas.{Grind.common_steps, List.length-map, Slice.Eq.bytes_eq-Decides}
use Rattle.domain_octets.specs.Octets.{Octets}
use Rattle.domain_names.specs.Name.{Tokens}
use Rattle.domain_includes.specs.Files.{Contents}
use Rattle.lint_program.specs.declared.outcome.Outcome.{Outcome}
use Rattle.denial_commands.specs.{Command.{answer_options, IsSubcommand}, Run.{RunsAs, RunsCommand, Setup}, Zone.{HasNoApex, HasNoApexAs}}
use Rattle.denial_commands.specs.declared.{command.Subcommand.Subcommand, fault.CommandFault.CommandFault}
use Rattle.denial_commands.specs.Source.{least_before, word_is, IsZoneAt, IsZoneFrom}

pub zone_at : (words : List (String Global)) (least at : ℕ) → Some least ≡ least_before (map string_bytes words) → least ≤ at → at < length words - 1
    → word_is (map string_bytes words) at (codes "--zone") ≡ true → IsZoneAt (map string_bytes words) at
zone_at words least at known after within is =
    subst (λ found. IsZoneFrom (map string_bytes words) found at) known
    (after, rw (length-map words string_bytes) (omega (arith, within)), (bytes_eq-Decides _ _).0 is)

-- the options of `answer` for NSEC3, one after another
pub three_more : (is_nsec3 : Bool) (old first second all : Tokens) → is_nsec3 ≡ true → first ≡ old ++ codes "--limit" ∷ []
    → second ≡ first ++ codes "65535" ∷ [] → all ≡ second ++ codes "--records" ∷ [] → all ≡ old ++ answer_options is_nsec3
three_more false old first second all is p q r = absurd (cc)
three_more true old first second all is p q r =
    r ∙ ap (λ t. t ++ codes "--records" ∷ []) (q ∙ ap (λ t. t ++ codes "65535" ∷ []) p) ∙ simp append_assoc refl

rest_of : (x : String Global) (xs : List (String Global)) → take (length (x ∷ xs) - 1) xs ≡ xs
rest_of x xs = grind (arith, common_steps)

-- the first word chooses the row
pub runs_as : {W : Type 0} (gives : Contents) (path : Octets) (words : List (String Global)) (word : String Global) (on : Setup W)
    (result : Result Outcome CommandFault) (subcommand : Subcommand) → 1 ≤ length words → word ≡ get_or words 0 word
    → IsSubcommand (string_bytes word) subcommand
    → RunsAs gives path subcommand (string_bytes word) (map string_bytes (take (length words - 1) (drop 1 words))) on result
    → RunsCommand gives path (map string_bytes words) on result
runs_as gives path [] word on result subcommand some first named run = absurd (omega (arith, some))
runs_as gives path (x ∷ xs) word on result subcommand some first named run = (
  subcommand,
  subst (λ w. IsSubcommand (string_bytes w) subcommand) first named,
  subst (λ ws. RunsAs gives path subcommand (string_bytes x) (map string_bytes ws) on result) (rest_of x xs)
      (subst (λ w. RunsAs gives path subcommand (string_bytes w) (map string_bytes (take (length (x ∷ xs) - 1) xs)) on result) first run),
)

-- the words behind the first name no apex
pub none_as : {X : Type 0} (words : List (String Global)) (word : String Global) (result : Result X CommandFault) (subcommand : Subcommand)
    → 1 ≤ length words → word ≡ get_or words 0 word → IsSubcommand (string_bytes word) subcommand
    → IfErr result (HasNoApexAs subcommand (string_bytes word) (map string_bytes (take (length words - 1) (drop 1 words))))
    → IfErr result (HasNoApex (map string_bytes words))
none_as [] word result subcommand some first named none = absurd (omega (arith, some))
none_as (x ∷ xs) word (Ok found) subcommand some first named none = tt
none_as (x ∷ xs) word (Err fault) subcommand some first named none = (
  subcommand,
  subst (λ w. IsSubcommand (string_bytes w) subcommand) first named,
  subst (λ ws. HasNoApexAs subcommand (string_bytes x) (map string_bytes ws) fault) (rest_of x xs)
      (subst (λ w. HasNoApexAs subcommand (string_bytes w) (map string_bytes (take (length (x ∷ xs) - 1) xs)) fault) first none),
)
