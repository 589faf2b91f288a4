-- The command that the arguments of the program spell.
use Rattle.std.specs.Prelude.{◌≡◌, ◌⊎◌, ℕ, [], ◌∷◌, codes, None, Some}
use Rattle.domain_octets.specs.Octets.{Octets}
use Rattle.domain_base.specs.{Numbers.TypeText, Scan.IsNumber}
use Rattle.domain_names.specs.{Text.NameText, Name.{Name, Token, Tokens}}
use Rattle.domain_bitmap.specs.Text.{SaltText}
use Rattle.domain_chain_rdata.specs.declared.nsec3param.Nsec3param.{Nsec3param}
use Rattle.denial_program.specs.declared.command.{Command.{Command, TheVariants.{Chain, CheckNsec, CheckNsec3}}, Question.Question}
use Rattle.denial_program.specs.declared.fault.DenialFault.{DenialFault, TheVariants.{Usage, OutOfMemory}}

-- the parameters of an NSEC3 chain, with the octets of the salt in a vector
abbrev pub Params : Type 0
Params = Nsec3param Octets

-- the arguments spell the command for the NSEC chain of the zone with this apex
pub record AsksForNsec (words : Tokens) (apex : Name) : Type 0 where
  pub word : Token
  pub are : words ≡ codes "nsec" ∷ word ∷ []
  pub names : NameText word apex

-- an optional last argument sets the opt-out flag (RFC 5155, section 3.1.2.1); without it there is
-- no flag
abbrev pub FlagsText : Tokens → ℕ → Type 0
FlagsText [] flags = flags ≡ 0
FlagsText (word ∷ []) flags = (word ≡ codes "optout") × (flags ≡ 1)
FlagsText (word ∷ other ∷ more) flags = ⊥

-- SHA-1, with iterations and a salt as in the presentation format of an NSEC3PARAM record (RFC
-- 5155, sections 4.3 and 11), and with the flags of an optional last argument
pub record Spell (iterations_word salt_word : Token) (last : Tokens) (p : Params) : Type 0 where
  pub algorithm : p.hash_algorithm ≡ 1
  pub iterations : IsNumber 16 iterations_word p.iterations
  pub salt : SaltText salt_word p.salt
  pub flags : FlagsText last p.flags

-- the arguments spell the command for the NSEC3 chain of the zone with this apex, with these
-- parameters
pub record AsksForNsec3 (words : Tokens) (apex : Name) (p : Params) : Type 0 where
  pub apex_word : Token
  pub iterations_word : Token
  pub salt_word : Token
  pub last : Tokens
  pub are : words ≡ codes "nsec3" ∷ apex_word ∷ iterations_word ∷ salt_word ∷ last
  pub names : NameText apex_word apex
  pub parameters : Spell iterations_word salt_word last p

-- the arguments spell an apex, a name and a type
pub record SpellQuestion (apex_word name_word type_word : Token) (q : Question) : Type 0 where
  pub apex : NameText apex_word q.apex
  pub name : NameText name_word q.name
  pub rtype : TypeText type_word q.rtype

-- the arguments spell the command for what records of this kind prove about the question
pub record AsksToCheck (kind : Token) (words : Tokens) (q : Question) : Type 0 where
  pub apex_word : Token
  pub name_word : Token
  pub type_word : Token
  pub are : words ≡ codes "check" ∷ kind ∷ apex_word ∷ name_word ∷ type_word ∷ []
  pub question : SpellQuestion apex_word name_word type_word q

abbrev pub Asks : Tokens → Command → Type 0
Asks words (Chain apex None) = AsksForNsec words apex
Asks words (Chain apex (Some p)) = AsksForNsec3 words apex p
Asks words (CheckNsec q) = AsksToCheck (codes "nsec") words q
Asks words (CheckNsec3 q) = AsksToCheck (codes "nsec3") words q

-- the apex of a command
abbrev pub apex_of : Command → Name
apex_of (Chain apex parameters) = apex
apex_of (CheckNsec q) = q.apex
apex_of (CheckNsec3 q) = q.apex

-- the arguments spell a command for the zone at this apex
abbrev pub AsksAbout : Tokens → Name → Type 0
AsksAbout words apex = (command : Command) × Asks words command × (apex_of command ≡ apex)

abbrev pub IsCommand : Tokens → Type 0
IsCommand words = (command : Command) × Asks words command

abbrev pub IsNoCommand : Tokens → Type 0
IsNoCommand words = (command : Command) → Asks words command → ⊥

-- the arguments are malformed; or there was no memory
abbrev pub IsUsage : Type 0 → DenialFault → Type 0
IsUsage none fault = ((fault ≡ Usage) × none) ⊎ (fault ≡ OutOfMemory)
