-- The arguments that ask for a text.
use Rattle.std.specs.Prelude.{◌≡◌, ◌⊎◌, [], ◌∷◌, codes}
use Rattle.domain_names.specs.Name.{Token, Tokens}

-- the word alone asks for the text on the program, or for its version
abbrev pub IsTextOption : Token → Type 0
IsTextOption word =
    ((word ≡ codes "--help") ⊎ (word ≡ codes "-h"))
    ⊎ ((word ≡ codes "--version") ⊎ (word ≡ codes "-V"))

-- the word names a command
abbrev pub IsCommandName : Token → Type 0
IsCommandName word =
    ((word ≡ codes "nsec") ⊎ (word ≡ codes "nsec3") ⊎ (word ≡ codes "check"))
    ⊎ ((word ≡ codes "judge") ⊎ (word ≡ codes "answer"))
    ⊎ ((word ≡ codes "lint") ⊎ (word ≡ codes "zone"))

-- the arguments ask for a text
abbrev pub AsksForText : Tokens → Type 0
AsksForText [] = ⊥
AsksForText (word ∷ []) = IsTextOption word
AsksForText (word ∷ option ∷ []) = (option ≡ codes "--help") × IsCommandName word
AsksForText (word ∷ option ∷ other ∷ more) = ⊥
