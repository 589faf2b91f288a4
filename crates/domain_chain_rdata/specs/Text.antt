-- The data of chains as text, and in the pieces of a zone file.
use Rattle.std.specs.{Prelude.{◌≡◌, ℕ, List, [], ◌∷◌, ◌++◌, codes, Option}, Fmt.decimal}
use Rattle.domain_octets.specs.{Text.{PieceText, token, opens, closes, comment}, Octets.Octets}
use Rattle.domain_names.specs.{Text.{ScanFault, IsOfTokens, NameTextFault, NameText, name_text}, Name.{Tokens, Name}}
use Rattle.domain_base.specs.{Scan.{OneToken, RefusesToken, Refusal, Grammar}, Types.Rtypes}
use Rattle.domain_bitmap.specs.{Bitmap.bitmap_octets, Blocks.types_of, Pieces.{type_pieces, salt_pieces}, Text.{TypeTexts, RefusesTypes}}
use Rattle.domain_bitmap.specs.Text.{is_among, SaltText, salt_text, OwnerHashText, SaltTokenFault, CountedFault, spaced_types}
use Rattle.domain_fields.specs.{Layout.Values, Scan.{Both, RefusesBoth, Scans, Refuses}}
use Rattle.domain_chain_rdata.specs.Rdata.{nsec_layout, hash_numbers, nsec3param_layout, hash_fields, nsec3_layout, opt_out_comment}
use Rattle.domain_codecs.specs.{Base32.base32_upper, declared.codec.Codec.TheVariants.Base32Hex}

-- ---- NSEC data as tokens and as pieces of a zone file

-- all tokens are the types of a bitmap, one type a token
pub record BitmapText (old : Tokens) (octets : Octets) (new : Tokens) : Type 0 where
  pub types : Rtypes
  pub spelled : TypeTexts old types
  pub built : octets ≡ bitmap_octets (is_among types)
  pub all : new ≡ []

-- the tokens are a name, and then types to the end, one type a token (RFC 4034, section 4.2)
abbrev pub NsecText : Grammar (Values nsec_layout)
NsecText = Both (OneToken NameText) BitmapText

-- the first token that is rejected: that of the name, if names have the first limit, or that of a
-- type, if bitmaps have the second
abbrev pub RefusesNsec : Option ℕ → Option ℕ → Refusal
RefusesNsec names bitmaps =
    RefusesBoth (OneToken NameText) (RefusesToken (NameTextFault names)) (RefusesTypes bitmaps)

-- a reason that is neither lack of room nor of memory, for a name or for a bitmap
abbrev pub IsOfNsec : Option ℕ → Option ℕ → ScanFault → Type 0
IsOfNsec names bitmaps fault = IsOfTokens names fault × IsOfTokens bitmaps fault

-- a block of the next name with its last dot and a token for each type
abbrev pub nsec_pieces : Name → Octets → List PieceText
nsec_pieces labels octets =
    opens ∷ token (name_text labels ++ codes ".") ∷ (type_pieces (types_of octets) ++ closes ∷ [])

-- ---- the parameters of the hashes of names as text (RFC 5155, section 4.3), and in the pieces of a
-- zone file

-- the tokens begin with three numbers and a salt, and the other tokens are left
abbrev pub Nsec3paramText : Grammar (Values nsec3param_layout)
Nsec3paramText = Both (Scans hash_numbers) (OneToken SaltText)

-- the first of these tokens that is rejected, if salts have this limit
abbrev pub RefusesNsec3param : Option ℕ → Refusal
RefusesNsec3param limit =
    RefusesBoth (Scans hash_numbers) (Refuses limit hash_numbers)
    (RefusesToken (SaltTokenFault limit))

-- the numbers separated by single spaces
unfoldable pub hash_numbers_text : Values hash_numbers → Octets
hash_numbers_text v = decimal v.0 ++ codes " " ++ decimal v.1.0 ++ codes " " ++ decimal v.1.1

-- all fields separated by single spaces
abbrev pub nsec3param_text : Values nsec3param_layout → Octets
nsec3param_text v = hash_numbers_text v.0 ++ codes " " ++ salt_text v.1

-- the pieces of the numbers, with this comment for the flags
abbrev pub number_pieces : Octets → Values hash_numbers → List PieceText
number_pieces flags_comment v =
    token (decimal v.0) ∷ token (decimal v.1.0) ∷ comment flags_comment ∷ token (decimal v.1.1)
    ∷ comment (codes "iterations") ∷ []

abbrev pub nsec3param_pieces : Values nsec3param_layout → List PieceText
nsec3param_pieces v =
    opens ∷ (number_pieces (codes "flags") v.0 ++ (salt_pieces v.1 ++ closes ∷ []))

-- ---- NSEC3 data as text (RFC 5155, section 3.3), and in the pieces of a zone file

-- the parameters, and a hash in Base 32 hex
abbrev pub HashText : Grammar (Values hash_fields)
HashText = Both Nsec3paramText (OneToken OwnerHashText)

abbrev pub RefusesHash : Option ℕ → Refusal
RefusesHash limit =
    RefusesBoth Nsec3paramText (RefusesNsec3param limit)
    (RefusesToken (CountedFault Base32Hex (codes "illegal owner name hash") limit))

-- the parameters and a hash, and then types to the end
abbrev pub Nsec3Text : Grammar (Values nsec3_layout)
Nsec3Text = Both HashText BitmapText

-- the first token that is rejected, if salts, hashes and bitmaps have this limit
abbrev pub RefusesNsec3 : Option ℕ → Refusal
RefusesNsec3 limit = RefusesBoth HashText (RefusesHash limit) (RefusesTypes limit)

-- the parameters, with a space after each
abbrev pub params_before_hash : Values hash_numbers → Octets → Octets
params_before_hash numbers salt =
    hash_numbers_text numbers ++ codes " " ++ salt_text salt ++ codes " "

-- the fields separated by single spaces, with none after the hash if there are no types
abbrev pub nsec3_text : Values nsec3_layout → Octets
nsec3_text v =
    params_before_hash v.0.0.0 v.0.0.1 ++ base32_upper v.0.1 ++ spaced_types (types_of v.1)

abbrev pub nsec3_pieces : Values nsec3_layout → List PieceText
nsec3_pieces v =
    let numbers = v.0.0.0 in
    opens ∷ (number_pieces (opt_out_comment numbers.1.0) numbers
    ++ (salt_pieces v.0.0.1
    ++ (token (base32_upper v.0.1) ∷ (type_pieces (types_of v.1) ++ closes ∷ []))))
