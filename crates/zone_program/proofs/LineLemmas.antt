-- The lines of a zone file.
use Rattle.std.proofs.Common.{arith, map, get_or, ◌≤◌, String, Global, ◌≡◌, ◌<◌, ◌++◌, ◌∷◌, length, Bool, true, List, [], refl, sym, ap, ◌∙◌, subst}
use Rattle.std.proofs.lemmas.List.{append_assoc}
use Rattle.std.specs.{Prelude.{codes, string_bytes}, Fmt.decimal}
use Rattle.domain_names.specs.{Name.Name, Text.{NameText, name_text}}
use Rattle.domain_base.specs.Numbers.{class_text, type_text}
use Rattle.domain_plain.specs.Plain.{generic_text}
use Rattle.domain_zonefile.specs.Records.{FileRecord}
use Rattle.zone_program.specs.{Lines.zone_line, Run.AsksForZone}

-- the text of a record, as it is printed, and a line end are its line
pub line_is : (r : FileRecord)
    → (((name_text r.owner ++ 46 ∷ []) ++ (32 ∷ (decimal r.ttl ++ (32 ∷ (class_text r.class ++ (32 ∷ (type_text r.rtype ++ (32 ∷ generic_text r.octets))))))))
    ++ 10 ∷ [])
    ≡ zone_line r
line_is r = simp append_assoc refl

-- two arguments
pub two_words : (words : List (String Global)) (word last : String Global) (apex : Name) (flag : Bool) → 2 ≤ length words → length words < 3
    → word ≡ get_or words 0 word → last ≡ get_or words 1 last → string_bytes last ≡ codes "unsigned" → NameText (string_bytes word) apex → flag ≡ true
    → AsksForZone (map string_bytes words) apex flag
two_words [] word last apex flag low high w l text name set = absurd (omega (arith, low))
two_words (x ∷ []) word last apex flag low high w l text name set = absurd (omega (arith, low))
two_words (x ∷ y ∷ []) word last apex flag low high w l text name set =
    (ap string_bytes (sym l) ∙ text, subst (λ z. NameText (string_bytes z) apex) w name, set)
two_words (x ∷ y ∷ z ∷ zs) word last apex flag low high w l text name set = absurd (omega (arith, high))
