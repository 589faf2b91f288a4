use Rattle.std.proofs.{Common.{arith, ◌≡◌, ℕ, List, [], ◌++◌, sym, ◌∙◌, append-nil}, lemmas.Grind.common_steps}
use Rattle.domain_names.specs.{Wire.{Fault, NameFault, WholeNameFault, in_name, trailing}, Name.{wire_of, IsName, Name}}
use Rattle.denial_c.specs.Result.{EncodesName}
use Rattle.denial_c.proofs.nsec.read_name.Goals as goal

no_spelling : ((octets after : List ℕ) (name : Name) (fault : Fault) → IsName name → octets ≡ wire_of name ++ after → NameFault 0 octets fault → ⊥)
    → ((x y : Name) (a b : List ℕ) → IsName x → IsName y → wire_of x ++ a ≡ wire_of y ++ b → (x ≡ y) × (a ≡ b))
    → (octets : List ℕ) (fault : Fault) → WholeNameFault octets fault → (labels : Name) → EncodesName octets labels → ⊥
no_spelling faultless one octets fault (in_name _ _ found) labels s = faultless octets [] labels fault s.valid (s.are ∙ sym (append-nil (wire_of labels))) found
no_spelling faultless one octets fault (trailing other after valid some) labels s = grind (arith, common_steps, (append-nil (wire_of labels)))

pub returns-in-Err-clause-err : goal.returns-in-Err-clause-err
returns-in-Err-clause-err c = grind (arith, common_steps, no_spelling)
