use Rattle.std.proofs.{Common.{◌≡◌, ℕ, ◌+◌, ◌≤◌, ◌<◌, ◌-◌, zero, suc, [], ◌∷◌, drop, length, sym, ap, ◌∙◌, subst, arith}, lemmas.Grind.common_steps}
use Rattle.std.specs.List.{AllByRecursion}
use Rattle.domain_octets.specs.Octets.{Octets}
use Rattle.domain_names.{specs.{Name.{IsLabel, IsName, wire_of, last_labels, Name}, Wire.{labels_of, IsWire}}, proofs.WireLemmas.IsWire-wire_of}
use Rattle.domain_names.proofs.WireLemmas.{labels_of-wire_of}
use Rattle.domain_answer.{specs.ZoneAnswer.{asterisk, wildcard_below}, proofs.wildcard.wildcard_below.{Given.Over, Goals.After-as_wire}}
use Rattle.domain_answer.proofs.wildcard.wildcard_below.Goals as goal

-- each label that is dropped has a length and one octet at least
wire_drop : (n : ℕ) (x : Name) → AllByRecursion IsLabel x → n ≤ length x → length (wire_of (drop n x)) + (n + n) ≤ length (wire_of x)
wire_drop zero x all h = omega arith
wire_drop (suc n) [] all h = absurd (omega arith)
wire_drop (suc n) (l ∷ x) all h = grind (arith, common_steps, (wire_drop n x all.1 (omega arith)))

-- the octets of the wildcard below such labels, which have the octets w
record IsWildcardWire (x : Name) (n : ℕ) (w : Octets) : Type 0 where
  fits : 2 + length w ≤ 255
  wire : IsWire (1 ∷ 42 ∷ w)
  labels : labels_of (1 ∷ 42 ∷ w) ≡ wildcard_below (last_labels n x)

wildcard_wire : (x : Name) (n : ℕ) (whole w : Octets) → IsWire whole → labels_of whole ≡ x → IsWire w → labels_of w ≡ last_labels n x
    → n < length x → IsWildcardWire x n w
wildcard_wire x n whole w valid of_whole above of_above less =
    let name : IsName x = subst IsName of_whole valid.valid in
    let labels : IsName (last_labels n x) = subst IsName of_above above.valid in
    let spelled : w ≡ wire_of (last_labels n x) = above.spelled ∙ ap wire_of of_above in
    let shorter = wire_drop (length x - n) x name.of_labels (omega arith) in
    let same = ap length spelled in
    let long : length (wire_of (last_labels n x)) + 2 ≤ 255 = omega (arith, name.fits) in
    let asterisk_label : IsLabel asterisk = grind (arith, common_steps) in
    let wildcard : IsName (wildcard_below (last_labels n x)) = record { of_labels = (asterisk_label, labels.of_labels); fits = omega arith } in
    let octets : wire_of (wildcard_below (last_labels n x)) ≡ 1 ∷ 42 ∷ w = ap (λ v. 1 ∷ 42 ∷ v) (sym spelled) in
    record {
      fits = omega arith;
      wire = subst IsWire octets (IsWire-wire_of (wildcard_below (last_labels n x)) wildcard);
      labels = ap labels_of (sym octets) ∙ labels_of-wire_of (wildcard_below (last_labels n x)) wildcard;
    }

-- the octets that are written are those of a name
made : (g : Over) (c : After-as_wire g) → IsWildcardWire (g.M.ToName.labels c.args.name.now) c.args.count c.as_wire.result.now
made g c = grind (arith, common_steps, wildcard_wire)

pub write_wildcard-requires : goal.write_wildcard-requires
write_wildcard-requires g c = omega (arith, (made g (goal.at.write_wildcard-requires g c).After-as_wire).fits, c.requires.room)

pub over-requires : goal.over-requires
over-requires g c = subst IsWire (sym c.write_wildcard.ensures) (made g (goal.at.over-requires g c).After-as_wire).wire

pub returns : goal.returns
returns g c = c.over.ensures ∙ ap labels_of c.write_wildcard.ensures ∙ (made g (goal.at.returns g c).After-as_wire).labels
