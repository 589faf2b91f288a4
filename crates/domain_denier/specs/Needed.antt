-- The picked records that a response needs, by its answer (RFC 4035, section 3.1.3; RFC 5155, section
-- 7.2).
use Rattle.std.specs.{Prelude.{ℕ, Bool, ◌||◌, not, true, false, List, Option, Some, None, if◌then◌else◌}, Option.option_map}
use Rattle.domain_octets.specs.Octets.{Octets}
use Rattle.domain_base.specs.Types.{ds}
use Rattle.domain_bitmap.specs.Blocks.{contains_type}
use Rattle.domain_nsec.specs.Chain.{Link}
use Rattle.domain_nsec3.specs.Chain.{HashedLink}
use Rattle.domain_answer.specs.{Needs.{needs_of, needs_wildcard_record}, declared.needs.Needs.Needs}
use Rattle.domain_answer.specs.declared.needs.Needs.TheVariants as needs
use Rattle.domain_denier.specs.{Picked.link_at, declared.{nsec.NsecDenial.NsecDenial, nsec3.Nsec3Denial.Nsec3Denial}}

-- there is a record, and it lists DS
abbrev pub lists_ds : Option Octets → Bool
lists_ds None = false
lists_ds (Some bits) = contains_type bits ds

-- the place, if it is wanted
abbrev pub place_if : Bool → Option ℕ → Option ℕ
place_if wanted place = if wanted then place else None

-- the record that matches the name or its closest encloser is needed; that of a zone cut only if it
-- does not list DS
abbrev pub needs_match : Needs → Bool → Bool
needs_match needs.Nothing signed = false
needs_match needs.Cut signed = not signed
needs_match needs.Own signed = true
needs_match needs.Closer signed = false
needs_match needs.Both signed = true

-- the record that covers the name, or with NSEC3 the next closer name, is needed
abbrev pub needs_cover : Needs → Bool
needs_cover needs.Closer = true
needs_cover needs.Both = true
needs_cover _ = false

-- the denial with the places of the needed records alone; one NSEC record tells of the name, whether
-- it matches or covers it
abbrev pub needed : List Link → NsecDenial → NsecDenial
needed links d =
    let signed = lists_ds (option_map (λ k. k.bits) (link_at links d.of_name)) in
    record d {
      of_name =
          place_if (needs_match (needs_of d.answer) signed || needs_cover (needs_of d.answer))
          d.of_name;
      of_wildcard = place_if (needs_wildcard_record d.answer) d.of_wildcard;
    }

abbrev pub hashed_needed : List HashedLink → Nsec3Denial → Nsec3Denial
hashed_needed links d =
    let signed = lists_ds (option_map (λ k. k.bits) (link_at links d.of_encloser)) in
    record d {
      of_encloser = place_if (needs_match (needs_of d.answer) signed) d.of_encloser;
      of_next_closer = place_if (needs_cover (needs_of d.answer)) d.of_next_closer;
      of_wildcard = place_if (needs_wildcard_record d.answer) d.of_wildcard;
    }
