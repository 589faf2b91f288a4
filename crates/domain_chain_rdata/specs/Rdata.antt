-- The data of chains: their fields in wire order, and the Opt-Out flag.
use Rattle.std.{proofs.Common.{bytes_eq, refl}, specs.{List.flat_map, Ordering.{on, eq_of_both}, Hash.Alike, Cmp.{first_so, second_so}}}
use Rattle.std.specs.{Cmp.Lexicographic.bytes_decides, Prelude.{ℕ, Bool, bit_or, codes, if◌then◌else◌}}
use Rattle.domain_octets.specs.Octets.{Octets}
use Rattle.domain_fields.specs.Layout.{octet, short, name, spelled_name, counted, rest, types, Layout, one, ◌▸◌, Values, octets_of, canonical_of, has_flag}
use Rattle.domain_chain_rdata.specs.declared.{nsec.Nsec.Nsec, nsec3.Nsec3.Nsec3, nsec3param.Nsec3param.Nsec3param}
use Rattle.domain_names.specs.{Name.{Name, same_name}, Laws.same_name_same}
use Rattle.std.specs.Hash as fed

-- ---- the fields of record data, in wire order

-- the next name, whose case the canonical form keeps (RFC 6840, section 5.1), and the type bitmap
-- (RFC 4034, section 4.1)
abbrev pub nsec_layout : Layout
nsec_layout = one spelled_name ▸ one types

abbrev pub nsec_values : {O N : Type 0} → (N → Name) → Nsec O N → Values nsec_layout
nsec_values labels d = (labels d.next_name, d.types)

-- the fields that are hashed: the next name in lower case, since data that differ only in its case
-- are equal
abbrev pub nsec_hashed : Layout
nsec_hashed = one name ▸ one types

-- hash algorithm, flags and iterations
abbrev pub hash_numbers : Layout
hash_numbers = one octet ▸ one octet ▸ one short

-- these numbers, and the salt (RFC 5155, section 4.2)
abbrev pub nsec3param_layout : Layout
nsec3param_layout = hash_numbers ▸ one counted

abbrev pub nsec3param_values : {O : Type 0} → Nsec3param O → Values nsec3param_layout
nsec3param_values d = ((d.hash_algorithm, (d.flags, d.iterations)), d.salt)

abbrev pub nsec3param_octets : {O : Type 0} → Nsec3param O → Octets
nsec3param_octets d = octets_of nsec3param_layout (nsec3param_values d)

-- the octets without the length of the salt: their order compares salts lexicographically
abbrev pub uncounted : Layout
uncounted = hash_numbers ▸ one rest

abbrev pub uncounted_octets : {O : Type 0} → Nsec3param O → Octets
uncounted_octets d = octets_of uncounted (nsec3param_values d)

-- the parameters and the next hash (RFC 5155, section 3.2)
abbrev pub hash_fields : Layout
hash_fields = nsec3param_layout ▸ one counted

-- these fields, and the type bitmap
abbrev pub nsec3_layout : Layout
nsec3_layout = hash_fields ▸ one types

abbrev pub nsec3_values : {O : Type 0} → Nsec3 O → Values nsec3_layout
nsec3_values d = ((((d.hash_algorithm, (d.flags, d.iterations)), d.salt), d.next_owner), d.types)

abbrev pub nsec3_octets : {O : Type 0} → Nsec3 O → Octets
nsec3_octets d = octets_of nsec3_layout (nsec3_values d)

-- ---- laws that the impls of comparisons use

-- data with the same names and equal octets feed a hasher the same
pub nsec_fed : {D : Type 0} (labels : D → Name) (octets : D → Octets)
    → Alike (eq_of_both (on labels same_name) (on octets bytes_eq))
    (λ d. flat_map fed.u8 (canonical_of nsec_hashed (labels d, octets d)))
nsec_fed labels octets = record {
  fed = λ x y e.
      let names = (same_name_same (labels x) (labels y)).0 (first_so _ _ e) in
      let same = (bytes_decides (octets x) (octets y)).0
      (second_so (same_name (labels x) (labels y)) (bytes_eq (octets x) (octets y)) e) in
      rw names (rw same refl);
}

-- ---- the flag of NSEC3 and NSEC3PARAM data (RFC 5155, section 3.1.2)

-- the Opt-Out flag is set: unsigned delegations may be left out of the chain
abbrev pub is_opt_out : ℕ → Bool
is_opt_out = has_flag 1

abbrev pub with_opt_out : ℕ → ℕ
with_opt_out flags = bit_or flags 1

abbrev pub opt_out_comment : ℕ → Octets
opt_out_comment flags = if is_opt_out flags then codes "flags: opt-out" else codes "flags: <none>"
