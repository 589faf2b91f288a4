-- NSEC data that are copied, or made over other octets
use Rattle.std.specs.Prelude.{◌≡◌}
use Rattle.domain_chain_rdata.specs.declared.nsec.Nsec.{Nsec}

-- the next name is the same, and the bitmap has the same octets
pub record IsSameNsec {S N O M : Type 0} (is_same_name : N → M → Type 0) (source : Nsec S N)
    (made : Nsec O M) : Type 0 where
  pub next_name : is_same_name source.next_name made.next_name
  pub types : made.types ≡ source.types

-- a copy, in which the next name is a copy
abbrev pub IsNsecClone : {O N : Type 0} → (N → N → Type 0) → Nsec O N → Nsec O N → Type 0
IsNsecClone is_name_clone = IsSameNsec is_name_clone
