use Rattle.std.proofs.Common.{ℕ, List, ◌++◌, length}
use Rattle.domain_base.specs.Types as rtypes
use Rattle.domain_names.specs.Name.{Name}
use Rattle.domain_nsec.specs.Chain.{Link}
use Rattle.domain_checker.specs.{Reading.HasRead, declared.nsec.NsecCheck.NsecCheck}
use Rattle.domain_borrowed.specs.Data.{nsec_record, IsNsec}
use Rattle.denial_c.{specs.Result.is_of, proofs.AmongLemmas.IsRead}
use Rattle.denial_c.proofs.nsec.hand_in.Given as goal

-- the NSEC records before what is left were handed in, after those that had been
pub record IsHanding (class : ℕ) (octets left : List ℕ) (old new : NsecCheck) : Type 0 where
  pub links : List Link
  pub read : IsRead (is_of rtypes.nsec class) nsec_record IsNsec octets left links
  pub adds : (a x : Name) (t : ℕ) (before : List Link) → HasRead a x t before old → HasRead a x t (before ++ links) new

abbrev pub invariant-records : goal.invariant-records
invariant-records l = IsHanding l.class l.octets l.parser.left l.fn.check l.check

abbrev pub decreases-records : goal.decreases-records
decreases-records l = length l.parser.left
