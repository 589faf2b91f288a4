use Rattle.std.{proofs.Common.take, specs.List.AllZip}
use Rattle.domain_records.proofs.sorted.clone_all.Given as goal

-- the copies so far are of the items so far
abbrev pub invariant-loop-item : goal.invariant-loop-item
invariant-loop-item g l = AllZip g.T.TryClone.is_clone (take l.item-index l.items) l.copies.items
