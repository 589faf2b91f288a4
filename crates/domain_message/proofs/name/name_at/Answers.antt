use Rattle.std.proofs.Common.{◌≡◌, ◌++◌, ◌∷◌, [], rules}
use Rattle.domain_octets.proofs.StdLemmas.{if_err_of}
use Rattle.domain_message.{specs.Name.LabelsFault, proofs.NameLemmas.{read_fault, label_inside, named, name_inside}}
use Rattle.domain_message.proofs.name.name_at.Goals as goal

pub returns-in_err-step_at-clause-err : goal.returns-in_err-step_at-clause-err
returns-in_err-step_at-clause-err c = if_err_of (LabelsFault c.args.message.now c.args.at 0) _ _ c.from_residual.ensures.1
    (read_fault _ _ _ _ _ _ c.labels.invariant _ (rw (← c.as_slice.ensures) c.in_err-step_at.ensures.err))

pub returns-in-Root-clause-ok : goal.returns-in-Root-clause-ok
returns-in-Root-clause-ok c =
    let all : c.append_slice.new.self ≡ c.labels.wire ++ 0 ∷ [] = search rules in
    rw c.unwrap_or.ensures (named _ _ _ _ _ _ c.labels.invariant (rw (c.in-Root.is, c.as_slice.ensures) at c.in_ok-step_at.ensures.ok) _ all)

pub returns-in-Root-clause-inside : goal.returns-in-Root-clause-inside
returns-in-Root-clause-inside c =
    rw c.unwrap_or.ensures (name_inside _ _ _ _ _ _ c.labels.invariant (rw (c.in-Root.is, c.as_slice.ensures) at c.in_ok-step_at.ensures.ok))

pub slice_bounds-append_slice-end-in-Label : goal.slice_bounds-append_slice-end-in-Label
slice_bounds-append_slice-end-in-Label c = label_inside _ _ _ _ _ _ c.labels.invariant _ (rw (c.in-Label.is, c.as_slice.ensures) at c.in_ok-step_at.ensures.ok)
