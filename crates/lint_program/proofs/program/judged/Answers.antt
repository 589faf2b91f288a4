use Rattle.std.proofs.Common.{◌≡◌, ◌⊎◌, ℕ, inl, inr}
use Rattle.domain_octets.proofs.StdLemmas.{if_err_of}
use Rattle.domain_hasher.specs.declared.error.Nsec3HashError.TheVariants as hash_error
use Rattle.domain_groups.specs.declared.error.SigningError.TheVariants as signing_error
use Rattle.denial_program.specs.{Answer.SortsRaw, declared.fault.DenialFault.TheVariants.{OutOfMemory as Memory, Signing}}
use Rattle.lint_program.specs.Alike.{IsRefusalBy}
use Rattle.lint_program.proofs.program.judged.Goals as goal

pub returns-in_err-hashed-clause-err : goal.returns-in_err-hashed-clause-err
returns-in_err-hashed-clause-err g c =
    let records = c.args.records.items in
    let sorts : SortsRaw records c.deref-2.result.now = rw c.deref-2.ensures.value c.in-Ok.ensures.sorts in
    if_err_of
    (λ e. (e ≡ Memory) ⊎ ((n : ℕ) × (e ≡ Signing (signing_error.Nsec3HashingError (hash_error.Hasher n)))
    × IsRefusalBy (g.H.Nsec3Hasher.answer c.args.hasher.now) records c.args.apex.now c.args.parameters n)) _ _ c.from_residual-in_err-hashed.ensures.1
    (elim c.in_err-hashed.ensures.err [ inl m ↦ inl m | inr r ↦ inr (r.0, r.1, r.2 records sorts) ])
