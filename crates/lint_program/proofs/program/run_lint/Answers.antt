use Rattle.std.proofs.{lemmas.{Grind.common_steps, List.length-map}, Common.{◌≡◌, ◌∙◌, ◌++◌, ap, arith, inl, inr, map, refl, string_bytes}}
use Rattle.std.{proofs.Common.{ℕ, List, Option}, specs.{Str.Lines.lines, Io.KnownBytes.Appends}}
use Rattle.domain_names.specs.Name.{Name, Tokens}
use Rattle.domain_borrowed.specs.Data.{RawRecord}
use Rattle.domain_nsec3.specs.View.{HasherAnswer}
use Rattle.domain_octets.specs.Octets.{Octets}
use Rattle.domain_hasher.specs.declared.error.Nsec3HashError.TheVariants as hash_error
use Rattle.domain_groups.specs.declared.error.SigningError.TheVariants as signing_error
use Rattle.denial_program.{specs.{Command.Params, declared.fault.DenialFault.TheVariants.{OutOfMemory as Memory, Signing}}, proofs.LineLemmas.known_so}
use Rattle.domain_alike.specs.Alike.{pair_of}
use Rattle.lint_program.specs.{Alike.{alike_text, IsRefusalBy}, Command.{AsksToLint, IsHashedCommand}, Hashed.{nsec3_fault_text, outcome_with}, Notes.mark_of}
use Rattle.lint_program.{specs.Report.{plain_outcome, IsLintRefused, IsReport}, proofs.FaultLemmas.plain_known}
use Rattle.lint_program.specs.declared.reading.{BadLine.BadLine, Place.Place}
use Rattle.lint_program.proofs.program.run_lint.Goals as goal

-- where a hash is refused the words ask for parameters
hashed_command : (answers : HasherAnswer) (words : Tokens) (given : List RawRecord) (apex : Name) (o : Option Params) (n : ℕ)
    → AsksToLint words apex o → IsRefusalBy answers given apex o n → IsHashedCommand words
hashed_command answers words given apex o n asks refusal = grind (arith, common_steps)

pub returns-in-Ok-clause-ok : goal.returns-in-Ok-clause-ok
returns-in-Ok-clause-ok g c =
    let answers = g.H.Nsec3Hasher.answer c.args.hasher.now in
    let asked = c.in_ok-apex.field-0 in
    let read = c.in_ok-lines.lines in
    let written = c.in-Ok.ensures in
    let bad = map (λ (b : BadLine). b.number) read.bad.items in
    let marks = map mark_of c.in_ok-notes.notes.items in
    let hashed = c.in_ok-faults.hashed in
    let pairs = map pair_of hashed.pairs.items in
    known_so _
    (λ bytes. (x : Name) × (o : Option Params) × (text : Octets) × AsksToLint (map string_bytes c.args.words.now) x o
    × IsReport answers (lines bytes) x o c.outcome_with.result text
    × Appends (g.W.Write.contents c.args.output.now) (g.W.Write.contents c.write_report.new.output) text) _
    (λ bytes linted. (
      asked.apex,
      asked.parameters,
      ((written.0 ++ written.1) ++ nsec3_fault_text hashed.fault) ++ alike_text pairs,
      c.in_ok-apex.ensures.ok,
      record {
        bad = bad;
        numbers = map (λ (p : Place). p.number) read.places.items;
        records = read.records.items;
        marks = marks;
        zone_faults = c.in_ok-faults.faults;
        nsec3_fault = hashed.fault;
        pairs = pairs;
        faults = written.0;
        notes = written.1;
        plain = plain_outcome bad c.in_ok-faults.faults marks;
        are = linted;
        told = rw c.deref.ensures.value at written.2;
        deserved = rw (length-map read.bad.items (λ (b : BadLine). b.number)) c.in_ok-notes.ensures;
        found = c.in_ok-faults.ensures.faults;
        noted = rw c.deref-2.ensures.value at written.3;
        hashed = c.in_ok-faults.ensures.fault;
        alike = c.in_ok-faults.ensures.alike;
        is = refl;
        known = plain_known read.records.items asked.apex c.in_ok-faults.faults bad marks c.in_ok-faults.ensures.faults;
        decided = refl;
        tells = c.outcome_with.ensures ∙ ap (outcome_with pairs hashed.fault)
            (rw (c.deref-in-Ok.ensures.value, c.deref-in-Ok-2.ensures.value) at c.plain_outcome.ensures);
      },
      written.4,
    ))
    c.in_ok-lines.ensures.ok

pub returns-in_err-faults-clause-usage : goal.returns-in_err-faults-clause-usage
returns-in_err-faults-clause-usage g c =
    grind (arith, common_steps, hashed_command, c.from_residual-in_err-faults.ensures.1, c.in_err-faults.ensures.err, c.in_ok-apex.ensures.ok)

pub returns-in_err-faults-clause-refused : goal.returns-in_err-faults-clause-refused
returns-in_err-faults-clause-refused g c = λ error is.
    let read = c.in_ok-lines.lines in
    let same : Signing error ≡ c.in_err-faults.field-0.0 = grind (arith, common_steps, c.from_residual-in_err-faults.ensures.1, is) in
    elim c.in_err-faults.ensures.err [
      | inl none ↦ absurd (let other : Signing error ≡ Memory = same ∙ none in cc)
      | inr r ↦
          let told : Signing error ≡ Signing (signing_error.Nsec3HashingError (hash_error.Hasher r.0)) = same ∙ r.1 in
          known_so _ (λ bytes. IsLintRefused (g.H.Nsec3Hasher.answer c.args.hasher.now) (map string_bytes c.args.words.now) (lines bytes) error) _
          (λ bytes linted. record {
            apex = c.in_ok-apex.field-0.apex;
            p = c.in_ok-apex.field-0.parameters;
            asks = c.in_ok-apex.ensures.ok;
            bad = map (λ (b : BadLine). b.number) read.bad.items;
            numbers = map (λ (p : Place). p.number) read.places.items;
            records = read.records.items;
            are = linted;
            number = r.0;
            is = cc;
            refusal = r.2;
          })
          c.in_ok-lines.ensures.ok
    ]
