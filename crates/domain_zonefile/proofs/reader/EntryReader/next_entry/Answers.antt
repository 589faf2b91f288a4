use Rattle.std.proofs.Common.{arith, ◌∙◌, sym, []}
use Rattle.domain_zonefile.proofs.EntryLemmas.{found_fault, found_entry, found_blank, next_entry_past, next_fault_past, items_none}
use Rattle.domain_zonefile.proofs.reader.EntryReader.next_entry.Goals as goal

pub invariant_of-self-in-Faulty : goal.invariant_of-self-in-Faulty
invariant_of-self-in-Faulty c =
    let is = rw c.in-Faulty.is at c.in_ok-fault.ensures in
    (next_fault_past c.lines.self-inside.file.now c.lines.self-inside.next c.in-Faulty.fault c.in-Faulty.next [] c.lines-test.true is, c.lines.invariant.seen)

pub returns-in-Faulty-clause-found : goal.returns-in-Faulty-clause-found
returns-in-Faulty-clause-found c =
    let is = rw c.in-Faulty.is at c.in_ok-fault.ensures in (
      sym c.lines.invariant.left ∙ found_fault c.lines.self-inside.file.now c.lines.self-inside.next c.in-Faulty.fault c.in-Faulty.next []
          c.lines-test.true is,
      c.clear.ensures,
    )

pub invariant_of-self-then-not-is_empty : goal.invariant_of-self-then-not-is_empty
invariant_of-self-then-not-is_empty c =
    let is = rw c.in-Entry.is at c.in_ok-fault.ensures in
    ((next_entry_past c.lines.self-inside.file.now c.lines.self-inside.next c.in-Entry.next _ c.lines-test.true is).1, c.lines.invariant.seen)

pub returns-then-not-is_empty-clause-found : goal.returns-then-not-is_empty-clause-found
returns-then-not-is_empty-clause-found c =
    let is = rw c.in-Entry.is at c.in_ok-fault.ensures in
    sym c.lines.invariant.left
    ∙ found_entry c.lines.self-inside.file.now c.lines.self-inside.next c.in-Entry.next _ _ c.lines-test.true is c.if-not-is_empty.ensures
    c.begins_blank.ensures

pub lines-smaller : goal.lines-smaller
lines-smaller c =
    let is = rw c.in-Entry.is at c.in_ok-fault.ensures in
    let past = next_entry_past c.lines.self-inside.file.now c.lines.self-inside.next c.in-Entry.next _ c.lines-test.true is in
    omega (arith, past.0, past.1)

pub lines-preserved : goal.lines-preserved
lines-preserved c =
    let is = rw c.in-Entry.is at c.in_ok-fault.ensures in
    record {
      file = c.lines.invariant.file;
      left = sym (found_blank c.lines.self-inside.file.now c.lines.self-inside.next c.in-Entry.next _ c.lines-test.true is c.if-not-is_empty.ensures)
          ∙ c.lines.invariant.left;
      within = (next_entry_past c.lines.self-inside.file.now c.lines.self-inside.next c.in-Entry.next _ c.lines-test.true is).1;
      seen = c.lines.invariant.seen;
    }

pub returns-clause-found : goal.returns-clause-found
returns-clause-found c =
    let none = items_none c.lines.self-inside.file.now c.lines.self-inside.next c.lines-test.false in
    (sym c.lines.invariant.left ∙ none, none, c.clear-2.ensures)
