use Rattle.std.proofs.Common.{ap, length, ◌<◌, sym, subst, ◌∙◌, refl}
use Rattle.domain_zonefile.specs.Files.{no_more}
use Rattle.domain_zonefile.proofs.FileLemmas.{Passed, finds_item, finds_less, finds_setting, passed_more, passed_none}
use Rattle.domain_zonefile.proofs.zone_reader.ZoneReader.next_item.Goals as goal

pub entries-init : goal.entries-init
entries-init c = record {
  passed = subst (λ v. Passed v.state v.left c.args.data.now.items c.self.inside.state c.self.inside.entries.left c.args.data.now.items) c.self.view_is
      (passed_none _ _ _);
  file = ap (λ v. v.file) c.self.view_is;
}

pub returns-in-Some-item_of-clause-found : goal.returns-in-Some-item_of-clause-found
returns-in-Some-item_of-clause-found c =
    let finds = rw c.in-Some.is at c.in_ok-found.ensures.found in
    c.entries.invariant.passed.on _ _ _ _ _
    (finds_item _ _ _ c.in-Some.found c.next_entry.new.self _ _ _ finds (rw c.tokens.ensures at c.in-Some-item_of.ensures))

pub entries-smaller : goal.entries-smaller
entries-smaller c = finds_less _ c.in-Some.found c.next_entry.new.self (rw c.in-Some.is at c.in_ok-found.ensures.found)

pub entries-preserved : goal.entries-preserved
entries-preserved c =
    let finds = rw c.in-Some.is at c.in_ok-found.ensures.found in
    record {
      passed = passed_more _ _ _ _ _ _ _ _ _ c.entries.invariant.passed
          (finds_setting _ _ _ c.in-Some.found c.next_entry.new.self _ _ finds (rw c.tokens.ensures at c.in_default-item_of.ensures));
      file = c.in_ok-found.ensures.file ∙ c.entries.invariant.file;
    }

pub returns-clause-found : goal.returns-clause-found
returns-clause-found c =
    let finds = rw c.in_default.is at c.in_ok-found.ensures.found in
    rw (finds.1, finds.2) (c.entries.invariant.passed.on _ _ _ _ _ (rw finds.0 (no_more _ _)))
