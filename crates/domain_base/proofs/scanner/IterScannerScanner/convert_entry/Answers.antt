use Rattle.std.proofs.{Common.sym, lemmas.List.append-nil}
use Rattle.domain_base.proofs.scanner.IterScannerScanner.convert_entry.Goals as goal

pub returns-clause-end : goal.returns-clause-end
returns-clause-end g c = record { front = c.args.self.now; joined = sym (append-nil c.args.self.now) }
