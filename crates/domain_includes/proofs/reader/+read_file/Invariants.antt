use Rattle.std.proofs.Common.{◌≡◌, length}
use Rattle.domain_includes.proofs.FilesLemmas.{Passed}
use Rattle.domain_includes.proofs.reader.+read_file.Given as goal

abbrev pub decreases-read_file : goal.decreases-read_file
decreases-read_file g l = l.depth

-- what is left of the file decides on all of it, after the records so far
abbrev pub invariant-items : goal.invariant-items
invariant-items g l = record {
  passed : Passed (g.F.FileSource.gives l.files) g.S.RecordSink.takes l.depth l.path l.reader.file l.fn.reader.state l.fn.reader.left l.fn.sink
      l.reader.state l.reader.left l.sink;
  file : l.reader.file ≡ l.fn.reader.file;
}

abbrev pub decreases-items : goal.decreases-items
decreases-items g l = length l.reader.left
