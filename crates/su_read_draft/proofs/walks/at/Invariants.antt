use Rattle.std.proofs.Common.{◌≡◌, Ok, drop}
use Rattle.su_bytes.specs.declared.file_ids.FileId.{FileId}
use Rattle.su_draft.specs.Walk.{root, walk}
use Rattle.su_reading.specs.Reading.{Finds}
use Rattle.su_read_draft.proofs.walks.at.Given as goal

abbrev pub invariant-loop-name : goal.invariant-loop-name
invariant-loop-name g l = Finds {A = FileId} g.R.TreeReader.shows g.R.TreeReader.fails g.R.TreeReader.follows l.fn.reader l.reader (Ok l.file) (λ T file. walk T file (drop l.name-index l.names) ≡ walk T root l.names)
