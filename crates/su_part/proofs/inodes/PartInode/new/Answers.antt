use Rattle.std.proofs.Common.{refl}
use Rattle.su_part.proofs.ContentLemmas.{empty_names}
use Rattle.su_part.proofs.inodes.PartInode.new.Goals.{in-File, in-Dir}
use Rattle.su_part.proofs.inodes.PartInode.new.Goals as goal

pub returns-clause-stands : goal.returns-clause-stands
returns-clause-stands c = elim c.match-kind.branch [
  | in-File w ↦ rw (w.content-is, w.in-File.is) (record { home = refl; links = refl; content = w.empty.ensures.stands })
  | in-Dir w ↦ rw (w.content-is, w.in-Dir.is) (record { home = refl; links = refl; content = empty_names w.empty-in-Dir.result w.empty-in-Dir.ensures.stands })
]
