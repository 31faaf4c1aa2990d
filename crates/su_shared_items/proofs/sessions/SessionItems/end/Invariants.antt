use Rattle.std.proofs.Common.{length}
use Rattle.su_shared_items.proofs.sessions.SessionItems.end.Given as goal

abbrev pub decreases-loop-digest : goal.decreases-loop-digest
decreases-loop-digest g l = length l.self-inside.pinned.keys
