use Rattle.std.proofs.Common.{length}
use Rattle.su_view.proofs.views.drafts.+are_carried.Given as goal

abbrev pub decreases-are_carried : goal.decreases-are_carried
decreases-are_carried l = length l.groups.now
