use Rattle.std.proofs.Common.{◌≡◌, take}
use Rattle.su_desk.specs.Trial.{nothing_ready}
use Rattle.su_legal.specs.Legal.{history}
use Rattle.su_view.proofs.views.View.desk_anew.Given as goal

abbrev pub invariant-loop-before : goal.invariant-loop-before
invariant-loop-before g l = l.desk.state ≡ nothing_ready (record { roster = l.self.holding.roster; history = take l.before (history l.self.holding.held) })
