use Rattle.su_desk.proofs.Operations.{live-undo, live-rekey}
use Rattle.su_desk.proofs.Replays.{live_done, tree_done, good_exact}
use Rattle.su_desk.proofs.laws.one_entry_more.Goals as goal

pub returns-clause-done : goal.returns-clause-done
returns-clause-done c = live_done

pub returns-clause-effect : goal.returns-clause-effect
returns-clause-effect c = tree_done

pub returns-clause-undone : goal.returns-clause-undone
returns-clause-undone c = live-undo

pub returns-clause-named : goal.returns-clause-named
returns-clause-named c = live-rekey

pub returns-clause-good : goal.returns-clause-good
returns-clause-good c = good_exact
