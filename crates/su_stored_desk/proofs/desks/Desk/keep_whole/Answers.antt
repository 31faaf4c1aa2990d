use Rattle.std.proofs.Common.{refl, Result, Ok, Err, IfOk}
use Rattle.su_bytes.specs.declared.refusals.Refusal.{Refusal}
use Rattle.su_op.specs.Batch.{Action}
use Rattle.su_desk.specs.Trial.{tree_of}
use Rattle.su_stored_desk.proofs.JoinedLemmas.{kinds_whole, sound_kept}
use Rattle.su_stored_desk.proofs.desks.Desk.keep_whole.Goals as goal
use Rattle.su_stored_desk.specs.Right.{state_of}
use Rattle.su_stored_desk.proofs.Rightness.{asked_sure, shows}

-- what holds for each action with two premises
for_each : {A : Type 0} (r : Result A Refusal) (P R : Action → Type 0) (Q : A → Type 0) → ((x : Action) → P x → R x → IfOk r Q) → IfOk r (λ a. (x : Action) → P x → R x → Q a)
for_each (Ok a) P R Q f = f
for_each (Err e) P R Q f = tt

pub returns-clause-exact : goal.returns-clause-exact
returns-clause-exact g c sure =
    let s = c.args.self.now in
    let d = state_of s in
    for_each c.keep_whole.result _ _ _ (λ x accepted is. c.keep_whole.ensures.exact (tree_of d) (shows _ s sure) (kinds_whole d x (tree_of d) c.args.areas.now refl (sound_kept s.roster s.entries.items s.kept (tree_of d) sure.right.keeps) accepted is))

pub returns-clause-sure : goal.returns-clause-sure
returns-clause-sure g c sure =
    let s = c.args.self.now in
    asked_sure _ s _ sure (c.keep_whole.ensures.finds.still (tree_of (state_of s)) (shows _ s sure))
