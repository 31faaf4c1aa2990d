use Rattle.std.proofs.Common.{◌≡◌, ◌∙◌, ◌⊎◌, Err, IfOk, IfErr, ap, subst}
use Rattle.su_block.specs.Memory.{Memory}
use Rattle.su_bytes.specs.declared.refusals.Refusal.TheVariants.{NoMemory}
use Rattle.su_desk.specs.Trial.{TrialState, tree_of}
use Rattle.su_desk_script.specs.Described.{IsDescribed}
use Rattle.su_desk_script.specs.Session.{description}
use Rattle.su_desk_script.proofs.Quiets.{Tells, err_told, none_answered, none_refused, ok_told, told}
use Rattle.su_desk_script.proofs.loaded.LoadedDesk.describe.Goals as goal
use Rattle.su_desk_script.proofs.loaded.LoadedDesk.describe.Goals.{in-Ok, in-Err}

asked : (c : goal.Joined-describe) → Tells (tree_of c.self.inside.desk.state.settled) c.self.inside.desk c.describe.new.reader c.describe.result (λ T d. IsDescribed T c.args.file d) (λ T e. description T c.args.file ≡ Err e)
asked c =
    told (λ (m : Memory). m.failed) (λ T d. IsDescribed T c.args.file d) (λ T e. description T c.args.file ≡ Err e)
    c.self.inside.desk c.note_asked.new.self c.describe.new.reader c.describe.result c.self.invariant (ap (λ (t : TrialState). t.ready) c.self.view_is ∙ c.requires)
    c.note_asked.ensures.asks c.note_asked.ensures.same c.note_asked.ensures.shows c.describe.ensures.describes

pub invariant_of-self : goal.invariant_of-self
invariant_of-self c = (asked c).quiet

pub returns-clause-ok : goal.returns-clause-ok
returns-clause-ok c =
    subst (λ (t : TrialState). IfOk c.match-describe.result (λ d. IsDescribed (tree_of t.settled) c.args.file d)) c.self.view_is
    (elim c.match-describe.branch [
      | in-Ok w ↦ ok_told c.describe.result c.match-describe.result (λ d. IsDescribed (tree_of c.self.inside.desk.state.settled) c.args.file d) w.in-Ok.description w.in-Ok.is w.result-is (asked c).answer
      | in-Err w ↦ none_answered c.match-describe.result (λ d. IsDescribed (tree_of c.self.inside.desk.state.settled) c.args.file d) w.without_loads.result w.result-is
    ])

pub returns-clause-refused : goal.returns-clause-refused
returns-clause-refused c =
    subst (λ (t : TrialState). IfErr c.match-describe.result (λ e. (e ≡ NoMemory) ⊎ (description (tree_of t.settled) c.args.file ≡ Err e))) c.self.view_is
    (elim c.match-describe.branch [
      | in-Ok w ↦ none_refused c.match-describe.result (λ e. (e ≡ NoMemory) ⊎ (description (tree_of c.self.inside.desk.state.settled) c.args.file ≡ Err e)) w.in-Ok.description w.result-is
      | in-Err w ↦ err_told c.describe.result c.match-describe.result (λ e. description (tree_of c.self.inside.desk.state.settled) c.args.file ≡ Err e) w.in-Err.refusal w.without_loads.result w.in-Err.is w.result-is
          w.without_loads.ensures.load w.without_loads.ensures.told (asked c).refused
    ])
