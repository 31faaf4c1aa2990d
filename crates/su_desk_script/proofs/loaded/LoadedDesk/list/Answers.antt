use Rattle.std.proofs.Common.{◌≡◌, ◌∙◌, ◌⊎◌, Ok, Err, IfOk, IfErr, ap, subst}
use Rattle.su_block.specs.Memory.{Memory}
use Rattle.su_bytes.specs.declared.refusals.Refusal.TheVariants.{NoMemory}
use Rattle.su_desk.specs.Trial.{TrialState, tree_of}
use Rattle.su_table.specs.Query.{listing}
use Rattle.su_desk_script.proofs.Quiets.{Tells, err_told, none_answered, none_refused, ok_told, told}
use Rattle.su_desk_script.proofs.loaded.LoadedDesk.list.Goals as goal
use Rattle.su_desk_script.proofs.loaded.LoadedDesk.list.Goals.{in-Ok, in-Err}

asked : (c : goal.Joined-list) → Tells (tree_of c.self.inside.desk.state.settled) c.self.inside.desk c.list.new.reader c.list.result (λ T names. listing T c.args.directory ≡ Ok names.items) (λ T e. listing T c.args.directory ≡ Err e)
asked c =
    told (λ (m : Memory). m.failed) (λ T names. listing T c.args.directory ≡ Ok names.items) (λ T e. listing T c.args.directory ≡ Err e)
    c.self.inside.desk c.note_asked.new.self c.list.new.reader c.list.result c.self.invariant (ap (λ (t : TrialState). t.ready) c.self.view_is ∙ c.requires)
    c.note_asked.ensures.asks c.note_asked.ensures.same c.note_asked.ensures.shows c.list.ensures.works_out

pub invariant_of-self : goal.invariant_of-self
invariant_of-self c = (asked c).quiet

pub returns-clause-ok : goal.returns-clause-ok
returns-clause-ok c =
    subst (λ (t : TrialState). IfOk c.match-list.result (λ names. listing (tree_of t.settled) c.args.directory ≡ Ok names.items)) c.self.view_is
    (elim c.match-list.branch [
      | in-Ok w ↦ ok_told c.list.result c.match-list.result (λ names. listing (tree_of c.self.inside.desk.state.settled) c.args.directory ≡ Ok names.items) w.in-Ok.names w.in-Ok.is w.result-is (asked c).answer
      | in-Err w ↦ none_answered c.match-list.result (λ names. listing (tree_of c.self.inside.desk.state.settled) c.args.directory ≡ Ok names.items) w.without_loads.result w.result-is
    ])

pub returns-clause-refused : goal.returns-clause-refused
returns-clause-refused c =
    subst (λ (t : TrialState). IfErr c.match-list.result (λ e. (e ≡ NoMemory) ⊎ (listing (tree_of t.settled) c.args.directory ≡ Err e))) c.self.view_is
    (elim c.match-list.branch [
      | in-Ok w ↦ none_refused c.match-list.result (λ e. (e ≡ NoMemory) ⊎ (listing (tree_of c.self.inside.desk.state.settled) c.args.directory ≡ Err e)) w.in-Ok.names w.result-is
      | in-Err w ↦ err_told c.list.result c.match-list.result (λ e. listing (tree_of c.self.inside.desk.state.settled) c.args.directory ≡ Err e) w.in-Err.refusal w.without_loads.result w.in-Err.is w.result-is
          w.without_loads.ensures.load w.without_loads.ensures.told (asked c).refused
    ])
