use Rattle.std.proofs.Common.{◌≡◌, ◌∙◌, ◌⊎◌, Ok, Err, IfOk, IfErr, ap, subst}
use Rattle.su_block.specs.Memory.{Memory}
use Rattle.su_bytes.specs.declared.refusals.Refusal.TheVariants.{NoMemory}
use Rattle.su_desk.specs.Trial.{TrialState, tree_of}
use Rattle.su_table.specs.Query.{contents_within}
use Rattle.su_desk_script.proofs.Quiets.{Tells, err_told, none_answered, none_refused, ok_told, told}
use Rattle.su_desk_script.proofs.loaded.LoadedDesk.read_at.Goals as goal
use Rattle.su_desk_script.proofs.loaded.LoadedDesk.read_at.Goals.{in-Ok, in-Err}

asked : (c : goal.Joined-read_at) → Tells (tree_of c.self.inside.desk.state.settled) c.self.inside.desk c.read_at.new.reader c.read_at.result (λ T bytes. contents_within T c.args.file c.args.off c.args.len ≡ Ok bytes.items) (λ T e. contents_within T c.args.file c.args.off c.args.len ≡ Err e)
asked c =
    told (λ (m : Memory). m.failed) (λ T bytes. contents_within T c.args.file c.args.off c.args.len ≡ Ok bytes.items) (λ T e. contents_within T c.args.file c.args.off c.args.len ≡ Err e)
    c.self.inside.desk c.note_asked.new.self c.read_at.new.reader c.read_at.result c.self.invariant (ap (λ (t : TrialState). t.ready) c.self.view_is ∙ c.requires)
    c.note_asked.ensures.asks c.note_asked.ensures.same c.note_asked.ensures.shows c.read_at.ensures.works_out

pub invariant_of-self : goal.invariant_of-self
invariant_of-self c = (asked c).quiet

pub returns-clause-ok : goal.returns-clause-ok
returns-clause-ok c =
    subst (λ (t : TrialState). IfOk c.match-read_at.result (λ bytes. contents_within (tree_of t.settled) c.args.file c.args.off c.args.len ≡ Ok bytes.items)) c.self.view_is
    (elim c.match-read_at.branch [
      | in-Ok w ↦ ok_told c.read_at.result c.match-read_at.result (λ bytes. contents_within (tree_of c.self.inside.desk.state.settled) c.args.file c.args.off c.args.len ≡ Ok bytes.items) w.in-Ok.bytes w.in-Ok.is w.result-is (asked c).answer
      | in-Err w ↦ none_answered c.match-read_at.result (λ bytes. contents_within (tree_of c.self.inside.desk.state.settled) c.args.file c.args.off c.args.len ≡ Ok bytes.items) w.without_loads.result w.result-is
    ])

pub returns-clause-refused : goal.returns-clause-refused
returns-clause-refused c =
    subst (λ (t : TrialState). IfErr c.match-read_at.result (λ e. (e ≡ NoMemory) ⊎ (contents_within (tree_of t.settled) c.args.file c.args.off c.args.len ≡ Err e))) c.self.view_is
    (elim c.match-read_at.branch [
      | in-Ok w ↦ none_refused c.match-read_at.result (λ e. (e ≡ NoMemory) ⊎ (contents_within (tree_of c.self.inside.desk.state.settled) c.args.file c.args.off c.args.len ≡ Err e)) w.in-Ok.bytes w.result-is
      | in-Err w ↦ err_told c.read_at.result c.match-read_at.result (λ e. contents_within (tree_of c.self.inside.desk.state.settled) c.args.file c.args.off c.args.len ≡ Err e) w.in-Err.refusal w.without_loads.result w.in-Err.is w.result-is
          w.without_loads.ensures.load w.without_loads.ensures.told (asked c).refused
    ])
