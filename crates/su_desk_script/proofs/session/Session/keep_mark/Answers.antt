use Rattle.std.proofs.Common.{◌≡◌, ◌∙◌, ap, inl, ℕ, List, Some}
use Rattle.su_desk.specs.Desk.{DeskState}
use Rattle.su_desk.specs.Trial.{TrialState}
use Rattle.su_desk_script.specs.Session.{SessionState, desk_tree, handles}
use Rattle.su_desk_script.proofs.session.Session.keep_mark.Goals as goal

pub returns-in-Ok : goal.returns-in-Ok
returns-in-Ok c =
    let same : c.take_back.new.self.settled ≡ c.self.inside.desk.settled =
    ap (λ (t : TrialState). t.settled) c.in_default.ensures.ok in
    inl (
      c.new.ensures.items,
      ap (λ (m : List (List ℕ)). record { desk = c.take_back.new.self.settled; format = c.self.inside.format; mark = Some m }) c.in-Ok.ensures.value
          ∙ ap (λ (d : DeskState). record { desk = d; format = c.self.inside.format; mark = Some (handles d.roster (desk_tree d)) }) same
          ∙ ap (λ (s : SessionState). record { desk = s.desk; format = s.format; mark = Some (handles s.desk.roster (desk_tree s.desk)) }) c.self.view_is,
    )
