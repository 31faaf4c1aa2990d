use Rattle.std.proofs.Common.{◌≡◌, subst}
use Rattle.su_desk.specs.Trial.{TrialState}
use Rattle.su_desk.specs.Version.{versions}
use Rattle.su_desk_script.proofs.Quiets.{quiet_clear}
use Rattle.su_desk_script.proofs.loaded.LoadedDesk.versions.Goals as goal

pub returns : goal.returns
returns c =
    subst (λ (t : TrialState). c.versions.result.now ≡ versions t.settled.roster t.settled.history) c.self.view_is
    (c.versions.ensures (quiet_clear c.self.inside.desk c.self.invariant))
