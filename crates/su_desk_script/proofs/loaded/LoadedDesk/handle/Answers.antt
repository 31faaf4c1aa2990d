use Rattle.std.proofs.Common.{◌≡◌, subst, sym}
use Rattle.su_bytes.specs.declared.principals.Principal.{Principal}
use Rattle.su_bytes.specs.declared.principals.Principal.TheVariants.{User, Group}
use Rattle.su_desk.specs.Trial.{TrialState}
use Rattle.su_table.specs.Handle.{handle}
use Rattle.su_desk_script.specs.Session.{desk_tree}
use Rattle.su_desk_script.proofs.Quiets.{quiet_clear}
use Rattle.su_desk_script.proofs.loaded.LoadedDesk.handle.Goals as goal

pub returns-in-User : goal.returns-in-User
returns-in-User c =
    subst (λ (p : Principal). c.i_handle.result ≡ handle (desk_tree c.args.self.now.settled) p) (sym c.in-User.is)
    (subst (λ (t : TrialState). c.i_handle.result ≡ handle (desk_tree t.settled) (User c.in-User.user)) c.self.view_is
    (c.i_handle.ensures (quiet_clear c.self.inside.desk c.self.invariant)))

pub returns-in-Group : goal.returns-in-Group
returns-in-Group c =
    subst (λ (p : Principal). c.group_handle.result ≡ handle (desk_tree c.args.self.now.settled) p) (sym c.in-Group.is)
    (subst (λ (t : TrialState). c.group_handle.result ≡ handle (desk_tree t.settled) (Group c.in-Group.group)) c.self.view_is
    (c.group_handle.ensures (quiet_clear c.self.inside.desk c.self.invariant)))
