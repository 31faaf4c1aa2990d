use Rattle.std.proofs.Common.{◌≡◌, ◌∙◌, Some, sym, ap, subst, slice_get}
use Rattle.std.specs.Option.{option_copied}
use Rattle.su_stored_desk.specs.Asked.{IsClear}
use Rattle.su_stored_desk.proofs.Clearness.{known}
use Rattle.su_stored_desk.proofs.StandingReady.{settled_versions}
use Rattle.su_stored_desk.proofs.trials.TrialDesk.versions.Goals as goal

pub returns-in-Some : goal.returns-in-Some
returns-in-Some g c clear =
    let s = c.self.inside in
    let v = c.args.self.now.state in
    let m = g.S.BlockSource.may_give in
    let k = known m s.desk s.tried.items s.asked.items v (ap (λ t. t.state) c.self.view_is) c.self.invariant in
    let first : slice_get s.tried.items 0 ≡ Some c.in-Some.tried.now = ap (λ ts. slice_get ts 0) (sym c.deref.ensures.value) ∙ sym c.first.ensures.value ∙ ap option_copied c.in-Some.is in
    c.as_slice.ensures.value ∙ settled_versions v.settled v.ready s.tried.items c.in-Some.tried.now (k.back (subst (IsClear m) (sym c.self.view_is) clear)) first
