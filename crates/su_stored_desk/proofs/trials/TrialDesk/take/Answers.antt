use Rattle.std.proofs.Common.{◌≡◌, ◌≤◌, length, sym, subst}
use Rattle.std.specs.Global.{Vec}
use Rattle.std.specs.List.{AllByRecursion}
use Rattle.su_desk.specs.Desk.{DeskState}
use Rattle.su_desk.specs.declared.entries.Entry.{Entry}
use Rattle.su_stored_desk.specs.Asked.{IsClear}
use Rattle.su_stored_desk.specs.Right.{state_of, HasNumbers}
use Rattle.su_stored_desk.specs.Tried.{TriedFits}
use Rattle.su_stored_desk.specs.declared.prepared.Tried.{Tried}
use Rattle.su_stored_desk.proofs.Public.{quiet_is_clear}
use Rattle.su_stored_desk.proofs.trials.TrialDesk.take.Goals as goal

pub invariant_of-self : goal.invariant_of-self
invariant_of-self g c =
    let s = c.other.inside in
    let was = c.other.invariant in
    let now = c.take.ensures in
    let d = c.take.new.self in
    let clear = subst (IsClear g.T.BlockSource.may_give) (sym c.other.view_is) (quiet_is_clear g.T.BlockSource.may_give c.args.other c.requires.quiet) in
    let same : state_of s.desk ≡ state_of d = (λ i. record { roster = sym now.roster i; history = (sym now.entries i).items }) in
    record {
      many = subst (λ (es : Vec Entry). length s.tried.items ≤ length es.items) (sym now.entries) was.many;
      numbers = subst (λ (x : DeskState). HasNumbers x.roster d.counters.items) same (subst (λ cs. HasNumbers s.desk.roster cs.items) (sym now.counters) was.numbers);
      numbered = subst (λ (x : DeskState). AllByRecursion (λ (t : Tried). HasNumbers x.roster t.versions.items) s.tried.items) same was.numbered;
      right = λ _. now.right (was.right clear);
      fits = λ _. subst (λ (x : DeskState). TriedFits x s.tried.items) same (was.fits clear);
    }
