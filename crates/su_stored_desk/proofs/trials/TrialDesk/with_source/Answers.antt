use Rattle.std.proofs.Common.{◌≡◌, ◌≤◌, length, sym, subst}
use Rattle.std.specs.Global.{Vec}
use Rattle.std.specs.List.{AllByRecursion}
use Rattle.su_desk.specs.Desk.{DeskState}
use Rattle.su_desk.specs.declared.entries.Entry.{Entry}
use Rattle.su_stored_desk.specs.Asked.{IsClear}
use Rattle.su_stored_desk.specs.Right.{state_of, HasNumbers}
use Rattle.su_stored_desk.specs.Tried.{TriedFits}
use Rattle.su_stored_desk.specs.declared.prepared.Tried.{Tried}
use Rattle.su_stored_desk.proofs.Public.{quiet_is_clear}
use Rattle.su_stored_desk.proofs.trials.TrialDesk.with_source.Goals as goal

pub invariant_of-result : goal.invariant_of-result
invariant_of-result g c =
    let s = c.self.inside in
    let was = c.self.invariant in
    let now = c.with_source.ensures in
    let clear = subst (IsClear g.S.BlockSource.may_give) (sym c.self.view_is) (quiet_is_clear g.S.BlockSource.may_give c.args.self c.requires.quiet) in
    let same : state_of s.desk ≡ state_of c.with_source.result = (λ i. record { roster = sym now.roster i; history = (sym now.entries i).items }) in
    record {
      many = subst (λ (es : Vec Entry). length s.tried.items ≤ length es.items) (sym now.entries) was.many;
      numbers = subst (λ (d : DeskState). HasNumbers d.roster c.with_source.result.counters.items) same (subst (λ cs. HasNumbers s.desk.roster cs.items) (sym now.counters) was.numbers);
      numbered = subst (λ (d : DeskState). AllByRecursion (λ (t : Tried). HasNumbers d.roster t.versions.items) s.tried.items) same was.numbered;
      right = λ _. now.right (was.right clear);
      fits = λ _. subst (λ (d : DeskState). TriedFits d s.tried.items) same (was.fits clear);
    }
