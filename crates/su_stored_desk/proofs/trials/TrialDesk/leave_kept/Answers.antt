use Rattle.std.proofs.Common.{List, ⊎_elim, inl, inr, sym, ap, subst}
use Rattle.su_table.specs.Tree.{genesis}
use Rattle.su_desk.specs.History.{live}
use Rattle.su_desk.specs.Trial.{tree_of, with_ready}
use Rattle.su_stored_desk.specs.Asked.{IsClear, TrialOn}
use Rattle.su_stored_desk.specs.Keeping.{KeptOperation, Leads}
use Rattle.su_stored_desk.specs.Right.{state_of}
use Rattle.su_stored_desk.proofs.Clearness.{known, trusted}
use Rattle.su_stored_desk.proofs.Leaving.{hashed_seen, known_left, with_left}
use Rattle.su_stored_desk.proofs.trials.TrialDesk.leave_kept.Goals as goal

pub invariant_of-self : goal.invariant_of-self
invariant_of-self g c =
    let s = c.self.inside in
    let v = c.args.self.now.state in
    let m = g.S.BlockSource.may_give in
    let k = known m s.desk s.tried.items s.asked.items v (ap (λ t. t.state) c.self.view_is) c.self.invariant in
    let left = c.leave_each.new.kept in
    let source = c.leave_each.new.source in
    trusted m (with_left s.desk left s.desk.left source) s.tried.items s.asked.items v
    (known_left m s.desk left s.desk.left source s.tried.items s.asked.items v
    (λ ro F T ts leads. c.leave_each.ensures.leads ro F T ts (subst (λ (ks : List KeptOperation). Leads ro F ts ks T) (sym c.forget_readers.ensures) leads))
    k)

pub invariant_of-self-2 : goal.invariant_of-self-2
invariant_of-self-2 g c =
    let s = c.self.inside in
    let v = c.args.self.now.state in
    let m = g.S.BlockSource.may_give in
    let k = known m s.desk s.tried.items s.asked.items v (ap (λ t. t.state) c.self.view_is) c.self.invariant in
    let left = c.leave_each.new.kept in
    let source = c.leave_each.new.source in
    trusted m (with_left s.desk left c.saturating_sub-self-inside.result source) s.tried.items s.asked.items v
    (known_left m s.desk left c.saturating_sub-self-inside.result source s.tried.items s.asked.items v
    (λ ro F T ts leads. c.leave_each.ensures.leads ro F T ts (subst (λ (ks : List KeptOperation). Leads ro F ts ks T) (sym c.forget_readers.ensures) leads))
    k)

pub returns-in_err-leave_each-clause-more : goal.returns-in_err-leave_each-clause-more
returns-in_err-leave_each-clause-more g c clear i gives =
    let s = c.self.inside in
    let v = c.args.self.now.state in
    let m = g.S.BlockSource.may_give in
    let k = known m s.desk s.tried.items s.asked.items v (ap (λ t. t.state) c.self.view_is) c.self.invariant in
    let right = k.right (subst (IsClear m) (sym c.self.view_is) clear) in
    let d = state_of s.desk in
    ⊎_elim (λ was. inl (subst (λ (t : TrialOn g.row.S.Denot). m t.source i) c.self.view_is (subst (λ (x : g.row.S.Denot). m x i) c.source_mut.ensures.value was)))
    (λ hashed. inr (hashed_seen d (with_ready v.settled v.ready) i k.seen.whole hashed))
    (c.leave_each.ensures.more d.roster genesis (tree_of d) (live d.history)
    (subst (λ (ks : List KeptOperation). Leads d.roster genesis (live d.history) ks (tree_of d)) (sym c.forget_readers.ensures) right.keeps.leads) i gives)

pub returns-clause-more : goal.returns-clause-more
returns-clause-more g c clear i gives =
    let s = c.self.inside in
    let v = c.args.self.now.state in
    let m = g.S.BlockSource.may_give in
    let k = known m s.desk s.tried.items s.asked.items v (ap (λ t. t.state) c.self.view_is) c.self.invariant in
    let right = k.right (subst (IsClear m) (sym c.self.view_is) clear) in
    let d = state_of s.desk in
    ⊎_elim (λ was. inl (subst (λ (t : TrialOn g.row.S.Denot). m t.source i) c.self.view_is (subst (λ (x : g.row.S.Denot). m x i) c.source_mut.ensures.value was)))
    (λ hashed. inr (hashed_seen d (with_ready v.settled v.ready) i k.seen.whole hashed))
    (c.leave_each.ensures.more d.roster genesis (tree_of d) (live d.history)
    (subst (λ (ks : List KeptOperation). Leads d.roster genesis (live d.history) ks (tree_of d)) (sym c.forget_readers.ensures) right.keeps.leads) i gives)
