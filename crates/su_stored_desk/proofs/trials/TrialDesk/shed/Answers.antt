use Rattle.std.proofs.Common.{◌≡◌, ⊎_elim, inl, inr, sym, ap, subst}
use Rattle.std.specs.Prelude.{IfErr}
use Rattle.su_table.specs.Tree.{Tree}
use Rattle.su_part.specs.Loads.{FailedAt}
use Rattle.su_part_forest.specs.Loading.{HashedFor}
use Rattle.su_desk.specs.Trial.{tree_of, tree_with_ready}
use Rattle.su_stored_desk.specs.Asked.{IsClear, TrialOn}
use Rattle.su_stored_desk.specs.Right.{state_of}
use Rattle.su_stored_desk.proofs.Clearness.{known}
use Rattle.su_stored_desk.proofs.trials.TrialDesk.shed.Goals as goal

-- what is loaded is of the tree with what stands ready
pub returns-clause-more : goal.returns-clause-more
returns-clause-more g c clear i gives =
    let s = c.self.inside in
    let v = c.args.self.now.state in
    let m = g.S.BlockSource.may_give in
    let k = known m s.desk s.tried.items s.asked.items v (ap (λ t. t.state) c.self.view_is) c.self.invariant in
    let right = k.right (subst (IsClear m) (sym c.self.view_is) clear) in
    let there : tree_of (state_of s.desk) ≡ tree_with_ready v = ap tree_of k.seen.whole in
    ⊎_elim (λ was. inl (subst (λ (t : TrialOn g.row.S.Denot). m t.source i) c.self.view_is was))
    (λ own. inr (subst (λ (U : Tree). HashedFor U i) there (c.shed.ensures.sheds.hashed (tree_of (state_of s.desk)) right.holds.stands i own)))
    (c.shed.ensures.sheds.more i gives)

pub returns-clause-failed : goal.returns-clause-failed
returns-clause-failed g c clear =
    let s = c.self.inside in
    let v = c.args.self.now.state in
    let m = g.S.BlockSource.may_give in
    let k = known m s.desk s.tried.items s.asked.items v (ap (λ t. t.state) c.self.view_is) c.self.invariant in
    let right = k.right (subst (IsClear m) (sym c.self.view_is) clear) in
    let there : tree_of (state_of s.desk) ≡ tree_with_ready v = ap tree_of k.seen.whole in
    subst (λ (U : Tree). IfErr c.shed.result (FailedAt (HashedFor U) (g.S.BlockSource.failed c.shed.new.self.source))) there
    (c.shed.ensures.sheds.failed (tree_of (state_of s.desk)) right.holds.stands)
