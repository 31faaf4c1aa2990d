-- What a view tells of its tree, by what its desk does.
use Rattle.std.proofs.Common.{◌≡◌, ◌∙◌, ◌⊎◌, ℕ, List, [], ◌++◌, Result, Ok, Err, IfOk, inl, inr, ⊎_elim, sym, ap, subst, append-nil}
use Rattle.std.specs.Prelude.{IfErr, OnOk, OnErr}
use Rattle.su_bytes.specs.Membership.{Membership}
use Rattle.su_bytes.specs.declared.refusals.Refusal.{Refusal}
use Rattle.su_bytes.specs.declared.refusals.Refusal.TheVariants.{NoMemory}
use Rattle.su_block.specs.declared.failures.Failures.{Failures}
use Rattle.su_table.specs.Tree.{Tree}
use Rattle.su_desk.specs.Applied.{tree_after}
use Rattle.su_desk.specs.Desk.{DeskState}
use Rattle.su_desk.specs.Trial.{TrialState, nothing_ready, tree_of, tree_with_ready}
use Rattle.su_part_tree.specs.Loading.{IsLoadRefusal}
use Rattle.su_reading.specs.Reading.{WorksOut}
use Rattle.su_reading.proofs.Public.{err_weaker}
use Rattle.su_stored_desk.specs.Asked.{Asks, FailsReady, FollowsReady, IsClear as IsDeskClear, ShowsReady, TrialOn}
use Rattle.su_view.specs.Holding.{HoldingState, tree_of_list}
use Rattle.su_view.specs.Keeping.{view_of, IsKeeping}
use Rattle.su_view.specs.Viewed.{desk_of, ViewOn}
use Rattle.su_view.specs.declared.records.Keeping.{Keeping}

-- whether something is refused or not, what is settled is the same
pub still_settled : {A : Type 0} (r : Result A Refusal) (t u : TrialState) → OnOk r (u ≡ nothing_ready t.settled) → OnErr r (u.settled ≡ t.settled) → u.settled ≡ t.settled
still_settled (Ok a) t u none same = ap (λ (v : TrialState). v.settled) none
still_settled (Err e) t u none same = same

module _ {S : Type 0} {M : S → List ℕ → Type 0} {F : S → S → Type 0} where
  -- what has become of its desk has become of a view
  pub asks_within : (k l : Keeping S) (w : ViewOn S) → view_of k ≡ w → Asks M F k.desk l.desk → Asks M F (desk_of w) (desk_of (view_of l))
  asks_within k l w is h = subst (λ (x : ViewOn S). Asks M F (desk_of x) (desk_of (view_of l))) is (record {
    source = h.source;
    clear = h.clear;
    only = h.only;
  })

  pub asks_seen : (k : Keeping S) (w : ViewOn S) (d : TrialOn S) → view_of k ≡ w → Asks M F k.desk d → Asks M F (desk_of w) (desk_of (view_of (record k { desk = d })))
  asks_seen k w d is h = asks_within k (record k { desk = d }) w is h

module _ {S : Type 0} {M : S → List ℕ → Type 0} (k : Keeping S) (kept : IsKeeping M k) (w : ViewOn S) (is : view_of k ≡ w) where
  -- what is so of the tree of the desk, where nothing stands ready, is so of the tree of the list
  pub on_list : (P : Membership → Tree → ℕ → Type 0) → P k.desk.state.settled.roster (tree_of k.desk.state.settled) k.user → P w.holding.roster (tree_of_list w.holding) w.holding.user
  on_list P h = subst (λ (x : ViewOn S). P x.holding.roster (tree_of_list x.holding) x.holding.user) is
      (subst (λ es. P k.desk.state.settled.roster (tree_after k.desk.state.settled.roster es) k.user) (sym kept.entries) h)

  pub tree_so : (t : TrialState) → t ≡ nothing_ready k.desk.state.settled → tree_with_ready t ≡ tree_of_list w.holding
  tree_so t none =
      ap tree_with_ready none ∙ ap (tree_after k.desk.state.settled.roster) (append-nil k.desk.state.settled.history ∙ sym kept.entries)
      ∙ ap (λ (x : ViewOn S). tree_of_list x.holding) is

  -- what is worked out of the tree once nothing stands ready, and it is noted that the store is asked
  module _ (failed : S → Failures) {F : S → S → Type 0} {A B : Type 0} (view : A → B) (meant : Tree → Result B Refusal) (t n u : TrialOn S) (result : Result A Refusal)
      (none : t.state ≡ nothing_ready k.desk.state.settled) (shows : IsDeskClear M n → ShowsReady M n (tree_with_ready t.state))
      (asked : WorksOut (ShowsReady M) (FailsReady failed) (FollowsReady M F) n u result view meant) where
    pub read_ok : IsDeskClear M u → IfOk result (λ a. meant (tree_of_list w.holding) ≡ Ok (view a))
    read_ok clear = subst (λ T. IfOk result (λ a. meant T ≡ Ok (view a))) (tree_so t.state none) (asked.answer _ (shows (asked.comes.asks.clear clear)))

    pub read_refused : IsDeskClear M u → IfErr result (λ e. IsLoadRefusal e ⊎ (meant (tree_of_list w.holding) ≡ Err e))
    read_refused clear = subst (λ T. IfErr result (λ e. IsLoadRefusal e ⊎ (meant T ≡ Err e))) (tree_so t.state none)
        (err_weaker result (λ e. FailsReady failed (tree_with_ready t.state) u e ⊎ (e ≡ NoMemory) ⊎ (meant (tree_with_ready t.state) ≡ Err e))
        (λ e. IsLoadRefusal e ⊎ (meant (tree_with_ready t.state) ≡ Err e))
        (λ e. ⊎_elim (λ fails. inl fails.0) (⊎_elim (λ none. inl (inr (inr (inr (inl none))))) (λ why. inr why)))
        (asked.refused _ (shows (asked.comes.asks.clear clear))))
