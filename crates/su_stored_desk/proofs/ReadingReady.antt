-- The tree with what stands ready is asked about.
use Rattle.std.specs.Prelude.{◌≡◌, ℕ, List, Result}
use Rattle.std.specs.Global.{Vec}
use Rattle.std.proofs.Common.{refl, sym, ap, ◌∙◌, subst}
use Rattle.su_bytes.specs.declared.refusals.Refusal.{Refusal}
use Rattle.su_block.specs.declared.failures.Failures.{Failures}
use Rattle.su_block.specs.declared.sources.BlockSource.{Ghosts}
use Rattle.su_table.specs.Tree.{Tree}
use Rattle.su_part.specs.Bytes.{NoneClash}
use Rattle.su_part_forest.specs.Loading.{HashedFor}
use Rattle.su_reading.specs.Reading.{Inquiry}
use Rattle.su_stored_forest.specs.Shows.{Holds, Shows, Fails, Follows}
use Rattle.su_stored_forest.specs.declared.stored.StoredForest.{StoredForest}
use Rattle.su_stored_forest.proofs.Public.{shows_holds, holds_shows}
use Rattle.su_desk.specs.declared.entries.Entry.{Entry}
use Rattle.su_desk.specs.Trial.{TrialState, tree_of, tree_with_ready}
use Rattle.su_stored_desk.specs.declared.desks.Desk.{Desk}
use Rattle.su_stored_desk.specs.declared.prepared.Tried.{Tried}
use Rattle.su_stored_desk.specs.Asked.{Asks, IsClear, TrialOn, ShowsReady, FailsReady, FollowsReady}
use Rattle.su_stored_desk.specs.Right.{state_of}
use Rattle.su_stored_desk.specs.Tried.{seen_of}
use Rattle.su_stored_desk.specs.Trusted.{IsTrusted}
use Rattle.su_stored_desk.proofs.Clearness.{known, view_of}
use Rattle.su_stored_desk.proofs.Public.{asks_no_more, asks_on}

module _ {S : Type 0} {g : Ghosts S} (may_give : S → List ℕ → Type 0) (failed_of : S → Failures) (comes : S → S → Type 0) where
  -- what a desk shows its forest shows
  pub stored_shows : (d : Desk S g) (ts : List Tried) (asked : List (S × Vec Entry)) (T : Tree) → IsTrusted may_give d ts asked → ShowsReady may_give (view_of d ts asked) T → Shows may_give d.stored T
  stored_shows d ts asked T trusted shown =
      let k = known may_give d ts asked (seen_of (state_of d) ts) refl trusted in
      let is : T ≡ tree_of (state_of d) = shown.tree ∙ ap tree_of (sym k.seen.whole) in
      subst (Shows may_give d.stored) (sym is)
      (holds_shows may_give d.stored (tree_of (state_of d)) (k.right shown.clear).holds (subst (λ (U : Tree). NoneClash (HashedFor U) (may_give d.stored.source)) is shown.unmixed))

  module _ {A : Type 0} {IsAnswer : Tree → A → Type 0} {IsRefusal : Tree → Refusal → Type 0} {result : Result A Refusal} where
    -- A desk whose forest was asked is trusted, where it was noted before.
    pub trusted_still : (d : Desk S g) (r : StoredForest S g) (ts : List Tried) (asked : List (S × Vec Entry)) (t : TrialOn S) (v : TrialState) → view_of d ts asked ≡ t → IsTrusted may_give d ts asked
        → (IsClear may_give t → ShowsReady may_give t (tree_with_ready v))
        → Inquiry (Shows may_give) (Fails failed_of) (Follows may_give comes) d.stored r result IsAnswer IsRefusal
        → IsTrusted may_give (record d { stored = r }) ts asked
    trusted_still d r ts asked t v is trusted noted finds = record {
      many = trusted.many;
      numbers = trusted.numbers;
      numbered = trusted.numbered;
      right = λ clear.
          let shown = subst (λ (u : TrialOn S). ShowsReady may_give u (tree_with_ready v)) (sym is) (noted (subst (IsClear may_give) is clear)) in
          let k = known may_give d ts asked (seen_of (state_of d) ts) refl trusted in
          let there : tree_with_ready v ≡ tree_of (state_of d) = shown.tree ∙ ap tree_of (sym k.seen.whole) in
          let right = trusted.right clear in
          record {
            keeps = right.keeps;
            holds = subst (λ (U : Tree). Holds r U) there (shows_holds may_give r (tree_with_ready v) (finds.still (tree_with_ready v) (stored_shows d ts asked (tree_with_ready v) trusted shown)));
            counters = right.counters;
            keys = right.keys;
          };
      fits = trusted.fits;
    }

    -- and what it answers is so
    pub finds_ready : ((a b c : S) → comes a b → comes b c → comes a c) → (d : Desk S g) (r : StoredForest S g) (ts : List Tried) (asked : List (S × Vec Entry)) (before t : TrialOn S) → view_of d ts asked ≡ t → IsTrusted may_give d ts asked
        → ((T : Tree) → ShowsReady may_give before T → ShowsReady may_give t T) → Asks may_give comes before t → t ≡ record before { asked = t.asked }
        → Inquiry (Shows may_give) (Fails failed_of) (Follows may_give comes) d.stored r result IsAnswer IsRefusal
        → Inquiry (ShowsReady may_give) (FailsReady failed_of) (FollowsReady may_give comes) before (view_of (record d { stored = r }) ts asked) result IsAnswer IsRefusal
    finds_ready on d r ts asked before t is trusted shows asks same finds =
        let now : (T : Tree) → ShowsReady may_give before T → ShowsReady may_give (view_of d ts asked) T
        = λ T shown. subst (λ (u : TrialOn S). ShowsReady may_give u T) (sym is) (shows T shown) in
        record {
          still = λ T shown. record {
            clear = (now T shown).clear;
            unmixed = λ a b hashed given. (now T shown).unmixed a b hashed (finds.comes.no_more b given);
            tree = (now T shown).tree;
          };
          answer = λ T shown. finds.answer T (stored_shows d ts asked T trusted (now T shown));
          refused = λ T shown. finds.refused T (stored_shows d ts asked T trusted (now T shown));
          comes = record {
            state = ap (λ (u : TrialOn S). u.state) (is ∙ same);
            asks = asks_on on before t (view_of (record d { stored = r }) ts asked) asks
                (subst (λ (u : TrialOn S). Asks may_give comes u (view_of (record d { stored = r }) ts asked)) is
                (asks_no_more (view_of d ts asked) (view_of (record d { stored = r }) ts asked) refl refl (record { follows = finds.comes.source; no_more = finds.comes.no_more })));
          };
        }
