-- What of a desk stays right.
use Rattle.std.proofs.Common.{◌≡◌, ◌∙◌, ℕ, List, true, false, sym, ap, subst}
use Rattle.su_block.specs.declared.sources.BlockSource.{Ghosts}
use Rattle.su_block.specs.Failure.{is_failure}
use Rattle.su_bytes.specs.declared.refusals.Refusal.{Refusal}
use Rattle.su_bytes.specs.declared.refusals.Refusal.TheVariants.{NoMemory}
use Rattle.su_bytes.specs.Membership.{Membership}
use Rattle.su_table.specs.Tree.{Tree}
use Rattle.su_desk.specs.Applied.{tree_after}
use Rattle.su_desk.specs.History.{keys_after}
use Rattle.su_desk.specs.Version.{versions}
use Rattle.su_used_keys.specs.UsedKeys.{HasJust}
use Rattle.su_desk.specs.Desk.{DeskState}
use Rattle.su_desk.specs.Trial.{tree_of}
use Rattle.su_desk.specs.declared.entries.Entry.{Entry}
use Rattle.su_stored_desk.specs.Keeping.{Keeps, AreKept}
use Rattle.su_stored_desk.specs.Right.{state_of, IsRight, IsSure, MayBecome}
use Rattle.su_stored_desk.specs.declared.desks.Desk.{Desk}
use Rattle.su_stored_desk.specs.Keeping.{KeptOperation}
use Rattle.su_stored_desk.proofs.KeptOperations.{tree_kept}
use Rattle.su_stored_desk.proofs.TakingBack.{left_by}
use Rattle.su_stored_forest.specs.Shows.{Follows, Holds, Shows}
use Rattle.su_stored_forest.specs.declared.stored.StoredForest.{StoredForest}
use Rattle.su_stored_forest.proofs.Public.{holds_shows, shows_holds}

-- what is kept leads to the tree of the history
pub keeps_tree : (ro : Membership) (h : List Entry) (ks : List KeptOperation) (T : Tree) → Keeps ro h ks T → T ≡ tree_after ro h
keeps_tree ro h ks T keeps = left_by ro h T (tree_kept ro h ks T keeps)

pub at_tree : (ro : Membership) (h : List Entry) (ks : List KeptOperation) (T : Tree) → Keeps ro h ks T → Keeps ro h ks (tree_after ro h)
at_tree ro h ks T keeps = subst (Keeps ro h ks) (keeps_tree ro h ks T keeps) keeps

module _ {S : Type 0} {g : Ghosts S} where
  -- its forest shows its tree
  pub shows : (may_give : S → List ℕ → Type 0) (d : Desk S g) → IsSure may_give d → Shows may_give d.stored (tree_of (state_of d))
  shows may_give d sure = holds_shows may_give d.stored (tree_of (state_of d)) sure.right.holds sure.unmixed

  -- what it keeps is of its history
  pub kept_of : (d : Desk S g) (seen : List Entry) → IsRight d → seen ≡ d.entries.items → AreKept d.roster seen d.kept
  kept_of d seen right h = (tree_of (state_of d), subst (λ (l : List Entry). Keeps d.roster l d.kept (tree_of (state_of d))) (sym h) right.keeps)

  -- where its forest alone was asked
  pub asked_right : (d : Desk S g) (s : StoredForest S g) → IsRight d → Holds s (tree_of (state_of d)) → IsRight (record d { stored = s })
  asked_right d s right holds = record { keeps = right.keeps; holds = holds; counters = right.counters; keys = right.keys }

  -- of a desk with that roster and history
  pub right_at : (s : Desk S g) (d : DeskState) → state_of s ≡ d → Keeps d.roster d.history s.kept (tree_of d) → Holds s.stored (tree_of d) → s.counters.items ≡ versions d.roster d.history → HasJust (keys_after d.roster d.history) s.used → IsRight s
  right_at s d is keeps holds counters keys = record {
    keeps = subst (λ (y : DeskState). Keeps y.roster y.history s.kept (tree_of y)) (sym is) keeps;
    holds = subst (λ (y : DeskState). Holds s.stored (tree_of y)) (sym is) holds;
    counters = counters ∙ ap (λ (y : DeskState). versions y.roster y.history) (sym is);
    keys = subst (λ (y : DeskState). HasJust (keys_after y.roster y.history) s.used) (sym is) keys;
  }

  -- so it is sure, where what was asked shows its tree
  pub asked_sure : (may_give : S → List ℕ → Type 0) (d : Desk S g) (s : StoredForest S g) → IsSure may_give d → Shows may_give s (tree_of (state_of d)) → IsSure may_give (record d { stored = s })
  asked_sure may_give d s sure shown = record { right = asked_right d s sure.right (shows_holds may_give s (tree_of (state_of d)) shown); unmixed = shown.free }

-- want of memory is no failure of a source
pub no_failure : {X : Type 0} (e : Refusal) → e ≡ NoMemory → is_failure e ≡ true → X
no_failure e is fails = absurd (let bad : false ≡ true = sym (ap is_failure is) ∙ fails in cc)

-- questions after questions
pub one_more : {S : Type 0} (may_give : S → List ℕ → Type 0) (comes : S → S → Type 0) → ((a b c : S) → comes a b → comes b c → comes a c) → (s t u : S) → MayBecome may_give comes s t → MayBecome may_give comes t u → MayBecome may_give comes s u
one_more may_give comes on s t u first later = record {
  follows = on s t u first.follows later.follows;
  no_more = λ i gives. first.no_more i (later.no_more i gives);
}

pub came : {S : Type 0} {g : Ghosts S} {may_give : S → List ℕ → Type 0} {comes : S → S → Type 0} {r s : StoredForest S g} → Follows may_give comes r s → MayBecome may_give comes r.source s.source
came f = record { follows = f.source; no_more = f.no_more }
