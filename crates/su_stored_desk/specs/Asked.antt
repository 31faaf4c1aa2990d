-- A desk whose tree may lie on a store, and when that was asked.
use Rattle.std.specs.Prelude.{◌≡◌, ◌⊎◌, ℕ, List, [], ◌∷◌, Contains, Result, Ok, Err}
use Rattle.std.specs.Global.{Vec}
use Rattle.std.specs.List.{AllByRecursion}
use Rattle.su_bytes.specs.Membership.{Membership}
use Rattle.su_bytes.specs.declared.formats.TheConstants.{NEWEST_FORMAT}
use Rattle.su_bytes.specs.declared.refusals.Refusal.{Refusal}
use Rattle.su_block.specs.declared.failures.Failures.{Failures}
use Rattle.su_table.specs.Tree.{Tree}
use Rattle.su_op.specs.declared.operations.Change.{Change}
use Rattle.su_desk.specs.declared.entries.DeskReply.{DeskReply}
use Rattle.su_desk.specs.declared.entries.Entry.{Entry}
use Rattle.su_desk.specs.Answer.{answer}
use Rattle.su_desk.specs.Applied.{tree_after}
use Rattle.su_desk.specs.Desk.{DeskState, result_of, with_entry}
use Rattle.su_desk.specs.History.{entry_by}
use Rattle.su_desk.specs.Trial.{TrialState, tree_with_ready}
use Rattle.su_part.specs.Bytes.{NoneClash}
use Rattle.su_part.specs.Loads.{FailedAt}
use Rattle.su_part_forest.specs.Loading.{HashedFor}
use Rattle.su_part_tree.specs.Loading.{IsLoadRefusal}
use Rattle.su_stored_desk.specs.Right.{MayBecome}

-- What is seen of such a desk: what is settled and what stands ready; its store; and what the store
-- and the history were, that is what was settled then with what stood ready, each time before it was
-- asked for something.
pub record TrialOn (S : Type 0) : Type 0 where
  pub state : TrialState
  pub source : S
  pub asked : List (S × Vec Entry)

module _ {S : Type 0} (may_give : S → List ℕ → Type 0) where
  -- Each time that a store was asked, no byte string that is hashed for the tree of then had the digest
  -- of another one that the store might give. (It is what has to be believed of SHA-256 and of the
  -- items that were met, for a desk to be right.)
  abbrev pub NoneMixed : Membership → List (S × Vec Entry) → Type 0
  NoneMixed ro asked = AllByRecursion
      (λ a. NoneClash (HashedFor (tree_after ro a.1.items)) (may_give a.0)) asked

  -- so it was of a desk
  abbrev pub IsClear : TrialOn S → Type 0
  IsClear t = NoneMixed t.state.settled.roster t.asked

  -- so it shows the tree with what stands ready, while its store can't mix up items of that
  pub record ShowsReady (t : TrialOn S) (T : Tree) : Type 0 where
    pub clear : IsClear t
    pub unmixed : NoneClash (HashedFor T) (may_give t.source)
    pub tree : T ≡ tree_with_ready t.state

  -- its store may give only what meets P, and so might it each time that it was asked
  pub record GivesOnly (P : List ℕ → Type 0) (t : TrialOn S) : Type 0 where
    pub now : (i : List ℕ) → may_give t.source i → P i
    pub before : AllByRecursion (λ a. (i : List ℕ) → may_give a.0 i → P i) t.asked

  -- What may have become of it by calls that ask its store: so where it is clear, it was; and where
  -- it was asked since, its store might give no more than before.
  pub record Asks (comes : S → S → Type 0) (t u : TrialOn S) : Type 0 where
    pub source : MayBecome may_give comes t.source u.source
    pub clear : IsClear u → IsClear t
    pub only : (a : S × Vec Entry) → Contains u.asked a
        → Contains t.asked a ⊎ ((i : List ℕ) → may_give a.0 i → may_give t.source i)

  -- What may have become of it by questions about that tree, before each of which it is noted that
  -- the store is asked.
  pub record FollowsReady (comes : S → S → Type 0) (t u : TrialOn S) : Type 0 where
    pub state : u.state ≡ t.state
    pub asks : Asks comes t u

-- so it may fail when it is asked about a tree
abbrev pub FailsReady : {S : Type 0} → (S → Failures) → Tree → TrialOn S → Refusal → Type 0
FailsReady failed_of T t e = IsLoadRefusal e × FailedAt (HashedFor T) (failed_of t.source) e

-- ---- what is answered

-- What may be answered to an entry, and what the desk then is: the answer of its history, with the
-- entry where that is Done; or that something couldn't be loaded, or want of memory, with no change.
abbrev pub Answers : DeskState → Entry → Result ℕ Refusal → DeskState → Type 0
Answers d e (Ok n) d' = (answer d.roster d.history e ≡ Ok n) × (d' ≡ with_entry d e)
Answers d e (Err r) d' =
    (IsLoadRefusal r ⊎ (answer d.roster d.history e ≡ Err r)) × (d' ≡ d)

-- the replies to changes by users, each made after those before it, in the newest format
abbrev pub Runs : DeskState → List (ℕ × Change) → List DeskReply → DeskState → Type 0
Runs d [] [] d' = d' ≡ d
Runs d (c ∷ cs) (r ∷ rs) d' =
    (mid : DeskState) × Answers d (entry_by c.0 NEWEST_FORMAT c.1) (result_of r) mid
    × Runs mid cs rs d'
Runs d [] (r ∷ rs) d' = ⊥
Runs d (c ∷ cs) [] d' = ⊥
