-- What takes the last entries of a desk back.
use Rattle.std.specs.Prelude.{◌≡◌, ℕ, List, [], ◌∷◌, ◌++◌, length, Some, ⊤}
use Rattle.su_bytes.specs.Membership.{Membership}
use Rattle.su_table.specs.Tree.{Tree, genesis}
use Rattle.su_op.specs.declared.operations.Change.{Change}
use Rattle.su_op.specs.declared.operations.Change.TheVariants.{Do, Undo, Rekey}
use Rattle.su_part_inverse.specs.Kept.{IsPutBack}
use Rattle.su_desk.specs.declared.entries.Entry.{Entry}
use Rattle.su_stored_desk.specs.declared.prepared.Undone.{Undone}
use Rattle.su_stored_desk.specs.declared.prepared.Tried.{Tried}
use Rattle.su_stored_desk.specs.declared.prepared.Means.{Means}
use Rattle.su_stored_desk.specs.declared.prepared.Means.TheVariants.{Kept, Held, Named}
use Rattle.su_desk.specs.History.{NumberedAction, live, replay}
use Rattle.su_desk.specs.Version.{versions}
use Rattle.su_desk.specs.Desk.{DeskState, with_entry}
use Rattle.su_stored_desk.specs.Keeping.{Fits, KeptOperation}
use Rattle.su_desk.specs.Trial.{TrialState, tree_of, split_before}

-- Operation n is live, and what is kept of it fits the tree where it comes in the replay.
pub record IsKept (ro : Membership) (h : List Entry) (n : ℕ) (k : KeptOperation) : Type 0 where
  pub before : List NumberedAction
  pub operation : NumberedAction
  pub after : List NumberedAction
  pub earlier : Tree
  pub whole : live h ≡ before ++ operation ∷ after
  pub number : operation.number ≡ n
  pub reached : replay ro genesis before ≡ Some earlier
  pub fits : Fits ro earlier operation k

-- Of an entry that undoes n: what it took out is what was kept of n, and what was held puts the
-- tree before it back.
pub record TakesUndoBack (d : DeskState) (e : Entry) (n : ℕ) (u : Undone) : Type 0 where
  pub kept : IsKept d.roster d.history n u.operation
  pub back : IsPutBack u.held (tree_of (with_entry d e)) (tree_of d)

-- of an entry, whose change is given: what takes an operation back is kept with it; an undo goes by
-- what it took out, and a rekey by the key that it named
abbrev pub TakesChangeBack : DeskState → Entry → Change → Means → Type 0
TakesChangeBack d e (Do op) Kept = ⊤
TakesChangeBack d e (Undo n) (Held u) = TakesUndoBack d e n u
TakesChangeBack d e (Rekey k) (Named key) = key ≡ k
TakesChangeBack d e (Do op) (Held u) = ⊥
TakesChangeBack d e (Do op) (Named key) = ⊥
TakesChangeBack d e (Undo n) Kept = ⊥
TakesChangeBack d e (Undo n) (Named key) = ⊥
TakesChangeBack d e (Rekey k) Kept = ⊥
TakesChangeBack d e (Rekey k) (Held u) = ⊥

-- this takes an entry back, after which a desk is d again
pub record TakesBack (d : DeskState) (e : Entry) (t : Tried) : Type 0 where
  pub versions : t.versions.items ≡ versions d.roster d.history
  pub change : TakesChangeBack d e e.change t.means

-- this takes the last entry of a desk back
abbrev pub TakesLastBack : DeskState → Tried → Type 0
TakesLastBack s t = (d : DeskState) × (e : Entry) × (s ≡ with_entry d e) × TakesBack d e t

-- these take entries back that were made from d one after another, each its own
abbrev pub TakeAllBack : DeskState → List Entry → List Tried → Type 0
TakeAllBack d [] [] = ⊤
TakeAllBack d (e ∷ es) (t ∷ ts) =
    TakesBack d e t × TakeAllBack (with_entry d e) es ts
TakeAllBack d [] (t ∷ ts) = ⊥
TakeAllBack d (e ∷ es) [] = ⊥

-- what is seen of a desk and what takes its last entries back, one for each: these stand ready
abbrev pub seen_of : DeskState → List Tried → TrialState
seen_of d ts = split_before d (length ts)

-- these take the last entries of a desk back, which so stand ready
abbrev pub TriedFits : DeskState → List Tried → Type 0
TriedFits s ts = TakeAllBack (seen_of s ts).settled (seen_of s ts).ready ts
