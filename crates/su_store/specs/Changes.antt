-- What a call makes of what is kept.
use Rattle.std.specs.Prelude.{◌≡◌, ℕ, List, [], ◌∷◌, ◌++◌, length, IsTrue, false}
use Rattle.sqlite.specs.Tree.{Trees}
use Rattle.sqlite.specs.State.{State}
use Rattle.su_store.specs.Kept.{Kept, with_block, with_blocks, with_record}
use Rattle.su_store.specs.Tables.{Stands, store_schema}

-- whatever the old tables stand for, the new ones stand for what the change makes of it
abbrev pub Turns : (Kept → Kept) → Trees → Trees → Type 0
Turns change old new = (kept : Kept) → Stands kept old → Stands (change kept) new

-- one more record at the end, and the blocks that it needs
abbrev pub Extends : List ℕ → List (List ℕ) → Trees → Trees → Type 0
Extends bytes blocks = Turns (λ kept. with_record kept bytes blocks)

-- one more record at the end, which has this number
abbrev pub PutsRecord : ℕ → List ℕ → Trees → Trees → Type 0
PutsRecord number bytes old new =
    (kept : Kept) → length kept.records ≡ number → Stands kept old
    → Stands (record kept { records = kept.records ++ bytes ∷ [] }) new

-- one more block, with a digest that no other has
abbrev pub PutsBlock : List ℕ → Trees → Trees → Type 0
PutsBlock block = Turns (λ kept. record kept { blocks = kept.blocks ++ block ∷ [] })

-- one more block, unless one of its digest is kept
abbrev pub HoldsBlock : List ℕ → Trees → Trees → Type 0
HoldsBlock block = Turns (λ kept. record kept { blocks = with_block kept.blocks block })

-- each of these blocks, in the same way
abbrev pub HoldsBlocks : List (List ℕ) → Trees → Trees → Type 0
HoldsBlocks blocks = Turns (λ kept. record kept { blocks = with_blocks kept.blocks blocks })

-- What a crash may leave of a call that holds a block: the tables that were shown, which it could
-- leave before the call too, with the block.
pub record LeavesBlock (block : List ℕ) (old : State) (db : Trees) : Type 0 where
  pub shown : old.may_leave old.now.trees
  pub held : HoldsBlock block old.now.trees db

-- the tables stand for so many records
abbrev pub HasRecords : ℕ → Trees → Type 0
HasRecords count db = (kept : Kept) → Stands kept db → length kept.records ≡ count

-- The change is made inside a transaction, which goes on, and nothing is committed.
pub record MakesInside (Change : Trees → Trees → Type 0) (old new : State) : Type 0 where
  pub made : Change old.now.trees new.now.trees
  pub schema : new.now.schema ≡ store_schema
  pub begun : IsTrue new.in_transaction
  pub committed : new.committed ≡ old.committed

-- The change is made and committed: each crash from now on leaves it, and another call may follow.
pub record Keeps (Change : Trees → Trees → Type 0) (old new : State) : Type 0 where
  pub kept : Change old.now.trees new.committed.trees
  pub durable : (db : Trees) → new.may_leave db → Change old.now.trees db
  pub same : new.now ≡ new.committed
  pub schema : new.now.schema ≡ store_schema
  pub alone : new.in_transaction ≡ false
  pub is_open : IsTrue new.is_open
