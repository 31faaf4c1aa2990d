-- What a forest on a store shows.
use Rattle.std.specs.Prelude.{List, ℕ}
use Rattle.su_bytes.specs.declared.file_ids.FileId.TheVariants.{Group}
use Rattle.su_bytes.specs.declared.refusals.Refusal.{Refusal}
use Rattle.su_block.specs.declared.sources.BlockSource.{Ghosts}
use Rattle.su_block.specs.declared.failures.Failures.{Failures}
use Rattle.su_table.specs.Query.{is_free_at, is_pointer_free}
use Rattle.su_table.specs.Tree.{Tree}
use Rattle.su_part_tree.specs.Loading.{IsLoadRefusal}
use Rattle.su_part.specs.Bytes.{NoneClash}
use Rattle.su_part.specs.Loads.{FailedAt}
use Rattle.su_part_forest.specs.Forest.{Stands}
use Rattle.su_part_forest.specs.Loading.{HashedFor, KeepsLoaded}
use Rattle.su_stored_forest.specs.Fronts.{AreAllFronts}
use Rattle.su_stored_forest.specs.declared.stored.StoredForest.{StoredForest}

-- the numbers that are known to be taken are taken in T
pub record KnowsTaken {S : Type 0} {g : Ghosts S} (T : Tree) (r : StoredForest S g) : Type 0 where
  pub users : AreAllFronts (λ u n. is_free_at T (u, n)) r.users.items
  pub groups : AreAllFronts (λ k n. is_pointer_free T (Group k n)) r.groups.items

-- It holds the tree: its parts stand for it, and it knows no number as taken that is free. That is
-- what it shows but for what its source may give.
pub record Holds {S : Type 0} {g : Ghosts S} (r : StoredForest S g) (T : Tree) : Type 0 where
  pub stands : Stands r.forest T
  pub taken : KnowsTaken T r

-- It shows the tree: its parts stand for it; no byte string that is hashed for the tree has the
-- digest of another one that its source may give; and it knows no number as taken that is free.
pub record Shows {S : Type 0} {g : Ghosts S} (may_give : S → List ℕ → Type 0)
    (r : StoredForest S g) (T : Tree) : Type 0 where
  pub stands : Stands r.forest T
  pub free : NoneClash (HashedFor T) (may_give r.source)
  pub taken : KnowsTaken T r

-- so it may fail when it is asked about the tree: a failure of its source is about an item of it
abbrev pub Fails : {S : Type 0} {g : Ghosts S} → (S → Failures)
    → Tree → StoredForest S g → Refusal → Type 0
Fails failed_of T r e = IsLoadRefusal e × FailedAt (HashedFor T) (failed_of r.source) e

-- what may have become of it by questions: what was loaded is loaded, and the source may give
-- nothing more
pub record Follows {S : Type 0} {g : Ghosts S} (may_give : S → List ℕ → Type 0)
    (comes : S → S → Type 0) (r s : StoredForest S g) : Type 0 where
  pub source : comes r.source s.source
  pub no_more : (i : List ℕ) → may_give s.source i → may_give r.source i
  pub keeps : KeepsLoaded r.forest s.forest
