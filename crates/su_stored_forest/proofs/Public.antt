-- What is shown and what is held, beside what a source may give: for the proofs of who has a forest
-- on a store.
use Rattle.std.specs.Prelude.{List, ℕ}
use Rattle.su_block.specs.declared.sources.BlockSource.{Ghosts}
use Rattle.su_table.specs.Tree.{Tree}
use Rattle.su_part.specs.Bytes.{NoneClash}
use Rattle.su_part_forest.specs.Loading.{HashedFor}
use Rattle.su_stored_forest.specs.Shows.{Holds, Shows}
use Rattle.su_stored_forest.specs.declared.stored.StoredForest.{StoredForest}

-- what it shows it holds
pub shows_holds : {S : Type 0} {g : Ghosts S} (may_give : S → List ℕ → Type 0) (r : StoredForest S g) (T : Tree) → Shows may_give r T → Holds r T
shows_holds may_give r T shown = record { stands = shown.stands; taken = shown.taken }

-- what it holds it shows, where nothing of that clashes with what its source may give
pub holds_shows : {S : Type 0} {g : Ghosts S} (may_give : S → List ℕ → Type 0) (r : StoredForest S g) (T : Tree) → Holds r T → NoneClash (HashedFor T) (may_give r.source) → Shows may_give r T
holds_shows may_give r T held free = record { stands = held.stands; free = free; taken = held.taken }

-- what it holds it holds beside any other source
pub holds_beside : {S : Type 0} {g : Ghosts S} (r : StoredForest S g) (source : S) (T : Tree) → Holds r T → Holds (record r { source = source }) T
holds_beside r source T held = record { stands = held.stands; taken = record { users = held.taken.users; groups = held.taken.groups } }
