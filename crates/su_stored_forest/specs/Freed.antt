-- What becomes of the numbers that are known to be taken where cells change.
use Rattle.std.specs.Prelude.{◌≡◌, ◌||◌, ℕ, Bool, false, List}
use Rattle.su_bytes.specs.declared.file_ids.FileId.TheVariants.{Group}
use Rattle.su_node.specs.Field.{Field.KindOf}
use Rattle.su_block.specs.declared.sources.BlockSource.{Ghosts}
use Rattle.su_table.specs.Cell.{Cell, Cell.At, Cell.Pointer, val}
use Rattle.su_table.specs.Query.{is_free_at, is_pointer_free}
use Rattle.su_table.specs.Tree.{Tree}
use Rattle.su_op.specs.declared.areas.Area.{Area}
use Rattle.su_op.specs.Area.{has}
use Rattle.su_stored_forest.specs.Fronts.{AreAllFronts}
use Rattle.su_stored_forest.specs.declared.stored.StoredForest.{StoredForest}

-- outside of the areas V holds what T does
abbrev pub AgreeBeside : List Area → Tree → Tree → Type 0
AgreeBeside w T V = (c : Cell) → has w c ≡ false → val V c ≡ val T c

-- free numbers in T, and those whose kind or pointer is in the areas
abbrev pub free_or_in : List Area → Tree → ℕ → ℕ → Bool
free_or_in w T u n = is_free_at T (u, n) || has w (At (u, n) KindOf)

abbrev pub unled_or_in : List Area → Tree → ℕ → ℕ → Bool
unled_or_in w T k n = is_pointer_free T (Group k n) || has w (Pointer (k, n))

-- those that are known to be taken are taken in T, but for those whose kind or pointer is in the
-- areas
pub record KnowsTakenBeside {S : Type 0} {g : Ghosts S} (w : List Area) (T : Tree)
    (r : StoredForest S g) : Type 0 where
  pub users : AreAllFronts (free_or_in w T) r.users.items
  pub groups : AreAllFronts (unled_or_in w T) r.groups.items
