-- Batches and the actions in them.
use Rattle.std.specs.Prelude.{◌≡◌, not, ◌&&◌, ◌||◌, IsTrue, List, [], ◌∷◌, ◌++◌}
use Rattle.su_undo.specs.System.{System}
use Rattle.su_undo.specs.Replay.{replay}
use Rattle.su_undo.specs.Union.{Union}
use Rattle.su_undo.specs.Batch.{batched, all_reads}

-- the actions of batches, in order
abbrev pub flat : {A : Type 0} → List (List A) → List A
flat [] = []
flat (xs ∷ rest) = xs ++ flat rest

-- Batches lead where their actions lead, and where one isn't accepted neither are they.
abbrev pub ReplaysFlat : (s : System) → Union s → Type 0
ReplaysFlat s u = (S : s.State) (xss : List (List s.Action)) → replay (batched s u) S xss ≡ replay s S (flat xss)

-- A cell that an earlier action wrote and a later one reads was read by the earlier one too: what
-- two actions read is what the first reads, and of what the second reads what the first didn't
-- write.
abbrev pub NothingReadInside : (s : System) → Union s → Type 0
NothingReadInside s u =
    (S : s.State) (x : s.Action) (xs : List s.Action) (c : s.Cell) → s.Sound S → IsTrue (s.ok S x)
    → s.has (all_reads s u S (x ∷ xs)) c
    ≡ (s.has (s.reads S x) c || (s.has (all_reads s u (s.act S x) xs) c && not (s.has (s.writes S x) c)))
