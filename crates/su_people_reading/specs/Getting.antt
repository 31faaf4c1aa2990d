-- What a get hands on.
use Rattle.std.specs.Prelude.{◌≡◌, ◌⊎◌, ◌++◌, ◌∷◌, [], ℕ, List, Ok, cond, length, map}
use Rattle.std.specs.Global.{Vec}
use Rattle.su_bytes.specs.declared.file_ids.FileId.{FileId}
use Rattle.su_people_reading.specs.declared.getting.Got.{Got}
use Rattle.su_table.specs.Query.{contents}
use Rattle.su_view.specs.Holding.{HoldingState, tree_of_list}

-- the files among the pairs of a log
abbrev pub files_in : List (Vec ℕ × Unit {0}) → List (List ℕ)
files_in pairs = map (λ pair. pair.0.items) pairs

-- nothing is handed on, or just the contents that the file has in the tree of the list that is held
abbrev pub HandsOn : HoldingState → FileId → List (List ℕ) → List (List ℕ) → Type 0
HandsOn v file before after = (after ≡ before) ⊎ ((bytes : List ℕ)
    × (contents (tree_of_list v) file ≡ Ok bytes) × (after ≡ before ++ bytes ∷ []))

-- what a target was handed, and what it said that it has
pub record Told : Type 0 where
  pub handed : List (List ℕ)
  pub found : List (List ℕ)

-- The file is got, and this is told of it: the target was handed just the contents that the file has
-- in the tree of the list that is held, or it said that it has them.
pub record IsGot (v : HoldingState) (file : FileId) (got : Got) (before after : Told) : Type 0 where
  pub bytes : List ℕ
  pub contents_are : contents (tree_of_list v) file ≡ Ok bytes
  pub size : got.size ≡ length bytes
  pub handed : after.handed ≡ before.handed ++ cond got.is_written (bytes ∷ []) []
  pub found : after.found ≡ before.found ++ cond got.is_written [] (bytes ∷ [])
