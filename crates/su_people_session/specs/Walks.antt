-- What is found in a folder of the tree that is held.
use Rattle.std.specs.Prelude.{◌≡◌, List, Ok, map}
use Rattle.su_bytes.specs.declared.file_ids.FileId.{FileId}
use Rattle.su_node.specs.Name.{Name}
use Rattle.su_people_session.specs.declared.walks.Found.{Found}
use Rattle.su_table.specs.Query.{listing}
use Rattle.su_view.specs.Holding.{HoldingState, tree_of_list}

-- these are the files to which the names of the folder lead, in their order
abbrev pub AreNamed : HoldingState → FileId → List Found → Type 0
AreNamed v folder all =
    (names : List (Name × FileId)) × (listing (tree_of_list v) folder ≡ Ok names)
    × (map (λ it. it.file) all ≡ map (λ name. name.1) names)
