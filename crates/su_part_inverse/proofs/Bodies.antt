-- Where the pointer of a group file leads is seen where it is loaded.
use Rattle.std.proofs.Common.{◌≡◌, ap}
use Rattle.su_bytes.specs.Place.{GroupFile}
use Rattle.su_bytes.specs.declared.file_ids.FileId.TheVariants.{Group}
use Rattle.su_table.specs.Query.{body, pointer_body}
use Rattle.su_table.specs.Tree.{Tree}
use Rattle.su_part_forest.specs.Forest.{Stands, HasPointerAt}
use Rattle.su_part_forest.specs.Seen.{seen}
use Rattle.su_part_forest.specs.declared.forests.PartForest.{PartForest}
use Rattle.su_part_forest.proofs.Public.{pointer_seen}

pub body_seen : (f : PartForest) (F : Tree) → Stands f F → (g : GroupFile) → HasPointerAt g f → body (seen f) (Group g.0 g.1) ≡ body F (Group g.0 g.1)
unfolding body
body_seen f F h g has = ap pointer_body (pointer_seen f F h g has)
