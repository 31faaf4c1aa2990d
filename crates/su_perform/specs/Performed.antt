-- What performing an operation needs of a forest besides areas that are loaded.
use Rattle.std.specs.Prelude.{◌≡◌, true, List, ◌∷◌, Some, ⊤}
use Rattle.su_bytes.specs.Place.{Place}
use Rattle.su_bytes.specs.declared.file_ids.FileId.{FileId}
use Rattle.su_bytes.specs.declared.file_ids.FileId.TheVariants.{User, Group}
use Rattle.su_node.specs.InodeChange.{InodeChange.Made}
use Rattle.su_table.specs.Edit.{Edit, Edit.Inodes}
use Rattle.su_table.specs.Query.{is_free_at}
use Rattle.su_table.specs.Tree.{Tree}
use Rattle.su_op.specs.Footprint.{edits_areas}
use Rattle.su_op.specs.Rule.{pointer_edits}
use Rattle.su_part.specs.declared.fetches.Wanted.TheVariants.{Nothing}
use Rattle.su_part_forest.specs.Forest.{IsThereAt}
use Rattle.su_part_forest.specs.Known.{Knows, Want.OfGroup}
use Rattle.su_part_forest.specs.Loading.{HasAt}
use Rattle.su_part_forest.specs.declared.forests.PartForest.{PartForest}
use Rattle.su_perform.specs.Loaded.{HasAreas}
use Rattle.su_perform.specs.declared.create.AcceptedCreate.{AcceptedCreate}

-- where a created file stands
abbrev pub created_at : AcceptedCreate → Place
created_at x = (x.author, x.create.now.body)

-- what a create does behind the name: the inode, and a group file's pointer
abbrev pub added_edits : AcceptedCreate → List Edit
added_edits x = Inodes (created_at x) (Made x.create.now.file x.create.now.kind)
    ∷ pointer_edits x.create.now.file (Some (created_at x))

-- nothing stands where the inode is created, and that and the pointer are loaded
pub record IsReady (T : Tree) (f : PartForest) (x : AcceptedCreate) : Type 0 where
  pub free : is_free_at T (created_at x) ≡ true
  pub inode : HasAt (created_at x) Nothing f
  pub pointer : HasAreas T f (edits_areas (pointer_edits x.create.now.file (Some (created_at x))))

-- the pointer of a group file is known; a user's file has none
abbrev pub KnowsPointerOf : Tree → FileId → PartForest → Type 0
KnowsPointerOf T (User u n) f = ⊤
KnowsPointerOf T (Group g n) f = Knows T (OfGroup (g, n)) f

-- the inode at p is loaded, if one stands there, and that none stands at q
pub record CanCopy (T : Tree) (f : PartForest) (p q : Place) : Type 0 where
  pub there : IsThereAt p T f
  pub free : is_free_at T q ≡ true
  pub inode : HasAt q Nothing f
