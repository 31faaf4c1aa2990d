-- What holds of every tree that operations make of the first one.
use Rattle.std.specs.Prelude.{◌≡◌, ℕ, ◌≤◌, Bool, true, ◌⊎◌, ⊤, Option}
use Rattle.std.specs.FinMap.{get}
use Rattle.su_bytes.specs.declared.file_ids.FileId.{FileId}
use Rattle.su_bytes.specs.declared.file_ids.FileId.TheVariants.{Group}
use Rattle.su_bytes.specs.declared.file_ids.Kind.{Kind}
use Rattle.su_bytes.specs.declared.file_ids.Kind.TheVariants.{Dir}
use Rattle.su_bytes.specs.Place.{Place}
use Rattle.su_node.specs.Inode.{Inode}
use Rattle.su_table.specs.Tree.{Tree}
use Rattle.su_node.specs.Field.{Field, Field.KindOf, Field.LinksOf, Value.Nothing, Value.AKind, Value.ANumber, Value.APlace, field_value}
use Rattle.su_table.specs.Cell.{Cell, Cell.At, Cell.Pointer, val}
use Rattle.su_op.specs.Limits.{most_links}
use Rattle.su_table.specs.Query.{is_free_at, is_file_at}
use Rattle.su_op.specs.declared.areas.Part.TheVariants.{Kind as KindPart}
use Rattle.su_op.specs.declared.areas.Area.{Area}
use Rattle.su_op.specs.declared.areas.Area.TheVariants.{Inode as InodeArea}

-- an inode of that kind
abbrev pub IsA : Kind → Option Inode → Type 0
IsA k o = (home : FileId) × (field_value o KindOf ≡ AKind k home)

-- a directory has one link, and a file up to the most
pub record WellLinked (o : Option Inode) : Type 0 where
  pub one : IsA Dir o → field_value o LinksOf ≡ ANumber 1
  pub few : (l : ℕ) → field_value o LinksOf ≡ ANumber l → (1 ≤ l) × (l ≤ most_links)

-- what stands at p was made for group file g
abbrev pub IsBodyOf : Tree → Place → Place → Type 0
IsBodyOf T g p = (k : Kind) × (val T (At p KindOf) ≡ AKind k (Group g.0 g.1))

-- links are in their range, and each group's pointer points at an inode that was made for that
-- group file
pub record Sound (T : Tree) : Type 0 where
  pub linked : (p : Place) → WellLinked (get T.inodes p)
  pub homes : (g p : Place) → val T (Pointer g) ≡ APlace p → IsBodyOf T g p

-- ---- what is written of an inode in a tree, by the cells that are written

-- all of it, or nothing stood there
abbrev pub WholeOrNew : Tree → Place → (Cell → Bool) → Type 0
WholeOrNew T p w = (val T (At p KindOf) ≡ Nothing) ⊎ ((f : Field) → w (At p f) ≡ true)

-- the area isn't the kind alone of what stands in T: that is written only where nothing stands
abbrev pub KindIsNew : Tree → Area → Type 0
KindIsNew T (InodeArea p KindPart) = is_free_at T p ≡ true
KindIsNew T a = ⊤

-- its kind too, or a file stands there
abbrev pub KindOrFile : Tree → Place → (Cell → Bool) → Type 0
KindOrFile T p w = (w (At p KindOf) ≡ true) ⊎ (is_file_at T p ≡ true)
