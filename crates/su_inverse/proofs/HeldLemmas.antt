-- What a tree holds in an area, seen by its inodes and pointers.
use Rattle.std.proofs.Common.{◌≡◌, ℕ, Option, Some, None, refl, sym, ap, ◌∙◌}
use Rattle.std.specs.FinMap.{get}
use Rattle.su_bytes.specs.declared.file_ids.FileId.{FileId}
use Rattle.su_bytes.specs.declared.file_ids.FileId.TheVariants.{Group}
use Rattle.su_node.specs.Name.{Name}
use Rattle.su_node.specs.Inode.{Inode, Content, Content.Bytes, Content.Names, bytes_of}
use Rattle.su_node.specs.Field.{Field, Field.KindOf, Field.NameOf, Value, file_value, field_value}
use Rattle.su_bytes.specs.Place.{Place}
use Rattle.su_table.specs.Tree.{Tree}
use Rattle.su_table.specs.Cell.{Cell.At, Cell.Pointer, place_value, val}
use Rattle.su_table.specs.Query.{pointer_body, body}
use Rattle.su_table.specs.Edit.{name_in}
use Rattle.su_op.specs.declared.areas.Part.{Part}
use Rattle.su_op.specs.declared.areas.Part.TheVariants.{Kind as KindPart, Links as LinksPart, Size as SizePart, Name as NamePart, Blocks as BlocksPart, Whole as WholePart}
use Rattle.su_op.specs.declared.areas.Area.TheVariants.{Inode as InodeArea}
use Rattle.su_op.proofs.Public.{file_value_same, place_value_same}
use Rattle.su_inverse.specs.Kept.{CanKeep, HoldsNothing}

pub field_at : (T : Tree) (p : Place) (o : Option Inode) (f : Field) → o ≡ get T.inodes p → field_value o f ≡ val T (At p f)
unfolding val
field_at T p o f is = ap (λ o. field_value o f) is

-- nothing stands there
pub no_inode_held : (T : Tree) (p : Place) (a : Part) → None ≡ get T.inodes p → CanKeep T (InodeArea p a) → HoldsNothing T (InodeArea p a)
no_inode_held T p KindPart is can = sym (field_at T p None KindOf is)
no_inode_held T p LinksPart is can = sym (field_at T p None KindOf is)
no_inode_held T p SizePart is can = sym (field_at T p None KindOf is)
no_inode_held T p WholePart is can = sym (field_at T p None KindOf is)
no_inode_held T p (NamePart x) is can = sym (field_at T p None (NameOf x) is)
no_inode_held T p (BlocksPart r) is can = ap bytes_of (sym is)

pointer_is : (v : Value) (o : Option Place) → o ≡ pointer_body v → v ≡ place_value (pointer_body v) → v ≡ place_value o
pointer_is v o e d = d ∙ ap place_value (sym e)

place_value_back : (o : Option Place) → place_value o ≡ place_value (pointer_body (place_value o))
place_value_back None = refl
place_value_back (Some p) = refl

-- the body of a group file is what its pointer says
pub pointer_at : (T : Tree) (g k : ℕ) (o : Option Place) → o ≡ body T (Group g k) → val T (Pointer (g, k)) ≡ place_value o
unfolding val body
pointer_at T g k o is = pointer_is (place_value (get T.pointers (g, k))) o is (place_value_back (get T.pointers (g, k)))

pub pointer_in : (T : Tree) (g k : ℕ) (o : Option Place) → o ≡ body T (Group g k) → o ≡ get T.pointers (g, k)
unfolding val
pointer_in T g k o is = place_value_same o (get T.pointers (g, k)) (sym (pointer_at T g k o is))

name_in-value : (o : Option Inode) (x : Name) → field_value o (NameOf x) ≡ file_value (name_in o x)
name_in-value None x = refl
name_in-value (Some i) x = go i.content
  where
    go : (c : Content) → field_value (Some (record i { content = c })) (NameOf x) ≡ file_value (name_in (Some (record i { content = c })) x)
    go (Bytes bs) = refl
    go (Names m) = refl

pub name_there : (T : Tree) (p : Place) (x : Name) (o : Option FileId) → file_value o ≡ val T (At p (NameOf x)) → o ≡ name_in (get T.inodes p) x
unfolding val
name_there T p x o is = file_value_same o (name_in (get T.inodes p) x) (is ∙ name_in-value (get T.inodes p) x)
