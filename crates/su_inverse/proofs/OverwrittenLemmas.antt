-- What is overwritten by something that is brought back, and that there is room for it again.
use Rattle.std.proofs.Common.{◌≡◌, true, false, cond, Option, Some, None, sym, ap, ◌∙◌}
use Rattle.std.specs.Option.{is_some}
use Rattle.std.specs.FinMap.{get}
use Rattle.su_bytes.specs.declared.file_ids.FileId.{FileId}
use Rattle.su_bytes.specs.declared.file_ids.FileId.TheVariants.{Group}
use Rattle.su_node.specs.Name.{Name}
use Rattle.su_node.specs.Inode.{Inode, Content, Content.Bytes, Content.Names}
use Rattle.su_node.specs.Field.{Field.NameOf, Value.Nothing, file_value, field_value}
use Rattle.su_node.specs.InodeChange.{InodeChange.Named, inode_after}
use Rattle.su_bytes.specs.Place.{Place}
use Rattle.su_table.specs.Tree.{Tree}
use Rattle.su_table.specs.Cell.{Cell.At, Cell.Pointer, place_value, val}
use Rattle.su_table.specs.Query.{is_nothing, is_name_free_at, body}
use Rattle.su_table.specs.Edit.{Edit.Inodes, Edit.Pointers, edit, back}
use Rattle.su_op.proofs.Public.{get-set_name, name_eq-itself, place_eq-itself, field_after, pointer_is}
use Rattle.su_inverse.specs.declared.returns.Return.{Return}
use Rattle.su_inverse.specs.declared.returns.Return.TheVariants.{Name as NameReturn, Pointer as PointerReturn}
use Rattle.su_inverse.specs.Kept.{return_edit}
use Rattle.su_inverse.proofs.HeldLemmas.{pointer_in, name_there}

pub overwritten_name : (T : Tree) (r : Return) (p : Place) (x y : Name) (f : FileId) (o : Option FileId) → r ≡ NameReturn p x f → y ≡ x → file_value o ≡ val T (At p (NameOf x)) → Inodes p (Named y o) ≡ back T (return_edit r)
unfolding back
overwritten_name T r p x y f o is same was = ap (λ y. Inodes p (Named y o)) same ∙ ap (λ o. Inodes p (Named x o)) (name_there T p x o was) ∙ sym (ap (λ r. back T (return_edit r)) is)

pub overwritten_pointer : (T : Tree) (r : Return) (g p : Place) (o : Option Place) → r ≡ PointerReturn g p → o ≡ body T (Group g.0 g.1) → Pointers g o ≡ back T (return_edit r)
unfolding back
overwritten_pointer T r g p o is was = ap (Pointers g) (pointer_in T g.0 g.1 o was) ∙ sym (ap (λ r. back T (return_edit r)) is)

some_file : {P : Type 0} (o : Option FileId) → is_some o ≡ true → file_value o ≡ Nothing → P
some_file None s e = absurd cc
some_file (Some f) s e = absurd cc

room_name_at : (o : Option Inode) (x : Name) (f : FileId) (was : Option FileId) → is_some was ≡ true → file_value was ≡ field_value o (NameOf x) → is_nothing (field_value (inode_after (Named x (Some f)) o) (NameOf x)) ≡ false
room_name_at None x f was some e = some_file was some e
room_name_at (Some i) x f was some e = go i.content e
  where
    go : (c : Content) → file_value was ≡ field_value (Some (record i { content = c })) (NameOf x) → is_nothing (field_value (inode_after (Named x (Some f)) (Some (record i { content = c }))) (NameOf x)) ≡ false
    go (Bytes bs) e = some_file was some e
    go (Names m) e = ap (λ o. is_nothing (file_value o)) (get-set_name m x (Some f) x ∙ ap (λ b. cond b (Some f) (get m x)) (name_eq-itself x))

pub room_name : (T : Tree) (r : Return) (p : Place) (x y : Name) (f : FileId) (o : Option FileId) → r ≡ NameReturn p x f → y ≡ x → file_value o ≡ val T (At p (NameOf x)) → is_some o ≡ true → is_name_free_at (edit T (return_edit r)) p y ≡ false
unfolding val
room_name T r p x y f o is same was some =
    ap (λ r. is_name_free_at (edit T (return_edit r)) p y) is ∙ ap (λ y. is_name_free_at (edit T (Inodes p (Named x (Some f)))) p y) same
    ∙ ap is_nothing (field_after T p (Named x (Some f)) (NameOf x)) ∙ room_name_at (get T.inodes p) x f o some was

pub room_pointer : (T : Tree) (r : Return) (g p : Place) → r ≡ PointerReturn g p → is_nothing (val (edit T (return_edit r)) (Pointer g)) ≡ false
room_pointer T r g p is =
    ap (λ r. is_nothing (val (edit T (return_edit r)) (Pointer g))) is
    ∙ ap is_nothing (pointer_is T g (Some p) g ∙ ap (λ b. cond b (place_value (Some p)) (val T (Pointer g))) (place_eq-itself g))
