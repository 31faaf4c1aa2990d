-- What takes single edits back where they add to what is free.
use Rattle.std.proofs.Common.{◌≡◌, ◌∙◌, sym, refl, ap, ℕ, Bool, true, false, cond, Option, Some, None}
use Rattle.std.specs.Ordering.{eq_by_cmp}
use Rattle.std.specs.FinMap.{get}
use Rattle.su_bytes.specs.declared.file_ids.FileId.{FileId}
use Rattle.su_bytes.specs.declared.file_ids.FileId.TheVariants.{User, Group}
use Rattle.su_bytes.specs.declared.file_ids.Kind.{Kind}
use Rattle.su_node.specs.Name.{Name}
use Rattle.su_bytes.specs.Place.{Place, place_cmp}
use Rattle.su_node.specs.Inode.{Inode, Content, Content.Bytes, Content.Names, new_inode}
use Rattle.su_table.specs.Tree.{Tree}
use Rattle.su_node.specs.Field.{Field.KindOf, Field.NameOf, file_value, field_value}
use Rattle.su_table.specs.Cell.{Cell.Pointer, place_value, val}
use Rattle.su_table.specs.Query.{is_nothing, is_free_at, is_name_free_at, is_pointer_free}
use Rattle.su_node.specs.InodeChange.{InodeChange, InodeChange.Named, InodeChange.Made, InodeChange.Copied, InodeChange.Gone, inode_after}
use Rattle.su_table.specs.Edit.{Edit.Inodes, Edit.Pointers, edit, back, name_in, restoring}
use Rattle.su_op.specs.declared.create.Create.{Create}
use Rattle.su_op.specs.Rule.{pointer_edits}
use Rattle.su_op.specs.Create.{create_plan}
use Rattle.su_op.specs.Growth.{AreFreeFor}
use Rattle.su_node.proofs.Public.{get-set_key, eq_by_cmp-same}
use Rattle.su_table.proofs.Public.{edit-back, place_cmp_total, place_cmp_exact}
use Rattle.su_op.proofs.EditLemmas.{pointer_after}

-- ---- values that are nothing

no_file : (o : Option FileId) → is_nothing (file_value o) ≡ true → o ≡ None
no_file None e = refl
no_file (Some f) e = absurd cc

no_place : (o : Option Place) → is_nothing (place_value o) ≡ true → o ≡ None
no_place None e = refl
no_place (Some p) e = absurd cc

pub no_inode : (o : Option Inode) → is_nothing (field_value o KindOf) ≡ true → o ≡ None
no_inode None e = refl
no_inode (Some i) e = absurd cc

no_name : (o : Option Inode) (x : Name) → is_nothing (field_value o (NameOf x)) ≡ true → name_in o x ≡ None
no_name None x e = refl
no_name (Some i) x e = go i.content e
  where
    go : (c : Content) → is_nothing (field_value (Some (record i { content = c })) (NameOf x)) ≡ true → name_in (Some (record i { content = c })) x ≡ None
    go (Bytes bs) e = refl
    go (Names m) e = no_file (get m x) e

-- ---- taking back what was added to what was free

pub back_name : (T : Tree) (d : Place) (x : Name) (f : FileId) → is_name_free_at T d x ≡ true → back T (Inodes d (Named x (Some f))) ≡ Inodes d (Named x None)
unfolding back val
back_name T d x f free = ap (λ o. Inodes d (Named x o)) (no_name (get T.inodes d) x free)

pub back_copied : (T : Tree) (p : Place) (i : Inode) → is_free_at T p ≡ true → back T (Inodes p (Copied i)) ≡ Inodes p Gone
unfolding back val
back_copied T p i free = ap (λ o. Inodes p (restoring o)) (no_inode (get T.inodes p) free)

pub back_pointer : (T : Tree) (g p : Place) → is_nothing (val T (Pointer g)) ≡ true → back T (Pointers g (Some p)) ≡ Pointers g None
unfolding back val
back_pointer T g p free = ap (Pointers g) (no_place (get T.pointers g) free)

-- ---- what edits leave

-- what stands at a place after a change of a place
pub get-edit : (T : Tree) (p : Place) (ch : InodeChange) (q : Place) → get (edit T (Inodes p ch)).inodes q ≡ cond (eq_by_cmp place_cmp q p) (inode_after ch (get T.inodes p)) (get T.inodes q)
unfolding edit
get-edit T p ch q = get-set_key place_cmp_total T.inodes p (inode_after ch (get T.inodes p)) q

named_keeps_kind : (x : Name) (v : Option FileId) (o : Option Inode) → is_nothing (field_value (inode_after (Named x v) o) KindOf) ≡ is_nothing (field_value o KindOf)
named_keeps_kind x v None = refl
named_keeps_kind x v (Some i) = refl

-- of a property of the inode at q that the change of p keeps
kept_at : {A : Type 0} (prop : Option Inode → A) (T : Tree) (p : Place) (ch : InodeChange) (q : Place) → prop (inode_after ch (get T.inodes p)) ≡ prop (get T.inodes p) → prop (get (edit T (Inodes p ch)).inodes q) ≡ prop (get T.inodes q)
kept_at prop T p ch q same = ap prop (get-edit T p ch q) ∙ go (eq_by_cmp place_cmp q p) refl
  where
    go : (b : Bool) → eq_by_cmp place_cmp q p ≡ b → prop (cond b (inode_after ch (get T.inodes p)) (get T.inodes q)) ≡ prop (get T.inodes q)
    go true is = same ∙ ap (λ r. prop (get T.inodes r)) (sym (eq_by_cmp-same place_cmp_exact q p is))
    go false is = refl

-- a name changes no kind
pub is_free_at-with_name : (T : Tree) (d : Place) (x : Name) (v : Option FileId) (p : Place) → is_free_at (edit T (Inodes d (Named x v))) p ≡ is_free_at T p
unfolding val
is_free_at-with_name T d x v p = kept_at (λ o. is_nothing (field_value o KindOf)) T d (Named x v) p (named_keeps_kind x v (get T.inodes d))

pub back_gone : (T : Tree) (p : Place) → back T (Inodes p Gone) ≡ Inodes p (restoring (get T.inodes p))
unfolding back
back_gone T p = refl

-- ---- a create

-- what a create adds stands nowhere yet
pub create_free : (T : Tree) (a : ℕ) (c : Create) (d : Place) → is_name_free_at T d c.name ≡ true → is_free_at T (a, c.body) ≡ true → is_pointer_free T c.file ≡ true → AreFreeFor T (create_plan a c d).edits
create_free T a c d name place pointer = (name, (is_free_at-with_name T d c.name (Some c.file) (a, c.body) ∙ place, go c.file pointer))
  where
    go : (f : FileId) → is_pointer_free T f ≡ true → AreFreeFor (edit (edit T (Inodes d (Named c.name (Some c.file)))) (Inodes (a, c.body) (Made c.file c.kind))) (pointer_edits f (Some (a, c.body)))
    go (User u i) e = tt
    go (Group g k) e = (ap is_nothing (pointer_after (edit T (Inodes d (Named c.name (Some c.file)))) (a, c.body) (Made c.file c.kind) (g, k) ∙ pointer_after T d (Named c.name (Some c.file)) (g, k)) ∙ e, tt)

-- ---- what was added is taken away again

pub copied_gone : (T : Tree) (p : Place) (i : Inode) → is_free_at T p ≡ true → edit (edit T (Inodes p (Copied i))) (Inodes p Gone) ≡ T
copied_gone T p i free = ap (edit (edit T (Inodes p (Copied i)))) (sym (back_copied T p i free)) ∙ edit-back T (Inodes p (Copied i))

pub named_unnamed : (T : Tree) (d : Place) (x : Name) (f : FileId) → is_name_free_at T d x ≡ true → edit (edit T (Inodes d (Named x (Some f)))) (Inodes d (Named x None)) ≡ T
named_unnamed T d x f free = ap (edit (edit T (Inodes d (Named x (Some f))))) (sym (back_name T d x f free)) ∙ edit-back T (Inodes d (Named x (Some f)))

-- a new inode put there is an inode made there
pub edit-copied_new : (T : Tree) (p : Place) (home : FileId) (kind : Kind) → edit T (Inodes p (Copied (new_inode home kind))) ≡ edit T (Inodes p (Made home kind))
unfolding edit
edit-copied_new T p home kind = refl
