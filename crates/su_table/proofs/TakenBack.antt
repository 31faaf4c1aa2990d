-- Edits can be taken back.
use Rattle.std.proofs.Common.{◌≡◌, ◌∙◌, refl, ap, List, [], ◌∷◌, ◌++◌, Option, Some, None, ℕ}
use Rattle.std.specs.FinMap.{FinMap, get}
use Rattle.su_bytes.specs.declared.file_ids.FileId.{FileId}
use Rattle.su_node.specs.Name.{Name}
use Rattle.su_bytes.specs.Place.{Place, place_cmp}
use Rattle.su_node.specs.Inode.{Inode, Content, Content.Bytes, Content.Names}
use Rattle.su_table.specs.Tree.{Tree}
use Rattle.su_node.specs.InodeChange.{InodeChange, InodeChange.Made, InodeChange.Named, InodeChange.Linked, InodeChange.Written, InodeChange.Resized, InodeChange.Copied, InodeChange.Gone, inode_after, set_key}
use Rattle.su_table.specs.Edit.{restoring, change_back, Edit, Edit.Inodes, Edit.Pointers, edit, edits, back, edits_back, EditsCanBeTakenBack}
use Rattle.su_node.proofs.Public.{get-set_key_here, name_cmp_exact, name_cmp_total, set_key_back}
use Rattle.su_table.proofs.Places.{place_cmp_total, place_cmp_exact}

inode_after-restoring : (o p : Option Inode) → inode_after (restoring o) p ≡ o
inode_after-restoring None p = refl
inode_after-restoring (Some i) p = refl

named_back : (home : FileId) (links : ℕ) (x : Name) (v : Option FileId) (c : Content)
    → (let i : Inode = record { home = home; links = links; content = c } in inode_after (change_back (Some i) (Named x v)) (inode_after (Named x v) (Some i)) ≡ Some i)
named_back home links x v (Bytes bs) = refl
named_back home links x v (Names m) = ap (λ n. Some (record { home = home; links = links; content = Names n })) (set_key_back name_cmp_total name_cmp_exact m x v)

-- of what stands at one place
pub inode_after-change_back : (ch : InodeChange) (o : Option Inode) → inode_after (change_back o ch) (inode_after ch o) ≡ o
inode_after-change_back (Made home kind) o = inode_after-restoring o _
inode_after-change_back (Copied i) o = inode_after-restoring o _
inode_after-change_back Gone o = inode_after-restoring o _
inode_after-change_back (Written size off xs) o = inode_after-restoring o _
inode_after-change_back (Resized size new_size) o = inode_after-restoring o _
inode_after-change_back (Named x v) None = refl
inode_after-change_back (Named x v) (Some i) = named_back i.home i.links x v i.content
inode_after-change_back (Linked n) None = refl
inode_after-change_back (Linked n) (Some i) = refl

-- a single edit
pub edit-back : (T : Tree) (e : Edit) → edit (edit T e) (back T e) ≡ T
unfolding edit back
edit-back T (Pointers g v) = ap (λ (m : FinMap place_cmp Place). record T { pointers = m }) (set_key_back place_cmp_total place_cmp_exact T.pointers g v)
edit-back T (Inodes p ch) =
    let o = get T.inodes p in
    let returned = ap (inode_after (change_back o ch)) (get-set_key_here place_cmp_total T.inodes p (inode_after ch o)) ∙ inode_after-change_back ch o in
    ap (λ (m : FinMap place_cmp Inode). record T { inodes = m })
    (ap (set_key (set_key T.inodes p (inode_after ch o)) p) returned ∙ set_key_back place_cmp_total place_cmp_exact T.inodes p (inode_after ch o))

-- of two lists of edits, one after the other
pub edits-append : (T : Tree) (es fs : List Edit) → edits T (es ++ fs) ≡ edits (edits T es) fs
edits-append T [] fs = refl
edits-append T (e ∷ es) fs = edits-append (edit T e) es fs

pub edits_can_be_taken_back : EditsCanBeTakenBack
edits_can_be_taken_back T [] = refl
edits_can_be_taken_back T (e ∷ es) =
    edits-append (edits (edit T e) es) (edits_back (edit T e) es) (back T e ∷ [])
    ∙ ap (λ t. edit t (back T e)) (edits_can_be_taken_back (edit T e) es) ∙ edit-back T e
