-- What steps of an undo do to the bytes of files.
use Rattle.std.proofs.Common.{◌≡◌, ◌∙◌, ℕ, ◌+◌, ◌*◌, Bool, true, false, cond, ◌⊎◌, inl, inr, nat_lt, nat_le, List, [], length, Option, Some, None, option_map, refl, sym, ap, subst, arith}
use Rattle.std.proofs.lemmas.Bool.{ltb-true}
use Rattle.std.specs.FinMap.{get}
use Rattle.su_bytes.specs.Place.{Place, place_eq}
use Rattle.su_node.specs.declared.blocks.TheConstants.{BLOCK_SIZE}
use Rattle.su_node.specs.Inode.{Inode, Content, Content.Bytes, Content.Names, bytes_of}
use Rattle.su_node.specs.Field.{Field, Field.KindOf, Field.SizeOf, Value.Nothing, field_value}
use Rattle.su_node.specs.InodeChange.{InodeChange, InodeChange.Named, InodeChange.Linked, InodeChange.Written, InodeChange.Resized, InodeChange.Copied, InodeChange.Gone, inode_after}
use Rattle.su_table.specs.Tree.{Tree}
use Rattle.su_table.specs.Cell.{Cell.At, val}
use Rattle.su_table.specs.Query.{value_number, size_at}
use Rattle.su_table.specs.Edit.{Edit.Inodes, Edit.Pointers, edit, edits}
use Rattle.su_op.specs.declared.areas.Part.TheVariants.{Kind as KindPart, Links as LinksPart, Size as SizePart, Name as NamePart, Blocks as BlocksPart, Whole as WholePart}
use Rattle.su_op.specs.declared.areas.Area.{Area}
use Rattle.su_op.specs.declared.areas.Area.TheVariants.{Inode as InodeArea, Pointer as PointerArea}
use Rattle.su_op.proofs.Public.{place_eq-same, get-set_place, length-with_size}
use Rattle.su_inverse.specs.Kept.{HoldsBlocks, HoldsNothing, HoldsReset, HoldsSize, blocks_edit, bytes_in, nothing_edits, reset_edits}
use Rattle.su_inverse.specs.declared.contents.KeptBlocks.{KeptBlocks}
use Rattle.su_inverse.specs.declared.contents.KeptSize.{KeptSize}
use Rattle.su_inverse.specs.declared.resets.Reset.{Reset}
use Rattle.su_inverse.specs.declared.resets.Reset.TheVariants.{Nothing as NothingReset, Links as LinksReset}
use Rattle.su_inverse.proofs.MixedLemmas.{all_back, none_from_kind}
use Rattle.su_inverse.proofs.SizeLemmas.{blocks_back}
use Rattle.su_undone.specs.Undone.{cut_to, grown_to, written_to}
use Rattle.su_undone.proofs.UndoneLemmas.{written_none, written_some}
use Rattle.su_part_inverse.specs.Ready.{SameBytes}
use Rattle.su_part_inverse.specs.Steps.{inode_edit, name_edit, or_new}
use Rattle.su_part_inverse.specs.declared.returns.KeptInode.{KeptInode}
use Rattle.su_part_inverse.specs.declared.returns.Return.{Return}
use Rattle.su_part_inverse.specs.declared.returns.Return.TheVariants.{Name as NameReturn, Pointer as PointerReturn}

-- ---- bytes at a place

abbrev pub bytes_at : Tree → Place → Option (List ℕ)
bytes_at F p = bytes_of (get F.inodes p)

abbrev pub size_of_bytes : Option (List ℕ) → ℕ
size_of_bytes None = 0
size_of_bytes (Some bs) = length bs

-- a size is that of the bytes
pub size_bytes : (F : Tree) (p : Place) → size_at F p ≡ size_of_bytes (bytes_at F p)
unfolding val
size_bytes F p = go (get F.inodes p)
  where
    kind : (i : Inode) (c : Content) → value_number (field_value (Some (record i { content = c })) SizeOf) ≡ size_of_bytes (bytes_of (Some (record i { content = c })))
    kind i (Bytes bs) = refl
    kind i (Names m) = refl

    go : (o : Option Inode) → value_number (field_value o SizeOf) ≡ size_of_bytes (bytes_of o)
    go None = refl
    go (Some i) = kind i i.content

pub same_size : (F T : Tree) (p : Place) → SameBytes F T p → size_at F p ≡ size_at T p
same_size F T p same = size_bytes F p ∙ ap size_of_bytes same ∙ sym (size_bytes T p)

if_at : (b : Bool) (o q : Option Inode) → bytes_of (cond b o q) ≡ cond b (bytes_of o) (bytes_of q)
if_at true o q = refl
if_at false o q = refl

pub bytes_edited : (F : Tree) (p : Place) (ch : InodeChange) (q : Place) → bytes_at (edit F (Inodes p ch)) q ≡ cond (place_eq q p) (bytes_of (inode_after ch (get F.inodes p))) (bytes_at F q)
unfolding edit
bytes_edited F p ch q = ap bytes_of (get-set_place F.inodes p (inode_after ch (get F.inodes p)) q) ∙ if_at (place_eq q p) (inode_after ch (get F.inodes p)) (get F.inodes q)

pub bytes_beside : (F : Tree) (p : Place) (ch : InodeChange) (q : Place) → place_eq q p ≡ false → bytes_at (edit F (Inodes p ch)) q ≡ bytes_at F q
bytes_beside F p ch q e = bytes_edited F p ch q ∙ ap (λ b. cond b (bytes_of (inode_after ch (get F.inodes p))) (bytes_at F q)) e

pub bytes_here : (F : Tree) (p : Place) (ch : InodeChange) (q : Place) → place_eq q p ≡ true → bytes_at (edit F (Inodes p ch)) q ≡ bytes_of (inode_after ch (get F.inodes p))
bytes_here F p ch q e = bytes_edited F p ch q ∙ ap (λ b. cond b (bytes_of (inode_after ch (get F.inodes p))) (bytes_at F q)) e

pub beside_size : (F : Tree) (p : Place) (ch : InodeChange) (q : Place) → place_eq q p ≡ false → size_at (edit F (Inodes p ch)) q ≡ size_at F q
beside_size F p ch q e = size_bytes (edit F (Inodes p ch)) q ∙ ap size_of_bytes (bytes_beside F p ch q e) ∙ sym (size_bytes F q)

-- ---- how they move

-- The step from F to G leaves the bytes that T has, and each size is as before or as in T.
pub record Moves (F G T : Tree) : Type 0 where
  pub bytes : (p : Place) → SameBytes F T p → SameBytes G T p
  pub sizes : (p : Place) → (size_at G p ≡ size_at F p) ⊎ (size_at G p ≡ size_at T p)

pub still : (F T : Tree) → Moves F F T
still F T = record { bytes = λ p same. same; sizes = λ p. inl refl }

-- no bytes change
pub unmoved : (F G T : Tree) → ((p : Place) → bytes_at G p ≡ bytes_at F p) → Moves F G T
unmoved F G T is = record { bytes = λ p same. is p ∙ same; sizes = λ p. inl (size_bytes G p ∙ ap size_of_bytes (is p) ∙ sym (size_bytes F p)) }

-- those at one place change
one_moved : (F T : Tree) (p : Place) (ch : InodeChange) → (SameBytes F T p → bytes_of (inode_after ch (get F.inodes p)) ≡ bytes_at T p)
    → ((size_of_bytes (bytes_of (inode_after ch (get F.inodes p))) ≡ size_at F p) ⊎ (size_of_bytes (bytes_of (inode_after ch (get F.inodes p))) ≡ size_at T p)) → Moves F (edit F (Inodes p ch)) T
one_moved F T p ch bytes size = record { bytes = λ q. at q (place_eq q p) refl; sizes = λ q. sized q (place_eq q p) refl }
  where
    G : Tree
    G = edit F (Inodes p ch)

    at : (q : Place) (b : Bool) → place_eq q p ≡ b → SameBytes F T q → SameBytes (edit F (Inodes p ch)) T q
    at q true e same =
        let is = place_eq-same q p e in
        bytes_here F p ch q e ∙ bytes (subst (SameBytes F T) is same) ∙ ap (bytes_at T) (sym is)
    at q false e same = bytes_beside F p ch q e ∙ same

    sized : (q : Place) (b : Bool) → place_eq q p ≡ b → (size_at (edit F (Inodes p ch)) q ≡ size_at F q) ⊎ (size_at (edit F (Inodes p ch)) q ≡ size_at T q)
    sized q true e =
        let is = place_eq-same q p e in
        let here = size_bytes (edit F (Inodes p ch)) q ∙ ap size_of_bytes (bytes_here F p ch q e) in
        elim size [ inl x ↦ inl (here ∙ x ∙ ap (size_at F) (sym is)) | inr x ↦ inr (here ∙ x ∙ ap (size_at T) (sym is)) ]
    sized q false e = inl (beside_size F p ch q e)

-- ---- the steps

same_named : (ch : InodeChange) → ((o : Option Inode) → bytes_of (inode_after ch o) ≡ bytes_of o) → (F T : Tree) (p : Place) → Moves F (edit F (Inodes p ch)) T
same_named ch is F T p = unmoved F (edit F (Inodes p ch)) T (λ q. go q (place_eq q p) refl)
  where
    go : (q : Place) (b : Bool) → place_eq q p ≡ b → bytes_at (edit F (Inodes p ch)) q ≡ bytes_at F q
    go q true e = bytes_here F p ch q e ∙ is (get F.inodes p) ∙ ap (bytes_at F) (sym (place_eq-same q p e))
    go q false e = bytes_beside F p ch q e

pointers_moved : (F T : Tree) (g : Place) (o : Option Place) → Moves F (edit F (Pointers g o)) T
unfolding edit
pointers_moved F T g o = unmoved F (edit F (Pointers g o)) T (λ p. refl)

named_bytes : (x : _) (v : _) (o : Option Inode) → bytes_of (inode_after (Named x v) o) ≡ bytes_of o
named_bytes x v None = refl
named_bytes x v (Some i) = go i.content
  where
    go : (c : Content) → bytes_of (inode_after (Named x v) (Some (record i { content = c }))) ≡ bytes_of (Some (record i { content = c }))
    go (Bytes bs) = refl
    go (Names m) = refl

linked_bytes : (n : ℕ) (o : Option Inode) → bytes_of (inode_after (Linked n) o) ≡ bytes_of o
linked_bytes n None = refl
linked_bytes n (Some i) = refl

pub name_moves : (F T : Tree) (r : Return) → Moves F (edit F (name_edit r)) T
name_moves F T (NameReturn p x f) = same_named (Named x (Some f)) (named_bytes x (Some f)) F T p
name_moves F T (PointerReturn g p) = pointers_moved F T g (Some p)

-- nothing stands there in T
gone_moves : (F T : Tree) (p : Place) → val T (At p KindOf) ≡ Nothing → Moves F (edit F (Inodes p Gone)) T
unfolding val
gone_moves F T p none =
    let bare : None ≡ bytes_at T p = ap bytes_of (sym (none_from_kind (get T.inodes p) none)) in
    one_moved F T p Gone (λ same. bare) (inr (zero_of bare))
  where
    zero_of : None ≡ bytes_at T p → size_of_bytes None ≡ size_at T p
    zero_of bare = ap size_of_bytes bare ∙ sym (size_bytes T p)

cleared_moves : (F T : Tree) (a : Area) → HoldsNothing T a → Moves F (edits F (nothing_edits a)) T
cleared_moves F T (PointerArea g) held = pointers_moved F T g None
cleared_moves F T (InodeArea p KindPart) held = gone_moves F T p held
cleared_moves F T (InodeArea p WholePart) held = gone_moves F T p held
cleared_moves F T (InodeArea p (NamePart x)) held = same_named (Named x None) (named_bytes x None) F T p
cleared_moves F T (InodeArea p LinksPart) held = still F T
cleared_moves F T (InodeArea p SizePart) held = still F T
cleared_moves F T (InodeArea p (BlocksPart r)) held = still F T

pub reset_moves : (F T : Tree) (r : Reset) → HoldsReset T r → Moves F (edits F (reset_edits r)) T
reset_moves F T (NothingReset a) held = cleared_moves F T a held
reset_moves F T (LinksReset p n) held = same_named (Linked n) (linked_bytes n) F T p

pub size_of_T : (T : Tree) (k : KeptSize) → HoldsSize T k → size_at T k.place ≡ k.size
size_of_T T k held = ap value_number held

-- a file gets another size, which is that in T
resized_moves : (F T : Tree) (k : KeptSize) → HoldsSize T k → ¬ (size_at F k.place ≡ k.size) → Moves F (edit F (Inodes k.place (Resized (size_at F k.place) k.size))) T
resized_moves F T k held other =
    one_moved F T k.place (Resized (size_at F k.place) k.size) (λ same. absurd (other (same_size F T k.place same ∙ size_of_T T k held)))
    (go (get F.inodes k.place) (size_bytes F k.place))
  where
    go : (o : Option Inode) → size_at F k.place ≡ size_of_bytes (bytes_of o)
        → (size_of_bytes (bytes_of (inode_after (Resized (size_at F k.place) k.size) o)) ≡ size_at F k.place) ⊎ (size_of_bytes (bytes_of (inode_after (Resized (size_at F k.place) k.size) o)) ≡ size_at T k.place)
    go None e = inl (sym e)
    go (Some i) e = kind i.content e
      where
        kind : (c : Content) → size_at F k.place ≡ size_of_bytes (bytes_of (Some (record i { content = c })))
            → (size_of_bytes (bytes_of (inode_after (Resized (size_at F k.place) k.size) (Some (record i { content = c })))) ≡ size_at F k.place)
            ⊎ (size_of_bytes (bytes_of (inode_after (Resized (size_at F k.place) k.size) (Some (record i { content = c })))) ≡ size_at T k.place)
        kind (Bytes bs) e = inr (length-with_size k.size bs ∙ sym (size_of_T T k held))
        kind (Names m) e = inl (sym e)

pub cut_moves : (F T : Tree) (k : KeptSize) → HoldsSize T k → Moves F (cut_to k F) T
cut_moves F T k held = go (nat_lt k.size (size_at F k.place)) refl
  where
    go : (b : Bool) → nat_lt k.size (size_at F k.place) ≡ b → Moves F (cond b (edit F (Inodes k.place (Resized (size_at F k.place) k.size))) F) T
    go true e = let lt = ltb-true k.size (size_at F k.place) e in resized_moves F T k held (λ is. omega (arith, lt, is))
    go false e = still F T

pub grown_moves : (F T : Tree) (k : KeptSize) → HoldsSize T k → Moves F (grown_to k F) T
grown_moves F T k held = go (nat_lt (size_at F k.place) k.size) refl
  where
    go : (b : Bool) → nat_lt (size_at F k.place) k.size ≡ b → Moves F (cond b (edit F (Inodes k.place (Resized (size_at F k.place) k.size))) F) T
    go true e = let lt = ltb-true (size_at F k.place) k.size e in resized_moves F T k held (λ is. omega (arith, lt, is))
    go false e = still F T

-- ---- blocks

-- where the bytes are those of T already, nothing is written
pub written_same : (k : KeptBlocks) (F T : Tree) → HoldsBlocks T k → SameBytes F T k.place → written_to k F ≡ F
written_same k F T held same =
    all_back (written_to k F) F
    (blocks_back [] k F (written_to k F) F (ap (option_map (bytes_in k.run)) same ∙ held) (written_some k F) (written_none k F) (record { each = λ c out. refl }))

pub written_moves : (k : KeptBlocks) (F T : Tree) → HoldsBlocks T k → (p : Place) → SameBytes F T p → SameBytes (written_to k F) T p
written_moves k F T held p same = go (place_eq p k.place) refl
  where
    beside : place_eq p k.place ≡ false → bytes_at (written_to k F) p ≡ bytes_at F p
    beside e = maybe (nat_lt 0 (length k.bytes.items)) (nat_le (BLOCK_SIZE * k.run.first + length k.bytes.items) (size_at F k.place))
      where
        maybe : (a b : Bool) → bytes_at (cond a (cond b (edit F (blocks_edit F k)) F) F) p ≡ bytes_at F p
        maybe true true = bytes_beside F k.place (Written (size_at F k.place) (BLOCK_SIZE * k.run.first) k.bytes.items) p e
        maybe true false = refl
        maybe false b = refl

    go : (b : Bool) → place_eq p k.place ≡ b → SameBytes (written_to k F) T p
    go true e = let is = place_eq-same p k.place e in ap (λ V. bytes_at V p) (written_same k F T held (subst (SameBytes F T) is same)) ∙ same
    go false e = beside e ∙ same

-- ---- an inode that is brought back

pub inode_bytes : (F T : Tree) (k : KeptInode) → get T.inodes k.place ≡ Some (or_new (get T.inodes k.place)) → (p : Place) → place_eq p k.place ≡ true → SameBytes (edit F (inode_edit T k)) T p
inode_bytes F T k stands p e = bytes_here F k.place (Copied (or_new (get T.inodes k.place))) p e ∙ ap bytes_of (sym stands) ∙ ap (bytes_at T) (sym (place_eq-same p k.place e))

pub back_here : (F T : Tree) (k : KeptInode) → get T.inodes k.place ≡ Some (or_new (get T.inodes k.place)) → (p : Place) → place_eq p k.place ≡ true → (f : Field) → val (edit F (inode_edit T k)) (At p f) ≡ val T (At p f)
unfolding val edit
back_here F T k stands p e f = ap (λ o. field_value o f)
    (get-set_place F.inodes k.place (Some (or_new (get T.inodes k.place))) p
    ∙ ap (λ b. cond b (Some (or_new (get T.inodes k.place))) (get F.inodes p)) e ∙ sym stands ∙ ap (get T.inodes) (sym (place_eq-same p k.place e)))
