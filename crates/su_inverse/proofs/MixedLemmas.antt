-- A value that is put back into a tree: fewer cells are left to be put back.
use Rattle.std.proofs.Common.{◌≡◌, ℕ, ◌+◌, ◌-◌, ◌*◌, ◌<◌, ◌≤◌, Bool, true, false, cond, ◌&&◌, ◌||◌, ◌⊎◌, inl, inr, nat_le, min, max, List, [], length, take, drop, get_or, Option, Some, None, option_map, refl, sym, ap, ◌∙◌, subst, arith}
use Rattle.std.proofs.lemmas.Bool.{leb-true, leb-false, or_from, both_ways}
use Rattle.std.proofs.lemmas.List.{length-take, length-drop, get_or-take, get_or-drop}
use Rattle.std.specs.FinMap.{get}
use Rattle.su_bytes.specs.declared.file_ids.FileId.{FileId}
use Rattle.su_node.specs.Name.{Name, name_eq}
use Rattle.su_node.specs.Inode.{Inode, Content, Content.Bytes, Content.Names, kind_of, bytes_of, within}
use Rattle.su_node.specs.Field.{Field, Field.KindOf, Field.LinksOf, Field.SizeOf, Field.BlockOf, Field.NameOf, Value.Nothing, Value.AKind, Value.ANumber, block, block_value, content_value, field_value, file_value}
use Rattle.su_node.specs.InodeChange.{InodeChange, InodeChange.Named, InodeChange.Linked, InodeChange.Written, InodeChange.Resized, InodeChange.Copied, InodeChange.Gone, inode_after, with_name, map_bytes, with_size, with_bytes_at}
use Rattle.su_bytes.specs.Place.{Place, place_eq}
use Rattle.su_table.specs.Tree.{Tree}
use Rattle.su_table.specs.Cell.{Cell, Cell.At, Cell.Pointer, place_value, val}
use Rattle.su_table.specs.Edit.{Edit.Inodes, Edit.Pointers, edit}
use Rattle.su_op.specs.declared.areas.Part.{Part}
use Rattle.su_op.specs.declared.areas.Part.TheVariants.{Links as LinksPart, Size as SizePart, Name as NamePart, Blocks as BlocksPart, Whole as WholePart}
use Rattle.su_op.specs.declared.areas.BlockRun.{BlockRun}
use Rattle.su_op.specs.declared.areas.Area.TheVariants.{Inode as InodeArea, Pointer as PointerArea}
use Rattle.su_op.specs.Area.{in_run, in_part, in_area}
use Rattle.su_op.proofs.Public.{place_eq-same, place_eq-itself, name_eq-same, get-set_place, get-set_name, byte_same, block_same, block_value_same, length-with_size, get_or-with_size, length-with_bytes_at, get_or-written_in, get_or-written_before, get_or-written_after, number_same, tree_same}
use Rattle.su_inverse.specs.Remaining.{AgreeOutside}

-- ---- of an inode

-- o is t but for the cells that pass the test
record Mixed (left : Field → Bool) (o : Option Inode) (t : Option Inode) : Type 0 where
  each : (f : Field) → left f ≡ false → field_value o f ≡ field_value t f

abbrev Only : (Field → Bool) → Content → FileId → ℕ → Content → FileId → ℕ → Type 0
Only P c h l d g m = (f : Field) → P f ≡ false → content_value c l h f ≡ content_value d m g f

kinds : (c d : Content) (h g : FileId) → AKind (kind_of c) h ≡ AKind (kind_of d) g → kind_of c ≡ kind_of d
kinds c d h g e = cc

name_into : (x : Name) (v : Option FileId) (P : Field → Bool) (c d : Content) (h g : FileId) (l m : ℕ) → kind_of c ≡ kind_of d → Only (λ f. in_part (NamePart x) f || P f) c h l d g m
    → file_value v ≡ content_value d m g (NameOf x) → Only P (with_name x v c) h l d g m
name_into x v P (Bytes bs) (Bytes cs) h g l m k only e KindOf out = only KindOf out
name_into x v P (Bytes bs) (Bytes cs) h g l m k only e LinksOf out = only LinksOf out
name_into x v P (Bytes bs) (Bytes cs) h g l m k only e SizeOf out = only SizeOf out
name_into x v P (Bytes bs) (Bytes cs) h g l m k only e (BlockOf n) out = only (BlockOf n) out
name_into x v P (Bytes bs) (Bytes cs) h g l m k only e (NameOf y) out = refl
name_into x v P (Bytes bs) (Names q) h g l m k only e f out = absurd cc
name_into x v P (Names p) (Bytes cs) h g l m k only e f out = absurd cc
name_into x v P (Names p) (Names q) h g l m k only e KindOf out = only KindOf out
name_into x v P (Names p) (Names q) h g l m k only e LinksOf out = only LinksOf out
name_into x v P (Names p) (Names q) h g l m k only e SizeOf out = only SizeOf out
name_into x v P (Names p) (Names q) h g l m k only e (BlockOf n) out = only (BlockOf n) out
name_into x v P (Names p) (Names q) h g l m k only e (NameOf y) out = ap file_value (get-set_name p x v y) ∙ go (name_eq y x) refl
  where
    go : (b : Bool) → name_eq y x ≡ b → file_value (cond b v (get p y)) ≡ file_value (get q y)
    go true is = e ∙ ap (λ z. file_value (get q z)) (sym (name_eq-same y x is))
    go false is = only (NameOf y) (or_from (name_eq y x) (P (NameOf y)) is out)

links_into : (n : ℕ) (P : Field → Bool) (c d : Content) (h g : FileId) (l m : ℕ) → Only (λ f. in_part LinksPart f || P f) c h l d g m → m ≡ n → Only P c h n d g m
links_into n P c d h g l m only e KindOf out = only KindOf out
links_into n P c d h g l m only e LinksOf out = ap ANumber (sym e)
links_into n P c d h g l m only e SizeOf out = only SizeOf out
links_into n P (Bytes bs) d h g l m only e (BlockOf b) out = only (BlockOf b) out
links_into n P (Names p) d h g l m only e (BlockOf b) out = only (BlockOf b) out
links_into n P (Bytes bs) d h g l m only e (NameOf x) out = only (NameOf x) out
links_into n P (Names p) d h g l m only e (NameOf x) out = only (NameOf x) out

pub none_from_kind : (t : Option Inode) → field_value t KindOf ≡ Nothing → t ≡ None
none_from_kind None e = refl
none_from_kind (Some j) e = absurd cc

both_none : (P Q : Field → Bool) (o t : Option Inode) → Q KindOf ≡ false → Mixed Q o t → o ≡ None → Mixed P o t
both_none P Q o t k m e =
    let n : t ≡ None = none_from_kind t (sym (m.each KindOf k) ∙ ap (λ o. field_value o KindOf) e) in
    record { each = λ f _. ap (λ o. field_value o f) (e ∙ sym n) }

put_name : (x : Name) (v : Option FileId) (P : Field → Bool) (o t : Option Inode) → P KindOf ≡ false → Mixed (λ f. in_part (NamePart x) f || P f) o t → file_value v ≡ field_value t (NameOf x) → Mixed P (inode_after (Named x v) o) t
put_name x v P None t k m e = both_none P (λ f. in_part (NamePart x) f || P f) None t k m refl
put_name x v P (Some i) None k m e = absurd (let d = m.each KindOf k in cc)
put_name x v P (Some i) (Some j) k m e = record { each = name_into x v P i.content j.content i.home j.home i.links j.links (kinds _ _ _ _ (m.each KindOf k)) m.each e }

put_links : (n : ℕ) (P : Field → Bool) (o t : Option Inode) → P KindOf ≡ false → Mixed (λ f. in_part LinksPart f || P f) o t → field_value t LinksOf ≡ ANumber n → Mixed P (inode_after (Linked n) o) t
put_links n P None t k m e = both_none P (λ f. in_part LinksPart f || P f) None t k m refl
put_links n P (Some i) None k m e = absurd (let d = m.each KindOf k in cc)
put_links n P (Some i) (Some j) k m e = record { each = links_into n P i.content j.content i.home j.home i.links j.links m.each (number_same j.links n e) }

-- ---- sizes and blocks of an inode

-- a new size: the blocks that need not be put back are right
block_sized : (n : ℕ) (bs cs : List ℕ) → block n bs ≡ block n cs → block n (with_size (length cs) bs) ≡ block n cs
block_sized n bs cs e =
    let a : length (with_size (length cs) bs) ≡ length cs = length-with_size (length cs) bs in
    block_same n (with_size (length cs) bs) cs (omega arith)
    (λ i low high within. let lt : i < length cs = omega arith in get_or-with_size (length cs) bs i lt ∙ byte_same n bs cs i e low high)

-- the bytes of a run of blocks
abbrev run_of : BlockRun → List ℕ → List ℕ
run_of r cs = take (4096 * (r.more + 1)) (drop (4096 * r.first) cs)

length_run : (r : BlockRun) (cs : List ℕ) → length (run_of r cs) ≡ min (4096 * (r.more + 1)) (length cs - 4096 * r.first)
length_run r cs = length-take (4096 * (r.more + 1)) (drop (4096 * r.first) cs) ∙ ap (min (4096 * (r.more + 1))) (length-drop (4096 * r.first) cs)

get_run : (r : BlockRun) (cs : List ℕ) (i : ℕ) → i < 4096 * (r.more + 1) → get_or (run_of r cs) i 0 ≡ get_or cs (4096 * r.first + i) 0
get_run r cs i lt = get_or-take (4096 * (r.more + 1)) (drop (4096 * r.first) cs) i 0 lt ∙ get_or-drop (4096 * r.first) cs i 0

-- the kept bytes of a run of blocks, in a file of the right size
block_rewritten : (n : ℕ) (r : BlockRun) (bs cs : List ℕ) → length bs ≡ length cs → 4096 * r.first < length cs → (in_run r n ≡ false → block n bs ≡ block n cs)
    → block n (with_bytes_at (4096 * r.first) (run_of r cs) bs) ≡ block n cs
block_rewritten n r bs cs same some out = go (nat_le r.first n) refl (nat_le n (r.first + r.more)) refl
  where
    p : List ℕ
    p = with_bytes_at (4096 * r.first) (run_of r cs) bs

    run : length (run_of r cs) ≡ min (4096 * (r.more + 1)) (length cs - 4096 * r.first)
    run = length_run r cs

    long : length p ≡ max (4096 * r.first + length (run_of r cs)) (length bs)
    long = length-with_bytes_at (4096 * r.first) (run_of r cs) bs

    kept : (a b : Bool) → nat_le r.first n ≡ a → nat_le n (r.first + r.more) ≡ b → (a && b) ≡ false → block n bs ≡ block n cs
    kept a b i j e = out (ap (λ x. x && nat_le n (r.first + r.more)) i ∙ ap (λ y. a && y) j ∙ e)

    inside : r.first ≤ n → n ≤ r.first + r.more → block n p ≡ block n cs
    inside l h = block_same n p cs (omega (arith, run, long))
        (λ i low high within.
        let at : 4096 * r.first + (i - 4096 * r.first) ≡ i = omega arith in
        get_or-written_in (4096 * r.first) (run_of r cs) bs i (omega arith) (omega (arith, run, long)) ∙ get_run r cs (i - 4096 * r.first) (omega arith) ∙ ap (λ j. get_or cs j 0) at)

    apart : (n < r.first) ⊎ (r.first + r.more < n) → block n bs ≡ block n cs → block n p ≡ block n cs
    apart (inl b) e = block_same n p cs (omega (arith, run, long)) (λ i low high within. get_or-written_before (4096 * r.first) (run_of r cs) bs i (omega arith) ∙ byte_same n bs cs i e low high)
    apart (inr b) e = block_same n p cs (omega (arith, run, long)) (λ i low high within. get_or-written_after (4096 * r.first) (run_of r cs) bs i (omega (arith, run, long)) ∙ byte_same n bs cs i e low high)

    go : (a : Bool) → nat_le r.first n ≡ a → (b : Bool) → nat_le n (r.first + r.more) ≡ b → block n p ≡ block n cs
    go false i b j = apart (inl (leb-false r.first n i)) (kept false b i j refl)
    go true i false j = apart (inr (leb-false n (r.first + r.more) j)) (kept true false i j refl)
    go true i true j = inside (leb-true r.first n i) (leb-true n (r.first + r.more) j)

-- a file's size
size_into : (P : Field → Bool) (bs cs : List ℕ) (h g : FileId) (l m : ℕ) → Only (λ f. in_part SizePart f || P f) (Bytes bs) h l (Bytes cs) g m → Only P (Bytes (with_size (length cs) bs)) h l (Bytes cs) g m
size_into P bs cs h g l m only KindOf out = only KindOf out
size_into P bs cs h g l m only LinksOf out = only LinksOf out
size_into P bs cs h g l m only SizeOf out = ap ANumber (length-with_size (length cs) bs)
size_into P bs cs h g l m only (BlockOf n) out = ap block_value (block_sized n bs cs (block_value_same (block n bs) (block n cs) (only (BlockOf n) out)))
size_into P bs cs h g l m only (NameOf x) out = refl

-- and then its blocks
blocks_into : (r : BlockRun) (P : Field → Bool) (bs cs : List ℕ) (h g : FileId) (l m : ℕ) → length bs ≡ length cs → 4096 * r.first < length cs
    → Only (λ f. in_part (BlocksPart r) f || P f) (Bytes bs) h l (Bytes cs) g m → Only P (Bytes (with_bytes_at (4096 * r.first) (run_of r cs) bs)) h l (Bytes cs) g m
blocks_into r P bs cs h g l m same some only KindOf out = only KindOf out
blocks_into r P bs cs h g l m same some only LinksOf out = only LinksOf out
blocks_into r P bs cs h g l m same some only SizeOf out =
    let run = length_run r cs in
    let long = length-with_bytes_at (4096 * r.first) (run_of r cs) bs in
    let all : length (with_bytes_at (4096 * r.first) (run_of r cs) bs) ≡ length cs = omega (arith, run, long) in
    ap ANumber all
blocks_into r P bs cs h g l m same some only (BlockOf n) out =
    ap block_value (block_rewritten n r bs cs same some (λ o. block_value_same (block n bs) (block n cs) (only (BlockOf n) (or_from (in_run r n) (P (BlockOf n)) o out))))
blocks_into r P bs cs h g l m same some only (NameOf x) out = refl

-- a run of blocks past the end has nothing to put back
blocks_past : (r : BlockRun) (P : Field → Bool) (bs cs : List ℕ) (h g : FileId) (l m : ℕ) → length bs ≡ length cs → length cs ≤ 4096 * r.first
    → Only (λ f. in_part (BlocksPart r) f || P f) (Bytes bs) h l (Bytes cs) g m → Only P (Bytes bs) h l (Bytes cs) g m
blocks_past r P bs cs h g l m same past only KindOf out = only KindOf out
blocks_past r P bs cs h g l m same past only LinksOf out = only LinksOf out
blocks_past r P bs cs h g l m same past only SizeOf out = only SizeOf out
blocks_past r P bs cs h g l m same past only (NameOf x) out = refl
blocks_past r P bs cs h g l m same past only (BlockOf n) out = go (nat_le r.first n) refl (nat_le n (r.first + r.more)) refl
  where
    rest : (a b : Bool) → nat_le r.first n ≡ a → nat_le n (r.first + r.more) ≡ b → (a && b) ≡ false → block_value (block n bs) ≡ block_value (block n cs)
    rest a b i j e = only (BlockOf n) (or_from (in_run r n) (P (BlockOf n)) (ap (λ x. x && nat_le n (r.first + r.more)) i ∙ ap (λ y. a && y) j ∙ e) out)

    go : (a : Bool) → nat_le r.first n ≡ a → (b : Bool) → nat_le n (r.first + r.more) ≡ b → block_value (block n bs) ≡ block_value (block n cs)
    go false i b j = rest false b i j refl
    go true i false j = rest true false i j refl
    go true i true j =
        let le : r.first ≤ n = leb-true r.first n i in
        ap block_value (block_same n bs cs (omega (arith, same)) (λ k low high within. absurd (omega arith)))

-- an inode with its size back: t has as many bytes
put_size : (s n : ℕ) (P : Field → Bool) (o t : Option Inode) → P KindOf ≡ false → field_value t SizeOf ≡ ANumber n → Mixed (λ f. in_part SizePart f || P f) o t → Mixed P (inode_after (Resized s n) o) t
put_size s n P None t k e m = both_none P (λ f. in_part SizePart f || P f) None t k m refl
put_size s n P (Some i) None k e m = absurd (let d = m.each KindOf k in cc)
put_size s n P (Some i) (Some j) k e m = record { each = go i.content j.content (kinds _ _ _ _ (m.each KindOf k)) e m.each }
  where
    go : (c d : Content) → kind_of c ≡ kind_of d → content_value d j.links j.home SizeOf ≡ ANumber n → Only (λ f. in_part SizePart f || P f) c i.home i.links d j.home j.links → Only P (map_bytes (with_size n) c) i.home i.links d j.home j.links
    go (Bytes bs) (Bytes cs) q e only f out = subst (λ z. content_value (Bytes (with_size z bs)) i.links i.home f ≡ content_value (Bytes cs) j.links j.home f) (number_same (length cs) n e) (size_into P bs cs i.home j.home i.links j.links only f out)
    go (Names p) (Names q) same e only KindOf out = only KindOf out
    go (Names p) (Names q) same e only LinksOf out = only LinksOf out
    go (Names p) (Names q) same e only SizeOf out = refl
    go (Names p) (Names q) same e only (BlockOf b) out = refl
    go (Names p) (Names q) same e only (NameOf x) out = only (NameOf x) out
    go (Bytes bs) (Names q) same e only f out = absurd cc
    go (Names p) (Bytes cs) same e only f out = absurd cc

-- an inode with blocks back: t has these bytes there
put_blocks : (s : ℕ) (r : BlockRun) (xs : List ℕ) (P : Field → Bool) (o t : Option Inode) → P KindOf ≡ false → P SizeOf ≡ false
    → option_map (within (4096 * r.first) (4096 * (r.more + 1))) (bytes_of t) ≡ Some xs → 0 < length xs
    → Mixed (λ f. in_part (BlocksPart r) f || P f) o t → Mixed P (inode_after (Written s (4096 * r.first) xs) o) t
put_blocks s r xs P None t k z e some m = both_none P (λ f. in_part (BlocksPart r) f || P f) None t k m refl
put_blocks s r xs P (Some i) None k z e some m = absurd cc
put_blocks s r xs P (Some i) (Some j) k z e some m = record { each = go i.content j.content (kinds _ _ _ _ (m.each KindOf k)) e m.each }
  where
    go : (c d : Content) → kind_of c ≡ kind_of d → option_map (within (4096 * r.first) (4096 * (r.more + 1))) (bytes_of (Some (record j { content = d }))) ≡ Some xs → Only (λ f. in_part (BlocksPart r) f || P f) c i.home i.links d j.home j.links → Only P (map_bytes (with_bytes_at (4096 * r.first) xs) c) i.home i.links d j.home j.links
    go (Bytes bs) (Bytes cs) q e only f out =
        let same : run_of r cs ≡ xs = cc in
        let run = length_run r cs in
        let long : length (run_of r cs) ≡ length xs = ap length same in
        subst (λ z. content_value (Bytes (with_bytes_at (4096 * r.first) z bs)) i.links i.home f ≡ content_value (Bytes cs) j.links j.home f) same
        (blocks_into r P bs cs i.home j.home i.links j.links (number_same (length bs) (length cs) (only SizeOf z)) (omega (arith, run, long)) only f out)
    go c (Names q) same e only f out = absurd cc
    go (Names p) (Bytes cs) same e only f out = absurd cc

put_none : (r : BlockRun) (P : Field → Bool) (o t : Option Inode) → P KindOf ≡ false → P SizeOf ≡ false
    → option_map (within (4096 * r.first) (4096 * (r.more + 1))) (bytes_of t) ≡ Some []
    → Mixed (λ f. in_part (BlocksPart r) f || P f) o t → Mixed P o t
put_none r P None t k z e m = both_none P (λ f. in_part (BlocksPart r) f || P f) None t k m refl
put_none r P (Some i) None k z e m = absurd cc
put_none r P (Some i) (Some j) k z e m = record { each = go i.content j.content (kinds _ _ _ _ (m.each KindOf k)) e m.each }
  where
    go : (c d : Content) → kind_of c ≡ kind_of d → option_map (within (4096 * r.first) (4096 * (r.more + 1))) (bytes_of (Some (record j { content = d }))) ≡ Some [] → Only (λ f. in_part (BlocksPart r) f || P f) c i.home i.links d j.home j.links → Only P c i.home i.links d j.home j.links
    go (Bytes bs) (Bytes cs) q e only f out =
        let same : run_of r cs ≡ [] = cc in
        let run = length_run r cs in
        let long : length (run_of r cs) ≡ 0 = ap length same in
        blocks_past r P bs cs i.home j.home i.links j.links (number_same (length bs) (length cs) (only SizeOf z)) (omega (arith, run, long)) only f out
    go c (Names q) same e only f out = absurd cc
    go (Names p) (Bytes cs) same e only f out = absurd cc

-- where no file stands no block does
no_file_block : (o : Option Inode) (n : ℕ) → bytes_of o ≡ None → field_value o (BlockOf n) ≡ Nothing
no_file_block None n e = refl
no_file_block (Some i) n e = go i.content e
  where
    go : (c : Content) → bytes_of (Some (record i { content = c })) ≡ None → content_value c i.links i.home (BlockOf n) ≡ Nothing
    go (Bytes bs) e = absurd cc
    go (Names m) e = refl

no_file_same : (o t : Option Inode) → field_value o KindOf ≡ field_value t KindOf → bytes_of t ≡ None → bytes_of o ≡ None
no_file_same None t k e = refl
no_file_same (Some i) None k e = absurd cc
no_file_same (Some i) (Some j) k e = go i.content j.content (kinds _ _ _ _ k) e
  where
    go : (c d : Content) → kind_of c ≡ kind_of d → bytes_of (Some (record j { content = d })) ≡ None → bytes_of (Some (record i { content = c })) ≡ None
    go (Names p) d k e = refl
    go (Bytes bs) (Bytes cs) k e = absurd cc
    go (Bytes bs) (Names q) k e = absurd cc

put_no_blocks : (r : BlockRun) (P : Field → Bool) (o t : Option Inode) → P KindOf ≡ false → bytes_of t ≡ None → Mixed (λ f. in_part (BlocksPart r) f || P f) o t → Mixed P o t
put_no_blocks r P o t k e m = record { each = each }
  where
    none : bytes_of o ≡ None
    none = no_file_same o t (m.each KindOf k) e

    each : (f : Field) → P f ≡ false → field_value o f ≡ field_value t f
    each KindOf out = m.each KindOf out
    each LinksOf out = m.each LinksOf out
    each SizeOf out = m.each SizeOf out
    each (NameOf x) out = m.each (NameOf x) out
    each (BlockOf n) out = no_file_block o n none ∙ sym (no_file_block t n e)

-- ---- of a tree

-- nothing is left: it is the tree
pub all_back : (F T : Tree) → AgreeOutside [] F T → F ≡ T
all_back F T m = tree_same F T (λ c. m.each c refl)

-- a kind is left only with all of its inode
pub record IsClosed (P : Cell → Bool) : Type 0 where
  pub each : (p : Place) (f : Field) → P (At p KindOf) ≡ true → P (At p f) ≡ true

-- F is T but for the cells that pass the test
pub record MixedTree (P : Cell → Bool) (F : Tree) (T : Tree) : Type 0 where
  pub each : (c : Cell) → P c ≡ false → val F c ≡ val T c

module _ (P : Cell → Bool) (F T : Tree) where
  inode_mixed : (p : Place) (a : Part) → MixedTree (λ c. in_area (InodeArea p a) c || P c) F T → Mixed (λ f. in_part a f || P (At p f)) (get F.inodes p) (get T.inodes p)
  unfolding val
  inode_mixed p a m = record { each = λ f out. m.each (At p f) (ap (λ b. (b && in_part a f) || P (At p f)) (place_eq-itself p) ∙ out) }

  -- a change at p that puts a part back, in the tree
  put_part : (p : Place) (a : Part) (ch : InodeChange) → MixedTree (λ c. in_area (InodeArea p a) c || P c) F T
      → Mixed (λ f. P (At p f)) (inode_after ch (get F.inodes p)) (get T.inodes p)
      → MixedTree P (edit F (Inodes p ch)) T
  unfolding val edit
  put_part p a ch m done = record { each = each }
    where
      at : (q : Place) (f : Field) (b : Bool) → place_eq q p ≡ b → P (At q f) ≡ false → field_value (cond b (inode_after ch (get F.inodes p)) (get F.inodes q)) f ≡ field_value (get T.inodes q) f
      at q f true is out =
          let same : q ≡ p = place_eq-same q p is in
          done.each f (ap (λ r. P (At r f)) (sym same) ∙ out) ∙ ap (λ r. field_value (get T.inodes r) f) (sym same)
      at q f false is out = m.each (At q f) (or_from (place_eq q p && in_part a f) (P (At q f)) (ap (λ b. b && in_part a f) is) out)

      each : (c : Cell) → P c ≡ false → val (edit F (Inodes p ch)) c ≡ val T c
      each (Pointer g) out = m.each (Pointer g) out
      each (At q f) out = ap (λ o. field_value o f) (get-set_place F.inodes p (inode_after ch (get F.inodes p)) q) ∙ at q f (place_eq q p) refl out

  -- all of what is at p is left
  all_left : (p : Place) (o t : Option Inode) → IsClosed P → P (At p KindOf) ≡ true → Mixed (λ f. P (At p f)) o t
  all_left p o t closed kind = record { each = λ f out. absurd (both_ways (P (At p f)) out (closed.each p f kind)) }

  pub back_name : (p : Place) (x : Name) (v : Option FileId) → IsClosed P → file_value v ≡ val T (At p (NameOf x)) → MixedTree (λ c. in_area (InodeArea p (NamePart x)) c || P c) F T → MixedTree P (edit F (Inodes p (Named x v))) T
  unfolding val
  back_name p x v closed kept m = put_part p (NamePart x) (Named x v) m (go (P (At p KindOf)) refl)
    where
      go : (b : Bool) → P (At p KindOf) ≡ b → Mixed (λ f. P (At p f)) (inode_after (Named x v) (get F.inodes p)) (get T.inodes p)
      go true is = all_left p _ _ closed is
      go false is = put_name x v (λ f. P (At p f)) (get F.inodes p) (get T.inodes p) is (inode_mixed p (NamePart x) m) kept

  pub back_links : (p : Place) (n : ℕ) → IsClosed P → val T (At p LinksOf) ≡ ANumber n → MixedTree (λ c. in_area (InodeArea p LinksPart) c || P c) F T → MixedTree P (edit F (Inodes p (Linked n))) T
  unfolding val
  back_links p n closed kept m = put_part p LinksPart (Linked n) m (go (P (At p KindOf)) refl)
    where
      go : (b : Bool) → P (At p KindOf) ≡ b → Mixed (λ f. P (At p f)) (inode_after (Linked n) (get F.inodes p)) (get T.inodes p)
      go true is = all_left p _ _ closed is
      go false is = put_links n (λ f. P (At p f)) (get F.inodes p) (get T.inodes p) is (inode_mixed p LinksPart m) kept

  -- a whole inode, or none
  pub back_gone : (p : Place) → val T (At p KindOf) ≡ Nothing → MixedTree (λ c. in_area (InodeArea p WholePart) c || P c) F T → MixedTree P (edit F (Inodes p Gone)) T
  unfolding val
  back_gone p is m = put_part p WholePart Gone m (record { each = λ f out. ap (λ o. field_value o f) (sym (none_from_kind (get T.inodes p) is)) })

  pub back_whole : (p : Place) (i : Inode) → get T.inodes p ≡ Some i → MixedTree (λ c. in_area (InodeArea p WholePart) c || P c) F T → MixedTree P (edit F (Inodes p (Copied i))) T
  back_whole p i is m = put_part p WholePart (Copied i) m (record { each = λ f out. ap (λ o. field_value o f) (sym is) })

  -- links or a size of a place where nothing stands
  pub back_none : (p : Place) (a : Part) → IsClosed P → in_part a KindOf ≡ false → val T (At p KindOf) ≡ Nothing → MixedTree (λ c. in_area (InodeArea p a) c || P c) F T → MixedTree P F T
  unfolding val
  back_none p a closed no_kind none m = record { each = each }
    where
      free : P (At p KindOf) ≡ false → get F.inodes p ≡ None
      free out = none_from_kind (get F.inodes p) ((inode_mixed p a m).each KindOf (or_from (in_part a KindOf) (P (At p KindOf)) no_kind out) ∙ none)

      here : (f : Field) (b : Bool) → P (At p KindOf) ≡ b → P (At p f) ≡ false → field_value (get F.inodes p) f ≡ field_value (get T.inodes p) f
      here f true is out = absurd (both_ways (P (At p f)) out (closed.each p f is))
      here f false is out = ap (λ o. field_value o f) (free is ∙ sym (none_from_kind (get T.inodes p) none))

      at : (q : Place) (f : Field) (b : Bool) → place_eq q p ≡ b → P (At q f) ≡ false → field_value (get F.inodes q) f ≡ field_value (get T.inodes q) f
      at q f true is out =
          let same : q ≡ p = place_eq-same q p is in
          ap (λ r. field_value (get F.inodes r) f) same ∙ here f (P (At p KindOf)) refl (ap (λ r. P (At r f)) (sym same) ∙ out) ∙ ap (λ r. field_value (get T.inodes r) f) (sym same)
      at q f false is out = m.each (At q f) (or_from (place_eq q p && in_part a f) (P (At q f)) (ap (λ b. b && in_part a f) is) out)

      each : (c : Cell) → P c ≡ false → val F c ≡ val T c
      each (Pointer g) out = m.each (Pointer g) out
      each (At q f) out = at q f (place_eq q p) refl out

  pub back_size : (p : Place) (s n : ℕ) → P (At p KindOf) ≡ false → val T (At p SizeOf) ≡ ANumber n → MixedTree (λ c. in_area (InodeArea p SizePart) c || P c) F T → MixedTree P (edit F (Inodes p (Resized s n))) T
  unfolding val
  back_size p s n kind kept m = put_part p SizePart (Resized s n) m (put_size s n (λ f. P (At p f)) (get F.inodes p) (get T.inodes p) kind kept (inode_mixed p SizePart m))

  pub back_blocks : (p : Place) (s : ℕ) (r : BlockRun) (xs : List ℕ) → P (At p KindOf) ≡ false → P (At p SizeOf) ≡ false → option_map (within (4096 * r.first) (4096 * (r.more + 1))) (bytes_of (get T.inodes p)) ≡ Some xs → 0 < length xs → MixedTree (λ c. in_area (InodeArea p (BlocksPart r)) c || P c) F T → MixedTree P (edit F (Inodes p (Written s (4096 * r.first) xs))) T
  back_blocks p s r xs kind size kept some m = put_part p (BlocksPart r) (Written s (4096 * r.first) xs) m (put_blocks s r xs (λ f. P (At p f)) (get F.inodes p) (get T.inodes p) kind size kept some (inode_mixed p (BlocksPart r) m))

  -- without a change
  stays : (p : Place) (a : Part) → MixedTree (λ c. in_area (InodeArea p a) c || P c) F T → Mixed (λ f. P (At p f)) (get F.inodes p) (get T.inodes p) → MixedTree P F T
  unfolding val
  stays p a m done = record { each = each }
    where
      at : (q : Place) (f : Field) (b : Bool) → place_eq q p ≡ b → P (At q f) ≡ false → field_value (get F.inodes q) f ≡ field_value (get T.inodes q) f
      at q f true is out =
          let same : q ≡ p = place_eq-same q p is in
          ap (λ r. field_value (get F.inodes r) f) same ∙ done.each f (ap (λ r. P (At r f)) (sym same) ∙ out) ∙ ap (λ r. field_value (get T.inodes r) f) (sym same)
      at q f false is out = m.each (At q f) (or_from (place_eq q p && in_part a f) (P (At q f)) (ap (λ b. b && in_part a f) is) out)

      each : (c : Cell) → P c ≡ false → val F c ≡ val T c
      each (Pointer g) out = m.each (Pointer g) out
      each (At q f) out = at q f (place_eq q p) refl out

  pub back_past : (p : Place) (r : BlockRun) → P (At p KindOf) ≡ false → P (At p SizeOf) ≡ false → option_map (within (4096 * r.first) (4096 * (r.more + 1))) (bytes_of (get T.inodes p)) ≡ Some [] → MixedTree (λ c. in_area (InodeArea p (BlocksPart r)) c || P c) F T → MixedTree P F T
  back_past p r kind size kept m = stays p (BlocksPart r) m (put_none r (λ f. P (At p f)) (get F.inodes p) (get T.inodes p) kind size kept (inode_mixed p (BlocksPart r) m))

  pub back_no_blocks : (p : Place) (r : BlockRun) → IsClosed P → bytes_of (get T.inodes p) ≡ None → MixedTree (λ c. in_area (InodeArea p (BlocksPart r)) c || P c) F T → MixedTree P F T
  back_no_blocks p r closed none m = stays p (BlocksPart r) m (go (P (At p KindOf)) refl)
    where
      go : (b : Bool) → P (At p KindOf) ≡ b → Mixed (λ f. P (At p f)) (get F.inodes p) (get T.inodes p)
      go true is = all_left p _ _ closed is
      go false is = put_no_blocks r (λ f. P (At p f)) (get F.inodes p) (get T.inodes p) is none (inode_mixed p (BlocksPart r) m)

  pub back_pointer : (g : Place) (v : Option Place) → place_value v ≡ val T (Pointer g) → MixedTree (λ c. in_area (PointerArea g) c || P c) F T → MixedTree P (edit F (Pointers g v)) T
  unfolding val edit
  back_pointer g v kept m = record { each = each }
    where
      at : (k : Place) (b : Bool) → place_eq k g ≡ b → P (Pointer k) ≡ false → place_value (cond b v (get F.pointers k)) ≡ place_value (get T.pointers k)
      at k true is out = kept ∙ ap (λ r. place_value (get T.pointers r)) (sym (place_eq-same k g is))
      at k false is out = m.each (Pointer k) (or_from (place_eq k g) (P (Pointer k)) is out)

      each : (c : Cell) → P c ≡ false → val (edit F (Pointers g v)) c ≡ val T c
      each (At q f) out = m.each (At q f) out
      each (Pointer k) out = ap place_value (get-set_place F.pointers g v k) ∙ at k (place_eq k g) refl out
