-- What is kept of areas is also held by any tree that holds the same values in them.
use Rattle.std.proofs.Common.{◌≡◌, ℕ, ◌+◌, ◌*◌, ◌≤◌, zero, suc, Bool, true, false, ◌&&◌, nat_le, List, [], ◌∷◌, ◌++◌, map, take, drop, Option, Some, None, option_map, refl, sym, ap, ◌∙◌, arith}
use Rattle.std.proofs.lemmas.List.{drop-drop}
use Rattle.std.proofs.Math.Seq.{take-add}
use Rattle.std.specs.List.{AllByRecursion}
use Rattle.std.specs.FinMap.{get}
use Rattle.std.proofs.lemmas.Bool.{or_left, or_right, and_from}
use Rattle.su_node.specs.Inode.{Inode, Content, Content.Bytes, Content.Names, bytes_of, within}
use Rattle.su_node.specs.Field.{Field, Field.KindOf, Field.LinksOf, Field.SizeOf, Field.BlockOf, Field.NameOf, Value.Nothing, block, field_value}
use Rattle.su_bytes.specs.Place.{Place}
use Rattle.su_table.specs.Tree.{Tree}
use Rattle.su_table.specs.Cell.{Cell, Cell.At, Cell.Pointer, val}
use Rattle.su_table.specs.Query.{is_file_kind}
use Rattle.su_op.specs.declared.areas.Part.{Part}
use Rattle.su_op.specs.declared.areas.Part.TheVariants.{Kind as KindPart, Links as LinksPart, Size as SizePart, Name as NamePart, Blocks as BlocksPart, Whole as WholePart}
use Rattle.su_op.specs.declared.areas.BlockRun.{BlockRun}
use Rattle.su_op.specs.declared.areas.Area.{Area}
use Rattle.su_op.specs.declared.areas.Area.TheVariants.{Inode as InodeArea, Pointer as PointerArea}
use Rattle.su_op.specs.Area.{in_part, in_area, has}
use Rattle.su_op.proofs.Public.{place_eq-itself, name_eq-itself, block_value_same, inode_same}
use Rattle.su_inverse.specs.declared.returns.Return.{Return}
use Rattle.su_inverse.specs.declared.returns.Return.TheVariants.{Inode as InodeReturn, Name as NameReturn, Pointer as PointerReturn}
use Rattle.su_inverse.specs.declared.resets.Reset.{Reset}
use Rattle.su_inverse.specs.declared.resets.Reset.TheVariants.{Nothing as NothingReset, Links as LinksReset}
use Rattle.su_inverse.specs.declared.contents.KeptSize.{KeptSize}
use Rattle.su_inverse.specs.declared.contents.KeptBlocks.{KeptBlocks}
use Rattle.su_inverse.specs.declared.inverses.Inverse.{Inverse}
use Rattle.su_inverse.specs.Kept.{return_area, size_area, reset_area, blocks_area, inverse_areas, HoldsReturn, HoldsNothing, HoldsReset, HoldsSize, HoldsBlocks, IsKeptOf, HoldsSame}
use Rattle.su_inverse.proofs.AreaListLemmas.{has-append}

of_fewer : (w u : Cell → Bool) (S T : Tree) → ((c : Cell) → u c ≡ true → w c ≡ true) → HoldsSame w S T → HoldsSame u S T
of_fewer w u S T fewer same = record { cells = λ c is. same.cells c (fewer c is); files = λ p n is. same.files p n (fewer (At p (BlockOf n)) is) }

pub in_first : (u w : List Area) (S T : Tree) → HoldsSame (has (u ++ w)) S T → HoldsSame (has u) S T
in_first u w S T same = of_fewer (has (u ++ w)) (has u) S T (λ c is. has-append u w c ∙ or_left (has u c) (has w c) is) same

pub in_second : (u w : List Area) (S T : Tree) → HoldsSame (has (u ++ w)) S T → HoldsSame (has w) S T
in_second u w S T same = of_fewer (has (u ++ w)) (has w) S T (λ c is. has-append u w c ∙ or_right (has u c) (has w c) is) same

-- of each of a list
pub each_again : {X : Type 0} (area : X → Area) (P : Tree → X → Type 0) (S T : Tree) → ((x : X) → HoldsSame (in_area (area x)) S T → P S x → P T x)
    → (xs : List X) → HoldsSame (has (map area xs)) S T → AllByRecursion (P S) xs → AllByRecursion (P T) xs
each_again area P S T one [] same all = tt
each_again area P S T one (x ∷ xs) same (first, rest) = (
  one x (of_fewer (has (map area (x ∷ xs))) (in_area (area x)) S T (λ c is. or_left (in_area (area x) c) (has (map area xs) c) is) same) first,
  each_again area P S T one xs (of_fewer (has (map area (x ∷ xs))) (has (map area xs)) S T (λ c is. or_right (in_area (area x) c) (has (map area xs) c) is) same) rest,
)

-- ---- one cell

pub in_inode : (p : Place) (a : Part) (f : Field) → in_part a f ≡ true → in_area (InodeArea p a) (At p f) ≡ true
in_inode p a f is = ap (λ b. b && in_part a f) (place_eq-itself p) ∙ is

in_blocks : (r : BlockRun) → in_part (BlocksPart r) (BlockOf r.first) ≡ true
in_blocks r = and_from (nat_le r.first r.first) (nat_le r.first (r.first + r.more)) (grind arith) (grind arith)

pub field_again : (S T : Tree) (p : Place) (a : Part) (f : Field) → in_part a f ≡ true → HoldsSame (in_area (InodeArea p a)) S T → field_value (get T.inodes p) f ≡ field_value (get S.inodes p) f
unfolding val
field_again S T p a f is same = same.cells (At p f) (in_inode p a f is)

-- ---- what is brought back, and sizes

return_again : (S T : Tree) (r : Return) → HoldsSame (in_area (return_area r)) S T → HoldsReturn S r → HoldsReturn T r
return_again S T (InodeReturn p i) same held = inode_same (get T.inodes p) (get S.inodes p) (λ f. field_again S T p WholePart f refl same) ∙ held
return_again S T (NameReturn p x f) same held = same.cells (At p (NameOf x)) (in_inode p (NamePart x) (NameOf x) (name_eq-itself x)) ∙ held
return_again S T (PointerReturn g p) same held = same.cells (Pointer g) (place_eq-itself g) ∙ held

pub size_again : (S T : Tree) (k : KeptSize) → HoldsSame (in_area (size_area k)) S T → HoldsSize S k → HoldsSize T k
size_again S T k same held = same.cells (At k.place SizeOf) (in_inode k.place SizePart SizeOf refl) ∙ held

-- ---- that nothing is there

-- without links, or without a size, there is no inode
no_kind : (o q : Option Inode) (f : Field) → ((i : Inode) → field_value (Some i) f ≡ Nothing → ⊥) → field_value o f ≡ field_value q f → field_value q KindOf ≡ Nothing → field_value o KindOf ≡ Nothing
no_kind None q f some e none = refl
no_kind (Some i) None f some e none = absurd (some i e)
no_kind (Some i) (Some j) f some e none = absurd cc

some_links : (i : Inode) → field_value (Some i) LinksOf ≡ Nothing → ⊥
some_links i e = cc

some_size : (i : Inode) → field_value (Some i) SizeOf ≡ Nothing → ⊥
some_size i e = cc

no_bytes : (o q : Option Inode) → is_file_kind (field_value o KindOf) ≡ is_file_kind (field_value q KindOf) → bytes_of q ≡ None → bytes_of o ≡ None
no_bytes None q e none = refl
no_bytes (Some i) q e none = go i.content (is_none q none) e
  where
    is_none : (q : Option Inode) → bytes_of q ≡ None → is_file_kind (field_value q KindOf) ≡ false
    is_none None none = refl
    is_none (Some j) none = kind j.content none
      where
        kind : (c : Content) → bytes_of (Some (record { home = j.home; links = j.links; content = c })) ≡ None → is_file_kind (field_value (Some (record { home = j.home; links = j.links; content = c })) KindOf) ≡ false
        kind (Bytes bs) e = absurd (let bad : Some bs ≡ None = e in cc)
        kind (Names m) e = refl

    go : (c : Content) → is_file_kind (field_value q KindOf) ≡ false → is_file_kind (field_value (Some (record { home = i.home; links = i.links; content = c })) KindOf) ≡ is_file_kind (field_value q KindOf)
        → bytes_of (Some (record { home = i.home; links = i.links; content = c })) ≡ None
    go (Bytes bs) is e = absurd (let bad : true ≡ false = e ∙ is in cc)
    go (Names m) is e = refl

files_there : (S T : Tree) (p : Place) (r : BlockRun) → HoldsSame (in_area (InodeArea p (BlocksPart r))) S T → is_file_kind (field_value (get T.inodes p) KindOf) ≡ is_file_kind (field_value (get S.inodes p) KindOf)
unfolding val
files_there S T p r same = same.files p r.first (in_inode p (BlocksPart r) (BlockOf r.first) (in_blocks r))

kind_gone : (S T : Tree) (p : Place) (a : Part) (f : Field) → in_part a f ≡ true → ((i : Inode) → field_value (Some i) f ≡ Nothing → ⊥) → HoldsSame (in_area (InodeArea p a)) S T → val S (At p KindOf) ≡ Nothing → val T (At p KindOf) ≡ Nothing
unfolding val
kind_gone S T p a f is some same held = no_kind (get T.inodes p) (get S.inodes p) f some (field_again S T p a f is same) held

nothing_again : (S T : Tree) (a : Area) → HoldsSame (in_area a) S T → HoldsNothing S a → HoldsNothing T a
nothing_again S T (InodeArea p (NamePart x)) same held = same.cells (At p (NameOf x)) (in_inode p (NamePart x) (NameOf x) (name_eq-itself x)) ∙ held
nothing_again S T (InodeArea p (BlocksPart r)) same held = no_bytes (get T.inodes p) (get S.inodes p) (files_there S T p r same) held
nothing_again S T (InodeArea p KindPart) same held = same.cells (At p KindOf) (in_inode p KindPart KindOf refl) ∙ held
nothing_again S T (InodeArea p WholePart) same held = same.cells (At p KindOf) (in_inode p WholePart KindOf refl) ∙ held
nothing_again S T (InodeArea p LinksPart) same held = kind_gone S T p LinksPart LinksOf refl some_links same held
nothing_again S T (InodeArea p SizePart) same held = kind_gone S T p SizePart SizeOf refl some_size same held
nothing_again S T (PointerArea g) same held = same.cells (Pointer g) (place_eq-itself g) ∙ held

pub reset_again : (S T : Tree) (r : Reset) → HoldsSame (in_area (reset_area r)) S T → HoldsReset S r → HoldsReset T r
reset_again S T (NothingReset a) same held = nothing_again S T a same held
reset_again S T (LinksReset p n) same held = same.cells (At p LinksOf) (in_inode p LinksPart LinksOf refl) ∙ held

-- ---- bytes of blocks

-- so many blocks are the first one and the others
first_block : (n more : ℕ) (bs : List ℕ) → within (4096 * n) (4096 * (suc more + 1)) bs ≡ block n bs ++ within (4096 * (n + 1)) (4096 * (more + 1)) bs
unfolding block
first_block n more bs =
    let long : 4096 * (suc more + 1) ≡ 4096 + 4096 * (more + 1) = omega arith in
    let place : 4096 * n + 4096 ≡ 4096 * (n + 1) = omega arith in
    ap (λ m. take m (drop (4096 * n) bs)) long ∙ take-add 4096 (4096 * (more + 1)) (drop (4096 * n) bs)
    ∙ ap (λ xs. take 4096 (drop (4096 * n) bs) ++ take (4096 * (more + 1)) xs) (drop-drop 4096 (4096 * n) bs ∙ ap (λ m. drop m bs) place)

last_block : (n : ℕ) (bs : List ℕ) → within (4096 * n) (4096 * (zero + 1)) bs ≡ block n bs
unfolding block
last_block n bs = refl

blocks_same : (more n : ℕ) (bs cs : List ℕ) → ((m : ℕ) → n ≤ m → m ≤ n + more → block m bs ≡ block m cs) → within (4096 * n) (4096 * (more + 1)) bs ≡ within (4096 * n) (4096 * (more + 1)) cs
blocks_same zero n bs cs same = last_block n bs ∙ same n (omega arith) (omega arith) ∙ sym (last_block n cs)
blocks_same (suc more) n bs cs same =
    first_block n more bs
    ∙ ap (λ xs. xs ++ within (4096 * (n + 1)) (4096 * (more + 1)) bs) (same n (omega arith) (omega arith))
    ∙ ap (λ xs. block n cs ++ xs) (blocks_same more (n + 1) bs cs (λ m low high. same m (omega arith) (omega arith)))
    ∙ sym (first_block n more cs)

-- of two inodes, of which the second is a file with these bytes
bytes_again : (r : BlockRun) (xs : List ℕ) (o q : Option Inode) → is_file_kind (field_value o KindOf) ≡ is_file_kind (field_value q KindOf) → ((m : ℕ) → r.first ≤ m → m ≤ r.first + r.more → field_value o (BlockOf m) ≡ field_value q (BlockOf m))
    → option_map (within (4096 * r.first) (4096 * (r.more + 1))) (bytes_of q) ≡ Some xs → option_map (within (4096 * r.first) (4096 * (r.more + 1))) (bytes_of o) ≡ Some xs
bytes_again r xs o None file each held = absurd (let bad : None ≡ Some xs = held in cc)
bytes_again r xs None (Some j) file each held = go j.content file held
  where
    go : (c : Content) → false ≡ is_file_kind (field_value (Some (record { home = j.home; links = j.links; content = c })) KindOf)
        → option_map (within (4096 * r.first) (4096 * (r.more + 1))) (bytes_of (Some (record { home = j.home; links = j.links; content = c }))) ≡ Some xs → option_map (within (4096 * r.first) (4096 * (r.more + 1))) None ≡ Some xs
    go (Bytes bs) file held = absurd (let bad : false ≡ true = file in cc)
    go (Names m) file held = held
bytes_again r xs (Some i) (Some j) file each held = go i.content j.content file each held
  where
    go : (c d : Content) → is_file_kind (field_value (Some (record { home = i.home; links = i.links; content = c })) KindOf) ≡ is_file_kind (field_value (Some (record { home = j.home; links = j.links; content = d })) KindOf)
        → ((m : ℕ) → r.first ≤ m → m ≤ r.first + r.more → field_value (Some (record { home = i.home; links = i.links; content = c })) (BlockOf m) ≡ field_value (Some (record { home = j.home; links = j.links; content = d })) (BlockOf m))
        → option_map (within (4096 * r.first) (4096 * (r.more + 1))) (bytes_of (Some (record { home = j.home; links = j.links; content = d }))) ≡ Some xs → option_map (within (4096 * r.first) (4096 * (r.more + 1))) (bytes_of (Some (record { home = i.home; links = i.links; content = c }))) ≡ Some xs
    go (Bytes bs) (Bytes cs) file each held = ap Some (blocks_same r.more r.first bs cs (λ m low high. block_value_same (block m bs) (block m cs) (each m low high))) ∙ held
    go (Bytes bs) (Names m) file each held = absurd (let bad : true ≡ false = file in cc)
    go (Names m) (Bytes cs) file each held = absurd (let bad : false ≡ true = file in cc)
    go (Names m) (Names k) file each held = held

in_run_between : (r : BlockRun) (m : ℕ) → r.first ≤ m → m ≤ r.first + r.more → in_part (BlocksPart r) (BlockOf m) ≡ true
in_run_between r m low high = and_from (nat_le r.first m) (nat_le m (r.first + r.more)) (grind arith) (grind arith)

pub blocks_again : (S T : Tree) (k : KeptBlocks) → HoldsSame (in_area (blocks_area k)) S T → HoldsBlocks S k → HoldsBlocks T k
blocks_again S T k same held =
    bytes_again k.run k.bytes.items (get T.inodes k.place) (get S.inodes k.place) (files_there S T k.place k.run same)
    (λ m low high. field_again S T k.place (BlocksPart k.run) (BlockOf m) (in_run_between k.run m low high) same) held

-- ---- all that is kept

pub kept_again : (i : Inverse) (S T : Tree) → HoldsSame (has (inverse_areas i)) S T → IsKeptOf i S → IsKeptOf i T
kept_again i S T same held =
    let rs = map return_area i.returns.items in
    let zs = map size_area i.sizes.items in
    let es = map reset_area i.resets.items in
    let bs = map blocks_area i.blocks.items in
    let later = in_second rs (zs ++ (es ++ bs)) S T same in
    let last = in_second zs (es ++ bs) S T later in
    record {
      returns = each_again return_area HoldsReturn S T (return_again S T) i.returns.items (in_first rs (zs ++ (es ++ bs)) S T same) held.returns;
      sizes = each_again size_area HoldsSize S T (size_again S T) i.sizes.items (in_first zs (es ++ bs) S T later) held.sizes;
      resets = each_again reset_area HoldsReset S T (reset_again S T) i.resets.items (in_first es bs S T last) held.resets;
      blocks = each_again blocks_area HoldsBlocks S T (blocks_again S T) i.blocks.items (in_second es bs S T last) held.blocks;
    }
