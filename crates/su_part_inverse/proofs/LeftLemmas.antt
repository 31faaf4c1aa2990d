-- Runs of blocks that are left on a store: when they can be put back, and what that makes.
use Rattle.std.proofs.Common.{◌≡◌, ◌≢◌, ◌∙◌, ℕ, ◌+◌, ◌-◌, ◌*◌, ◌<◌, ◌≤◌, ◌^◌, Bool, true, false, cond, ◌⊎◌, inl, inr, IsTrue, nat_lt, nat_le, List, [], ◌∷◌, length, drop, min, get_or, Option, Some, None, option_map, zero, suc, slice_index_or, refl, sym, ap, subst, arith}
use Rattle.std.specs.Prelude.{IfSome, IsSome, IsOk, IsErr, OnOk, OnErr, Result}
use Rattle.std.specs.List.{AllByRecursion}
use Rattle.std.specs.FinMap.{get}
use Rattle.std.proofs.lemmas.List.FromFn.{length-map-range_with_len}
use Rattle.sha2.specs.Sha256.{sha256}
use Rattle.su_bytes.specs.declared.refusals.Refusal.{Refusal}
use Rattle.std.proofs.lemmas.Bool.{and_from, leb-false, leb-true}
use Rattle.std.proofs.lemmas.List.{get_or-drop, get_or-take, length-drop, length-take}
use Rattle.su_bytes.specs.Place.{Place, place_eq}
use Rattle.su_bytes.specs.Principal.{is_user}
use Rattle.su_tree.specs.Number.{number_bits}
use Rattle.su_part_tree.specs.Part.{reaches}
use Rattle.su_node.specs.Digest.{block_count, block_item}
use Rattle.su_node.specs.Field.{block}
use Rattle.su_node.specs.Inode.{Inode, Content, Content.Bytes, Content.Names, bytes_of, size_of, within}
use Rattle.su_node.specs.InodeChange.{InodeChange.Written, inode_after}
use Rattle.su_node.proofs.Contents.{block_is, get_or-block, length-block, length-with_bytes_at}
use Rattle.su_table.specs.Edit.{Edit.Inodes, edit}
use Rattle.su_table.specs.Query.{size_at}
use Rattle.su_table.specs.Tree.{Tree}
use Rattle.su_op.specs.Area.{in_run}
use Rattle.su_op.proofs.Public.{place_eq-same}
use Rattle.su_inverse.specs.Kept.{blocks_edit, HoldsBlocks}
use Rattle.su_inverse.specs.declared.contents.KeptBlocks.{KeptBlocks}
use Rattle.su_left_blocks.specs.Left.{digests_of, IsItemOf}
use Rattle.su_left_blocks.proofs.Public.{digests_there}
use Rattle.su_undone.specs.Undone.{written, written_to}
use Rattle.su_part.specs.Known.{KnowsBlock as KnowsBlockOf, KnowsBlockIn, KnowsInode, OfLoaded, Want.AnInode, Want.ABlock}
use Rattle.su_part.specs.Left.{AreDigestsIn, AreDigestsOf, HasPathsIn, HasPathsOf, KnowsPath, KnowsPathIn}
use Rattle.su_part.specs.Part.{ContentItem, HasAll, HasAllIn, HasAllOf, HasAt as HasOf, IfLoaded, InodeItemOf, StandsAt, StandsContent, StandsUser, at_number}
use Rattle.su_part.specs.declared.inodes.PartContent.{PartContent}
use Rattle.su_part.specs.declared.inodes.PartContent.TheVariants.{Bytes as LoadedBytes, Names as LoadedNames}
use Rattle.su_part.specs.declared.inodes.PartInode.{PartInode}
use Rattle.su_part.specs.declared.users.UserPart.{UserPart}
use Rattle.su_part_forest.specs.Forest.{IsPart, Stands, user_part}
use Rattle.su_part_forest.specs.Known.{HasPathsAt, Knows, KnowsPathAt, StaysKnown, StaysKnownBut, Want.OfUser}
use Rattle.su_part_forest.specs.Loading.{HashedFor, IsKept, KeepsLoaded}
use Rattle.su_part_forest.specs.declared.forests.PartForest.{PartForest}
use Rattle.su_part_inverse.specs.Lefts.{IsItemOfOne, KnowsPaths, LeftIsReady, PathsStayKnown}
use Rattle.su_part_inverse.specs.Ready.{BlocksAreReady}
use Rattle.su_undone.proofs.UndoneLemmas.{written_none, written_some}
use Rattle.su_part_inverse.proofs.Answering.{err_of, ok_of, ok_or_not}
use Rattle.su_part_inverse.proofs.Initial.{size_in, small_size}
use Rattle.su_part_inverse.proofs.Moves.{beside_size, bytes_here, size_bytes, size_of_bytes, written_moves, written_same}
use Rattle.su_part_inverse.proofs.Reading.{meant_at, user_stands}
use Rattle.su_part_inverse.proofs.ReadyLemmas.{each}
use Rattle.su_part_inverse.proofs.Using.{inode_loaded, run_long, sized_some}

-- ---- sizes

-- bytes that are written into a file that is long enough leave its size
sized : (F : Tree) (k : KeptBlocks) (p : Place) → size_at (written_to k F) p ≡ size_at F p
sized F k p = go (nat_lt 0 (length k.bytes.items)) (nat_le (4096 * k.run.first + length k.bytes.items) (size_at F k.place)) refl
  where
    here : 4096 * k.run.first + length k.bytes.items ≤ size_at F k.place
        → size_of_bytes (bytes_of (inode_after (Written (size_at F k.place) (4096 * k.run.first) k.bytes.items) (get F.inodes k.place))) ≡ size_at F k.place
    here le = inside (get F.inodes k.place) (size_bytes F k.place)
      where
        inside : (o : Option Inode) → size_at F k.place ≡ size_of_bytes (bytes_of o) → size_of_bytes (bytes_of (inode_after (Written (size_at F k.place) (4096 * k.run.first) k.bytes.items) o)) ≡ size_at F k.place
        inside None e = sym e
        inside (Some i) e = kind i.content e
          where
            kind : (c : Content) → size_at F k.place ≡ size_of_bytes (bytes_of (Some (record i { content = c })))
                → size_of_bytes (bytes_of (inode_after (Written (size_at F k.place) (4096 * k.run.first) k.bytes.items) (Some (record i { content = c })))) ≡ size_at F k.place
            kind (Bytes bs) e = length-with_bytes_at (4096 * k.run.first) k.bytes.items bs ∙ omega (arith, le, e)
            kind (Names m) e = sym e

    at : (b : Bool) → place_eq p k.place ≡ b → 4096 * k.run.first + length k.bytes.items ≤ size_at F k.place → size_at (edit F (blocks_edit F k)) p ≡ size_at F p
    at true e le =
        size_bytes (edit F (blocks_edit F k)) p
        ∙ ap size_of_bytes (bytes_here F k.place (Written (size_at F k.place) (4096 * k.run.first) k.bytes.items) p e)
        ∙ here le ∙ ap (size_at F) (sym (place_eq-same p k.place e))
    at false e le = beside_size F k.place (Written (size_at F k.place) (4096 * k.run.first) k.bytes.items) p e

    go : (a b : Bool) → nat_le (4096 * k.run.first + length k.bytes.items) (size_at F k.place) ≡ b → size_at (cond a (cond b (edit F (blocks_edit F k)) F) F) p ≡ size_at F p
    go true true e = at (place_eq p k.place) refl (leb-true (4096 * k.run.first + length k.bytes.items) (size_at F k.place) e)
    go true false e = refl
    go false b e = refl

pub all_sized : (ks : List KeptBlocks) (F : Tree) (p : Place) → size_at (written ks F) p ≡ size_at F p
all_sized [] F p = refl
all_sized (k ∷ ks) F p = all_sized ks (written_to k F) p ∙ sized F k p

-- ---- they are ready

-- the path of a block that is known
path_of_block : (F : Tree) (f : PartForest) (p : Place) (n : ℕ) → Knows F (OfUser p.0 (ABlock p.1 n)) f → KnowsPathAt F p n f
path_of_block F f p n known = go (user_part p.0 f) known
  where
    inside : (q : PartContent) (c : Content) → KnowsBlockIn n q c → KnowsPathIn n q c
    inside (LoadedBytes b) (Bytes bs) w = w.path
    inside (LoadedBytes b) (Names m) w = tt
    inside (LoadedNames t) (Bytes bs) w = tt
    inside (LoadedNames t) (Names m) w = tt

    part : (a : Option PartInode) (o : Option Inode) → OfLoaded (KnowsBlockIn n) a o → OfLoaded (KnowsPathIn n) a o
    part None None w = tt
    part None (Some i) w = tt
    part (Some q) None w = tt
    part (Some q) (Some i) w = inside q.content i.content w

    go : (o : Option UserPart) → IfSome o (KnowsBlockOf p.0 F p.1 n) → IfSome o (KnowsPath p.0 F p.1 n)
    go None w = tt
    go (Some q) w = record { inode = w.inode; part = part (at_number q.inodes.entries p.1) (get F.inodes (p.0, p.1)) w.part }

-- where blocks are ready to be written, they are ready to be put back as they are left
pub lefts_ready : (F T : Tree) (f : PartForest) → ((p : Place) → size_at F p ≡ size_at T p) → (ks : List KeptBlocks) → AllByRecursion (BlocksAreReady F T f) ks → AllByRecursion (LeftIsReady F T f) ks
lefts_ready F T f sizes ks all = each (BlocksAreReady F T f) (LeftIsReady F T f) one ks all
  where
    one : (k : KeptBlocks) → BlocksAreReady F T f k → LeftIsReady F T f k
    one k r = record {
      held = r.held;
      long = sizes k.place;
      known = r.known;
      paths = elim r.blocks [ inl same ↦ inl same | inr run ↦ inr (λ n few within m. path_of_block F f k.place n (run n few within m)) ];
    }

-- one is put back: the others stay ready
pub lefts_on : (first : KeptBlocks) (F T : Tree) (f g : PartForest) → HoldsBlocks T first → PathsStayKnown F (written_to first F) f g → (ks : List KeptBlocks)
    → AllByRecursion (LeftIsReady F T f) ks → AllByRecursion (LeftIsReady (written_to first F) T g) ks
lefts_on first F T f g held known ks all = each (LeftIsReady F T f) (LeftIsReady (written_to first F) T g) one ks all
  where
    one : (k : KeptBlocks) → LeftIsReady F T f k → LeftIsReady (written_to first F) T g k
    one k r = record {
      held = r.held;
      long = sized F first k.place ∙ r.long;
      known = λ m. known.inodes k.place (r.known m);
      paths = elim r.paths [
        | inl same ↦ inl (written_moves first F T held k.place same)
        | inr paths ↦ inr (λ n few within m. known.paths k.place n (paths n few within m))
      ];
    }

-- ---- what is held of them

-- Bytes that are kept of a run of blocks, if there are any, lie within the file; and they end with a
-- block, or with the file.
pub held_within : (T : Tree) (k : KeptBlocks) → HoldsBlocks T k → 0 < length k.bytes.items
    → (4096 * k.run.first + length k.bytes.items ≤ size_at T k.place) × ((4096 * block_count (length k.bytes.items) ≡ length k.bytes.items) ⊎ (4096 * k.run.first + length k.bytes.items ≡ size_at T k.place))
held_within T k held some = go (bytes_of (get T.inodes k.place)) held (size_bytes T k.place)
  where
    go : (o : Option (List ℕ)) → option_map (within (4096 * k.run.first) (4096 * (k.run.more + 1))) o ≡ Some k.bytes.items → size_at T k.place ≡ size_of_bytes o
        → (4096 * k.run.first + length k.bytes.items ≤ size_at T k.place) × ((4096 * block_count (length k.bytes.items) ≡ length k.bytes.items) ⊎ (4096 * k.run.first + length k.bytes.items ≡ size_at T k.place))
    go None e s = absurd cc
    go (Some bs) e s =
        let same : within (4096 * k.run.first) (4096 * (k.run.more + 1)) bs ≡ k.bytes.items = cc in
        let long = length-take (4096 * (k.run.more + 1)) (drop (4096 * k.run.first) bs) in
        let behind = length-drop (4096 * k.run.first) bs in
        let is : length (within (4096 * k.run.first) (4096 * (k.run.more + 1)) bs) ≡ length k.bytes.items = ap length same in
        (omega (arith, long, behind, is, s, some), ends (nat_le (4096 * (k.run.more + 1)) (length (drop (4096 * k.run.first) bs))) refl long behind is)
      where
        ends : (b : Bool) → nat_le (4096 * (k.run.more + 1)) (length (drop (4096 * k.run.first) bs)) ≡ b
            → length (within (4096 * k.run.first) (4096 * (k.run.more + 1)) bs) ≡ min (4096 * (k.run.more + 1)) (length (drop (4096 * k.run.first) bs))
            → length (drop (4096 * k.run.first) bs) ≡ length bs - 4096 * k.run.first
            → length (within (4096 * k.run.first) (4096 * (k.run.more + 1)) bs) ≡ length k.bytes.items
            → (4096 * block_count (length k.bytes.items) ≡ length k.bytes.items) ⊎ (4096 * k.run.first + length k.bytes.items ≡ size_at T k.place)
        ends true e long behind is =
            let le = leb-true (4096 * (k.run.more + 1)) (length (drop (4096 * k.run.first) bs)) e in
            let whole : length k.bytes.items ≡ 4096 * (k.run.more + 1) = omega (arith, long, is, le) in
            inl (omega (arith, whole))
        ends false e long behind is =
            let lt = leb-false (4096 * (k.run.more + 1)) (length (drop (4096 * k.run.first) bs)) e in
            inr (omega (arith, long, behind, is, lt, s, some))

-- so their digests are those of the file's blocks then
pub are_digests : (F : Tree) (k : KeptBlocks) → 4096 * k.run.first + length k.bytes.items ≤ size_at F k.place
    → (4096 * block_count (length k.bytes.items) ≡ length k.bytes.items) ⊎ (4096 * k.run.first + length k.bytes.items ≡ size_at F k.place)
    → AreDigestsOf k.run.first k.bytes.items (get F.inodes k.place) (digests_of k.bytes.items)
are_digests F k le ends = go (get F.inodes k.place) refl
  where
    kind : (c : Content) → size_at F k.place ≡ size_of c → AreDigestsIn k.run.first k.bytes.items c (digests_of k.bytes.items)
    kind (Names m) s = tt
    kind (Bytes bs) s = digests_there k.run.first k.bytes.items bs (omega (arith, le, s)) (elim ends [ inl whole ↦ inl whole | inr last ↦ inr (last ∙ s) ])

    go : (o : Option Inode) → get F.inodes k.place ≡ o → AreDigestsOf k.run.first k.bytes.items o (digests_of k.bytes.items)
    go None e = tt
    go (Some i) e = kind i.content (size_in F k.place i e)

-- ---- the paths of their blocks

pub run_paths : (F T : Tree) (f : PartForest) → Stands f F → (k : KeptBlocks) → k.place.1 < 2 ^ 32 → HoldsBlocks T k → KnowsPaths F f k → 0 < length k.bytes.items → 4096 * k.run.first + length k.bytes.items ≤ size_at F k.place
    → (end_ : ℕ) → end_ ≡ k.run.first + block_count (length k.bytes.items) → HasPathsAt k.place k.run.first end_ f
run_paths F T f h k small held known some fits end_ last =
    go (user_part k.place.0 f) refl (λ n low high. let lt = before n low high in known n (few n lt) (inside_run n low lt) small)
  where
    before : (n : ℕ) → k.run.first ≤ n → n < end_ → 4096 * n < 4096 * k.run.first + length k.bytes.items
    before n low high = omega (arith, low, high, last)

    few : (n : ℕ) → 4096 * n < 4096 * k.run.first + length k.bytes.items → n < 4294967295
    few n high = let bound = small_size F k.place (meant_at f F h k.place) in omega (arith, high, fits, bound)

    inside_run : (n : ℕ) → k.run.first ≤ n → 4096 * n < 4096 * k.run.first + length k.bytes.items → in_run k.run n ≡ true
    inside_run n low high = let l = run_long T k held in let last : n ≤ k.run.first + k.run.more = omega (arith, low, high, l) in
        and_from (nat_le k.run.first n) (nat_le n (k.run.first + k.run.more)) (grind (arith, low)) (grind (arith, last))

    content : (q : PartContent) (c : Content) → StandsContent q c → size_of c ≡ size_at F k.place → ((n : ℕ) → k.run.first ≤ n → n < end_ → KnowsPathIn n q c) → HasPathsIn k.run.first end_ q
    content (LoadedNames t) c s e w = tt
    content (LoadedBytes b) (Names m) s e w = absurd s
    content (LoadedBytes b) (Bytes bs) s e w = λ n low high. path n (w n low high) (before n low high)
      where
        path : (n : ℕ) → IsTrue (reaches number_bits n b.digests) ⊎ (length bs ≤ 4096 * n) → 4096 * n < 4096 * k.run.first + length k.bytes.items → IsTrue (reaches number_bits n b.digests)
        path n (inl r) lt = r
        path n (inr past) lt = absurd (omega (arith, past, lt, fits, e))

    part : (a : Option PartInode) (o : Option Inode) → get F.inodes k.place ≡ o → StandsAt a o → ((n : ℕ) → k.run.first ≤ n → n < end_ → OfLoaded (KnowsPathIn n) a o) → IfLoaded (HasPathsOf k.run.first end_) a
    part None o e s w = tt
    part (Some q) None e s w = absurd s
    part (Some q) (Some i) e s w = content q.content i.content s.content (sym (size_in F k.place i e)) w

    go : (o : Option UserPart) → user_part k.place.0 f ≡ o → ((n : ℕ) → k.run.first ≤ n → n < end_ → IfSome o (KnowsPath k.place.0 F k.place.1 n)) → IfSome o (HasOf k.place.1 (HasPathsOf k.run.first end_))
    go None is w = tt
    go (Some q) is w =
        let stands = user_stands f F h k.place q is in
        record {
          inode = inode_loaded k.place.0 k.place.1 F q stands (w k.run.first (omega arith) (omega (arith, some, last))).inode (sized_some F k.place (4096 * k.run.first) (omega (arith, some, fits)));
          part = part (at_number q.inodes.entries k.place.1) (get F.inodes k.place) refl (stands.inodes k.place.1) (λ n low high. (w n low high).part);
        }

-- ---- what stays known

-- but for blocks
pub paths_known : (F G : Tree) (f g : PartForest) (p : Place) (first end_ : ℕ) → StaysKnownBut p first end_ F G f g → PathsStayKnown F G f g
paths_known F G f g p first end_ stays = record {
  inodes = λ q w. stays.known (OfUser q.0 (AnInode q.1)) (λ e. tt) w;
  paths = stays.paths;
}

-- where nothing was done
pub paths_kept : (F : Tree) (f g : PartForest) → Stands f F → Stands g F → KeepsLoaded f g → StaysKnown F F f g → PathsStayKnown F F f g
paths_kept F f g hf hg keeps stays = record { inodes = λ p w. stays (OfUser p.0 (AnInode p.1)) w; paths = paths }
  where
    paths : (p : Place) (n : ℕ) → KnowsPathAt F p n f → KnowsPathAt F p n g
    paths p n w = go (user_part p.0 f) (user_part p.0 g) (hf.users p.0) (hg.users p.0) (keeps.users p.0) (stays (OfUser p.0 (AnInode p.1))) w
      where
        inside : (x y : PartContent) (c : Content) → HasAllIn x y → KnowsPathIn n x c → KnowsPathIn n y c
        inside (LoadedBytes b) (LoadedBytes d) (Bytes bs) all w = elim w [ inl r ↦ inl (all.paths n r) | inr past ↦ inr past ]
        inside (LoadedBytes b) (LoadedBytes d) (Names m) all w = tt
        inside (LoadedBytes b) (LoadedNames v) c all w = absurd all
        inside (LoadedNames t) (LoadedBytes d) c all w = absurd all
        inside (LoadedNames t) (LoadedNames v) (Bytes bs) all w = tt
        inside (LoadedNames t) (LoadedNames v) (Names m) all w = tt

        part : (a b : Option PartInode) (o : Option Inode) → HasAllOf a b → (o ≢ None → IsSome a) → OfLoaded (KnowsPathIn n) a o → OfLoaded (KnowsPathIn n) b o
        part a None None all there w = tt
        part a (Some y) None all there w = tt
        part a None (Some i) all there w = tt
        part None (Some y) (Some i) all there w = absurd (let z : false ≡ true = there (λ e. let y : Some i ≡ None = e in absurd cc) in cc)
        part (Some x) (Some y) (Some i) all there w = inside x.content y.content i.content all w

        missing : (b : Bool) (q : UserPart) → IsPart (λ r. StandsUser p.0 r F) b None → IsPart (λ r. StandsUser p.0 r F) b (Some q) → ⊥
        missing true q s r = s
        missing false q s r = let z : Some q ≡ None = r in absurd cc

        go : (a b : Option UserPart) → IsPart (λ r. StandsUser p.0 r F) (is_user p.0) a → IsPart (λ r. StandsUser p.0 r F) (is_user p.0) b → IsKept HasAll a b
            → (IfSome a (KnowsInode p.0 F p.1) → IfSome b (KnowsInode p.0 F p.1)) → IfSome a (KnowsPath p.0 F p.1 n) → IfSome b (KnowsPath p.0 F p.1 n)
        go a None s r all inode w = tt
        go None (Some q) s r all inode w = absurd (missing (is_user p.0) q s r)
        go (Some x) (Some y) s r all inode w = record {
          inode = inode w.inode;
          part = part (at_number x.inodes.entries p.1) (at_number y.inodes.entries p.1) (get F.inodes (p.0, p.1)) (all.inodes p.1) w.inode.there w.part;
        }

-- ---- what may be given

-- a block of some blocks of a file
block_within : (first more n : ℕ) (bs : List ℕ) → n < more → block n (within (4096 * first) (4096 * more) bs) ≡ block (first + n) bs
block_within first more n bs lt =
    let w = within (4096 * first) (4096 * more) bs in
    let long = length-take (4096 * more) (drop (4096 * first) bs) in
    let behind = length-drop (4096 * first) bs in
    let size = length-block n w in
    block_is (first + n) bs (block n w) (size ∙ omega (arith, long, behind, lt))
    (λ i low.
    get_or-block n w i (omega (arith, low, size))
    ∙ get_or-take (4096 * more) (drop (4096 * first) bs) (4096 * n + i) 0 (omega (arith, low, size, lt))
    ∙ get_or-drop (4096 * first) bs (4096 * n + i) 0
    ∙ ap (λ j. get_or bs j 0) (omega arith))

-- the item of a block that is kept of a tree is hashed for the tree
hashed_kept : (T : Tree) (k : KeptBlocks) (s : List ℕ) → HoldsBlocks T k → IsItemOf k.bytes.items s → HashedFor T s
hashed_kept T k s held (n, lt, is) = inl (k.place.0, inr (go (get T.inodes k.place) refl held))
  where
    long : length k.bytes.items ≤ 4096 * (k.run.more + 1)
    long = run_long T k held

    kind : (i : Inode) (c : Content) → option_map (within (4096 * k.run.first) (4096 * (k.run.more + 1))) (bytes_of (Some (record i { content = c }))) ≡ Some k.bytes.items → ContentItem c s
    kind i (Bytes bs) e =
        let same : within (4096 * k.run.first) (4096 * (k.run.more + 1)) bs ≡ k.bytes.items = cc in
        inr (k.run.first + n, is ∙ ap (λ xs. block_item (block n xs)) (sym same) ∙ ap block_item (block_within k.run.first (k.run.more + 1) n bs (omega (arith, lt, long))))
    kind i (Names m) e = absurd cc

    go : (o : Option Inode) → get T.inodes k.place ≡ o → option_map (within (4096 * k.run.first) (4096 * (k.run.more + 1))) (bytes_of o) ≡ Some k.bytes.items
        → (m : ℕ) × (i : Inode) × (get T.inodes (k.place.0, m) ≡ Some i) × InodeItemOf i s
    go None at e = absurd cc
    go (Some i) at e = (k.place.1, i, at, inr (kind i i.content e))

pub hashed_one : (T : Tree) (ks : List KeptBlocks) (s : List ℕ) → AllByRecursion (HoldsBlocks T) ks → IsItemOfOne ks s → HashedFor T s
hashed_one T ks s all (k, (n, lt, is), item) = hashed_kept T k s (find ks all n lt is) item
  where
    find : (ks : List KeptBlocks) → AllByRecursion (HoldsBlocks T) ks → (n : ℕ) → n < length ks → slice_index_or ks n k ≡ k → HoldsBlocks T k
    find [] all n lt is = absurd (omega (arith, lt))
    find (x ∷ xs) (one, more) zero lt is = subst (HoldsBlocks T) is one
    find (x ∷ xs) (one, more) (suc n) lt is = find xs more n (omega (arith, lt)) is

-- ---- a run is put back

pub count_of : (k : KeptBlocks) → length (digests_of k.bytes.items) ≡ block_count (length k.bytes.items)
count_of k = length-map-range_with_len (λ n. sha256 (block_item (block n k.bytes.items))) 0 (block_count (length k.bytes.items))

-- what a call of `PartForest::put_left` at the place tells, when it answered r
pub record IsPut {A : Type 0} (p : Place) (first : ℕ) (ds : List (List ℕ)) (f g : PartForest) (r : Result A Refusal) : Type 0 where
  pub ok : (T : Tree) (xs : List ℕ) → Stands f T → 4096 * first + length xs ≤ size_at T p → AreDigestsOf first xs (get T.inodes p) ds
      → OnOk r (Stands g (edit T (Inodes p (Written (size_at T p) (4096 * first) xs))))
  pub known : (T : Tree) (xs : List ℕ) → Stands f T → 4096 * first + length xs ≤ size_at T p
      → OnOk r (StaysKnownBut p first (first + length ds) T (edit T (Inodes p (Written (size_at T p) (4096 * first) xs))) f g)
  pub succeeds : (T : Tree) → Stands f T → HasPathsAt p first (first + length ds) f → IsOk r
  pub err : (T : Tree) → Stands f T → OnErr r (Stands g T)
  pub err_known : (T : Tree) → Stands f T → OnErr r (StaysKnown T T f g)
  pub err_keeps : OnErr r (KeepsLoaded f g)

module _ {A : Type 0} (F T : Tree) (f g : PartForest) (k : KeptBlocks) (r : Result A Refusal) (put : IsPut k.place k.run.first (digests_of k.bytes.items) f g r) (h : Stands f F) (small : k.place.1 < 2 ^ 32)
    (ready : LeftIsReady F T f k) (some : 0 < length k.bytes.items) where
  fits : 4096 * k.run.first + length k.bytes.items ≤ size_at F k.place
  fits = let le = (held_within T k ready.held some).0 in let same = ready.long in omega (arith, le, same)

  ends : (4096 * block_count (length k.bytes.items) ≡ length k.bytes.items) ⊎ (4096 * k.run.first + length k.bytes.items ≡ size_at F k.place)
  ends = elim (held_within T k ready.held some).1 [ inl whole ↦ inl whole | inr last ↦ inr (last ∙ sym ready.long) ]

  done : IsOk r → Stands g (written_to k F) × PathsStayKnown F (written_to k F) f g
  done is =
      let new = written_some k F some fits in
      let stays = ok_of r is (put.known F k.bytes.items h fits) in (
        subst (Stands g) (sym new) (ok_of r is (put.ok F k.bytes.items h fits (are_digests F k fits ends))),
        subst (λ V. PathsStayKnown F V f g) (sym new)
            (paths_known F (edit F (blocks_edit F k)) f g k.place k.run.first (k.run.first + length (digests_of k.bytes.items)) stays),
      )

  same_already : bytes_of (get F.inodes k.place) ≡ bytes_of (get T.inodes k.place) → IsErr r → Stands g (written_to k F) × PathsStayKnown F (written_to k F) f g
  same_already same is =
      let new = written_same k F T ready.held same in
      let stands = err_of r is (put.err F h) in (
        subst (Stands g) (sym new) stands,
        subst (λ V. PathsStayKnown F V f g) (sym new) (paths_kept F f g h stands (err_of r is put.err_keeps) (err_of r is (put.err_known F h))),
      )

  pub put_back : Stands g (written_to k F) × PathsStayKnown F (written_to k F) f g
  put_back = elim ready.paths [
    | inl same ↦ elim (ok_or_not r) [ inl is ↦ done is | inr is ↦ same_already same is ]
    | inr paths ↦ done (put.succeeds F h (run_paths F T f h k small ready.held paths some fits (k.run.first + length (digests_of k.bytes.items)) (ap (λ n. k.run.first + n) (count_of k))))
  ]

-- ---- nothing is put

pub none_put : (k : KeptBlocks) (F : Tree) → (0 < length k.bytes.items → ⊥) → written_to k F ≡ F
none_put k F none = written_none k F (go k.bytes.items none)
  where
    go : (xs : List ℕ) → (0 < length xs → ⊥) → xs ≡ []
    go [] none = refl
    go (x ∷ xs) none = absurd (none (omega arith))

-- where there are too many of them, there are none
pub few_left : (F T : Tree) (f : PartForest) (k : KeptBlocks) → Stands f F → LeftIsReady F T f k → 0 < length k.bytes.items → k.run.first + length (digests_of k.bytes.items) ≤ 4294967295
few_left F T f k h ready some =
    let le = (held_within T k ready.held some).0 in
    let same = ready.long in
    let bound = small_size F k.place (meant_at f F h k.place) in
    let count = count_of k in
    omega (arith, le, same, bound, count, some)

pub paths_still : (F G : Tree) (f : PartForest) → G ≡ F → PathsStayKnown F G f f
paths_still F G f is = subst (λ V. PathsStayKnown F V f f) (sym is) (record { inodes = λ p w. w; paths = λ p n w. w })
