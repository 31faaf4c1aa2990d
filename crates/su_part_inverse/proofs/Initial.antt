-- Where what stands in the areas of an inverse is loaded, enough is known for all of the undo.
use Rattle.std.proofs.Common.{◌≡◌, ◌∙◌, ℕ, ◌+◌, ◌-◌, ◌*◌, ◌/◌, ◌<◌, ◌≤◌, ◌^◌, min, Bool, true, false, ◌||◌, ◌&&◌, ◌⊎◌, inl, inr, nat_le, List, [], ◌∷◌, ◌++◌, map, length, drop, Option, Some, None, refl, sym, ap, subst, arith}
use Rattle.std.proofs.lemmas.Bool.{and_parts, leb-true}
use Rattle.std.proofs.lemmas.List.{length-take, length-drop}
use Rattle.std.specs.Prelude.{IfSome}
use Rattle.std.specs.List.{AllByRecursion}
use Rattle.std.specs.FinMap.{get}
use Rattle.su_bytes.specs.Place.{Place, place_eq}
use Rattle.su_node.specs.Inode.{Inode, Content, Content.Bytes, Content.Names, size_of}
use Rattle.su_node.specs.Field.{Field.BlockOf, Field.KindOf, Field.SizeOf, Value.Nothing, block, block_value, field_value}
use Rattle.su_table.specs.Tree.{Tree}
use Rattle.su_table.specs.Cell.{Cell.At, val}
use Rattle.su_table.specs.Query.{value_number, size_at}
use Rattle.su_op.specs.Area.{has, in_area, in_run}
use Rattle.su_op.specs.declared.areas.Area.{Area}
use Rattle.su_op.specs.declared.areas.Area.TheVariants.{Inode as InodeArea, Pointer as PointerArea}
use Rattle.su_op.specs.declared.areas.BlockRun.{BlockRun}
use Rattle.su_op.specs.declared.areas.Part.TheVariants.{Kind as KindPart, Links as LinksPart, Size as SizePart, Name as NamePart, Blocks as BlocksPart, Whole as WholePart}
use Rattle.su_op.proofs.Public.{block_value_same, place_eq-itself, place_eq-same}
use Rattle.su_part.specs.Fetches.{HasWanted, HasWantedAt}
use Rattle.su_part.specs.Known.{Want.AnInode}
use Rattle.su_part.specs.Part.{HasBlocksIn, HasWriteIn, IfLoaded, IsOpenAt, IsThere, MeantAt, StandsAt, StandsContent, StandsUser, at_number}
use Rattle.su_part.specs.declared.fetches.Wanted.{Wanted}
use Rattle.su_part.specs.declared.fetches.Wanted.TheVariants.{Nothing as NothingWanted, Name as WantedName, Blocks as WantedBlocks, Write as WantedWrite}
use Rattle.su_part.specs.declared.inodes.PartContent.{PartContent}
use Rattle.su_part.specs.declared.inodes.PartContent.TheVariants.{Bytes as LoadedBytes, Names as LoadedNames}
use Rattle.su_part.specs.declared.inodes.PartInode.{PartInode}
use Rattle.su_part.specs.declared.users.UserPart.{UserPart}
use Rattle.su_part.proofs.Public.{knows_block, knows_inode, knows_name}
use Rattle.su_group_part.specs.Part.{HasPointer, KnowsPointer}
use Rattle.su_group_part.specs.declared.groups.GroupPart.{GroupPart}
use Rattle.su_part_forest.specs.Forest.{Stands, user_part, group_part}
use Rattle.su_part_forest.specs.Known.{Knows, Want.OfUser}
use Rattle.su_part_forest.specs.declared.forests.PartForest.{PartForest}
use Rattle.su_perform.specs.Loaded.{HasArea, HasAreas, OpenAt, end_of}
use Rattle.su_part_inverse.proofs.LoadedLemmas.{areas_left, areas_right}
use Rattle.su_inverse.specs.Kept.{blocks_area, reset_area, size_area, HoldsBlocks, HoldsReset, HoldsSize}
use Rattle.su_inverse.specs.declared.contents.KeptSize.{KeptSize}
use Rattle.su_inverse.proofs.SizeLemmas.{sized}
use Rattle.su_part_inverse.specs.Kept.{inode_area, return_area, inverse_areas, runs, HoldsReturn, IsPutBack}
use Rattle.su_part_inverse.specs.Open.{AreOpen, InodeIsOpen, ReturnIsOpen, SizeIsOpen}
use Rattle.su_part_inverse.specs.Ready.{BlocksAreReady, IsReady, KnowsArea, KnowsBlock, ResetIsReady, SizeIsReady, stood_at}
use Rattle.su_part_inverse.specs.declared.inverses.Inverse.{Inverse}
use Rattle.su_part_inverse.specs.declared.returns.KeptInode.{KeptInode}
use Rattle.su_part_inverse.proofs.Final.{kind_among, others}
use Rattle.su_part_inverse.proofs.Moves.{size_of_T}
use Rattle.su_part_inverse.proofs.Reading.{meant_at, open_has, user_stands}
use Rattle.su_part_inverse.proofs.ReadyLemmas.{each}

-- ---- of each of a list

both : {X : Type 0} (area : X → Area) (P Q : X → Type 0) (F : Tree) (f : PartForest) → ((x : X) → P x → HasArea F f (area x) → Q x) → (xs : List X) → AllByRecursion P xs → HasAreas F f (map area xs) → AllByRecursion Q xs
both area P Q F f one [] all loaded = tt
both area P Q F f one (x ∷ xs) (first, rest) (here, more) = (one x first here, both area P Q F f one xs rest more)

-- ---- blocks of a plain tree

-- a file's size is below 2 ^ 32
pub small_size : (F : Tree) (p : Place) → MeantAt (get F.inodes p) → size_at F p < 2 ^ 32
unfolding val
small_size F p meant = go (get F.inodes p) meant
  where
    kind : (i : Inode) (c : Content) → MeantAt (Some (record i { content = c })) → value_number (field_value (Some (record i { content = c })) SizeOf) < 2 ^ 32
    kind i (Bytes bs) m = m.size
    kind i (Names q) m = omega arith

    go : (o : Option Inode) → MeantAt o → value_number (field_value o SizeOf) < 2 ^ 32
    go None m = omega arith
    go (Some i) m = kind i i.content m

-- the size at a place is that of the content
pub size_in : (F : Tree) (p : Place) (i : Inode) → get F.inodes p ≡ Some i → size_at F p ≡ size_of i.content
unfolding val
size_in F p i e = ap (λ o. value_number (field_value o SizeOf)) e

length_block : (n : ℕ) (bs : List ℕ) → length (block n bs) ≡ min 4096 (length bs - 4096 * n)
unfolding block
length_block n bs = length-take 4096 (drop (4096 * n) bs) ∙ ap (min 4096) (length-drop (4096 * n) bs)

-- a block in which a longer file ends later is another one
block_other : (F T : Tree) (p : Place) (size n : ℕ) → size_at T p ≡ size → size < size_at F p → size / 4096 ≤ n → 4096 * n < size_at F p → val F (At p (BlockOf n)) ≡ val T (At p (BlockOf n)) → ⊥
unfolding val
block_other F T p size n held lt low high same = go (get F.inodes p) (get T.inodes p) held lt high same
  where
    some : (bs : List ℕ) → block_value (block n bs) ≡ Nothing → 4096 * n < length bs → ⊥
    some bs e within = empty (block n bs) e (length_block n bs)
      where
        empty : (xs : List ℕ) → block_value xs ≡ Nothing → length xs ≡ min 4096 (length bs - 4096 * n) → ⊥
        empty [] e long = omega (arith, long, within)
        empty (x ∷ xs) e long = cc

    kinds : (i j : Inode) (c d : Content) → value_number (field_value (Some (record j { content = d })) SizeOf) ≡ size → size < value_number (field_value (Some (record i { content = c })) SizeOf)
        → 4096 * n < value_number (field_value (Some (record i { content = c })) SizeOf) → field_value (Some (record i { content = c })) (BlockOf n) ≡ field_value (Some (record j { content = d })) (BlockOf n) → ⊥
    kinds i j (Names m) d held lt high same = omega (arith, lt)
    kinds i j (Bytes bs) (Names m) held lt high same = some bs same high
    kinds i j (Bytes bs) (Bytes cs) held lt high same =
        let is : length cs ≡ size = held in
        let long = sym (length_block n bs) ∙ ap length (block_value_same (block n bs) (block n cs) same) ∙ length_block n cs in
        omega (arith, is, long, lt, low, high)

    go : (o q : Option Inode) → value_number (field_value q SizeOf) ≡ size → size < value_number (field_value o SizeOf) → 4096 * n < value_number (field_value o SizeOf) → field_value o (BlockOf n) ≡ field_value q (BlockOf n) → ⊥
    go None None held lt high same = omega (arith, lt)
    go (Some i) None held lt high same = alone i i.content high same
      where
        alone : (i : Inode) (c : Content) → 4096 * n < value_number (field_value (Some (record i { content = c })) SizeOf) → field_value (Some (record i { content = c })) (BlockOf n) ≡ Nothing → ⊥
        alone i (Bytes bs) high same = some bs same high
        alone i (Names m) high same = omega (arith, high)
    go None (Some j) held lt high same = omega (arith, lt)
    go (Some i) (Some j) held lt high same = kinds i j i.content j.content held lt high same

-- ---- what is loaded is known

module _ (F : Tree) (f : PartForest) (h : Stands f F) where
  module _ (p : Place) (w : Wanted) (opens : OpenAt F p w f) where
    here : {P : UserPart → Type 0} → ((q : UserPart) → StandsUser p.0 q F → HasWantedAt p.1 w q → P q) → IfSome (user_part p.0 f) P
    here {P} give = go (user_part p.0 f) refl (open_has f F h p w opens)
      where
        go : (o : Option UserPart) → user_part p.0 f ≡ o → IfSome o (HasWantedAt p.1 w) → IfSome o P
        go None is has = tt
        go (Some q) is has = give q (user_stands f F h p q is) has

    inode_here : p.1 < 2 ^ 32 → Knows F (OfUser p.0 (AnInode p.1)) f
    inode_here m = here (λ q s has. knows_inode p.0 F p.1 q m s has.inode)

  pub area_known : (a : Area) → HasArea F f a → KnowsArea F f a
  area_known (InodeArea p (NamePart x)) opens (m, named) = here p (WantedName x) opens (λ q s has. knows_name p.0 F p.1 q m s x named (record { inode = has.inode; part = has.part }))
  area_known (InodeArea p KindPart) opens m = inode_here p NothingWanted opens m
  area_known (InodeArea p LinksPart) opens m = inode_here p NothingWanted opens m
  area_known (InodeArea p SizePart) opens m = inode_here p NothingWanted opens m
  area_known (InodeArea p WholePart) opens m = inode_here p NothingWanted opens m
  area_known (InodeArea p (BlocksPart r)) opens m = inode_here p (WantedBlocks r.first (end_of r)) opens m
  area_known (PointerArea g) has m = go (group_part g.0 f) has
    where
      go : (o : Option GroupPart) → IfSome o (HasPointer g.1) → IfSome o (KnowsPointer g.0 F g.1)
      go None has = tt
      go (Some q) has = inl has

  -- a block of a run
  narrowed : (p : Place) (r : BlockRun) (n : ℕ) → n < 4294967295 → in_run r n ≡ true → HasArea F f (InodeArea p (BlocksPart r)) → OpenAt F p (WantedBlocks n (n + 1)) f
  narrowed p r n few within opens = go (user_part p.0 f) opens
    where
      inside : (c : PartContent) → HasBlocksIn r.first (end_of r) c → HasBlocksIn n (n + 1) c
      inside (LoadedNames t) has = tt
      inside (LoadedBytes b) has = λ m low high.
          let (x, y) = and_parts (nat_le r.first n) (nat_le n (r.first + r.more)) within in
          let first : r.first ≤ n = leb-true r.first n x in
          let last : n ≤ r.first + r.more = leb-true n (r.first + r.more) y in
          has m (omega (arith, first, low)) (omega (arith, last, few, high))

      part : (o : Option PartInode) → IfLoaded (HasWanted (WantedBlocks r.first (end_of r))) o → IfLoaded (HasWanted (WantedBlocks n (n + 1))) o
      part None has = tt
      part (Some c) has = inside c.content has

      go : (o : Option UserPart) → IfSome o (λ q. IsOpenAt p.1 (HasWanted (WantedBlocks r.first (end_of r))) q × IsThere p.0 F p.1 q) → IfSome o (λ q. IsOpenAt p.1 (HasWanted (WantedBlocks n (n + 1))) q × IsThere p.0 F p.1 q)
      go None opens = tt
      go (Some q) opens = (record { path = opens.0.path; part = part (at_number q.inodes.entries p.1) opens.0.part }, opens.1)

  block_known : (p : Place) (n : ℕ) → OpenAt F p (WantedBlocks n (n + 1)) f → KnowsBlock F f p n
  block_known p n opens m = here p (WantedBlocks n (n + 1)) opens (λ q s has. knows_block p.0 F p.1 q m s n (n + 1) n (omega arith) (omega arith) (record { inode = has.inode; part = has.part }))

  run_known : (p : Place) (r : BlockRun) → HasArea F f (InodeArea p (BlocksPart r)) → (n : ℕ) → n < 4294967295 → in_run r n ≡ true → KnowsBlock F f p n
  run_known p r opens n few within = block_known p n (narrowed p r n few within opens)

  -- a block of which the cell is among areas is loaded, or its whole inode is among them
  module _ (p : Place) (n : ℕ) (few : n < 4294967295) where
    block_in : (a : Area) → HasArea F f a → in_area a (At p (BlockOf n)) ≡ true → OpenAt F p (WantedBlocks n (n + 1)) f ⊎ (in_area a (At p KindOf) ≡ true)
    block_in (PointerArea g) has is = absurd cc
    block_in (InodeArea q WholePart) has is = inr is
    block_in (InodeArea q (BlocksPart r)) has is =
        let (e, within) = and_parts (place_eq p q) (in_run r n) is in
        inl (subst (λ s. OpenAt F s (WantedBlocks n (n + 1)) f) (sym (place_eq-same p q e)) (narrowed q r n few within has))
    block_in (InodeArea q KindPart) has is = absurd (let z = (and_parts (place_eq p q) false is).1 in cc)
    block_in (InodeArea q LinksPart) has is = absurd (let z = (and_parts (place_eq p q) false is).1 in cc)
    block_in (InodeArea q SizePart) has is = absurd (let z = (and_parts (place_eq p q) false is).1 in cc)
    block_in (InodeArea q (NamePart x)) has is = absurd (let z = (and_parts (place_eq p q) false is).1 in cc)

    pub blocks_in : (w : List Area) → HasAreas F f w → has w (At p (BlockOf n)) ≡ true → OpenAt F p (WantedBlocks n (n + 1)) f ⊎ (has w (At p KindOf) ≡ true)
    blocks_in [] loaded is = absurd cc
    blocks_in (a ∷ w) (loaded, more) is = go (in_area a (At p (BlockOf n))) refl is (blocks_in w more)
      where
        first : (b d : Bool) → b ≡ true → (b || d) ≡ true
        first b d e = ap (λ x. x || d) e

        last : (b d : Bool) → d ≡ true → (b || d) ≡ true
        last true d e = refl
        last false d e = e

        go : (b : Bool) → in_area a (At p (BlockOf n)) ≡ b → (b || has w (At p (BlockOf n))) ≡ true → (has w (At p (BlockOf n)) ≡ true → OpenAt F p (WantedBlocks n (n + 1)) f ⊎ (has w (At p KindOf) ≡ true))
            → OpenAt F p (WantedBlocks n (n + 1)) f ⊎ ((in_area a (At p KindOf) || has w (At p KindOf)) ≡ true)
        go true e is later = elim (block_in a loaded e) [ inl k ↦ inl k | inr x ↦ inr (first (in_area a (At p KindOf)) (has w (At p KindOf)) x) ]
        go false e is later = elim (later is) [ inl k ↦ inl k | inr x ↦ inr (last (in_area a (At p KindOf)) (has w (At p KindOf)) x) ]

-- ---- all that an undo needs

-- each of a list is among it
all_among : (ks : List KeptInode) → AllByRecursion (λ k. stood_at ks k.place ≡ true) ks
all_among [] = tt
all_among (k ∷ ks) = (ap (λ b. (b && true) || stood_at ks k.place) (place_eq-itself k.place), each (λ j. stood_at ks j.place ≡ true) (λ j. stood_at (k ∷ ks) j.place ≡ true) (λ j is. behind (place_eq j.place k.place && true) (stood_at ks j.place) is) ks (all_among ks))
  where
    behind : (b d : Bool) → d ≡ true → (b || d) ≡ true
    behind true d e = refl
    behind false d e = e

module _ (i : Inverse) (F T : Tree) (f : PartForest) (h : Stands f F) (loaded : HasAreas F f (inverse_areas i)) (put : IsPutBack i F T) where
  -- a block that isn't the same in both trees is loaded, where no inode is kept of its place
  changed_open : (k : KeptSize) → HoldsSize T k → stood_at i.inodes.items k.place ≡ false → (n : ℕ) → n < 4294967295 → (val F (At k.place (BlockOf n)) ≡ val T (At k.place (BlockOf n)) → ⊥) → OpenAt F k.place (WantedBlocks n (n + 1)) f
  unfolding val
  changed_open k held out n few other = go (has (inverse_areas i) (At k.place (BlockOf n))) refl
    where
      nothing : val T (At k.place KindOf) ≡ Nothing → ⊥
      nothing none = sized (get T.inodes k.place) k.size none held

      go : (b : Bool) → has (inverse_areas i) (At k.place (BlockOf n)) ≡ b → OpenAt F k.place (WantedBlocks n (n + 1)) f
      go false e = absurd (other (put.others (At k.place (BlockOf n)) e))
      go true e = elim (blocks_in F f h k.place n few (inverse_areas i) loaded e) [
        | inl open' ↦ open'
        | inr kind ↦ elim (kind_among i T put.kept k.place kind) [
          | inl back ↦ absurd (let z : true ≡ false = sym back ∙ out in cc)
          | inr none ↦ absurd (nothing none)
        ]
      ]

  size_ready : (k : KeptSize) → HoldsSize T k → HasArea F f (size_area k) → SizeIsReady i.inodes.items F T f k
  size_ready k held opens = record {
    held = held;
    known = area_known F f h (size_area k) opens;
    end_ = λ out lt n low high.
        let small = small_size F k.place (meant_at f F h k.place) in
        block_known F f h k.place n (changed_open k held out n (omega (arith, high, small)) (block_other F T k.place k.size n (size_of_T T k held) lt low high));
  }

  -- what the file needs to grow
  size_open : (k : KeptSize) → HoldsSize T k → HasArea F f (size_area k) → SizeIsOpen i.inodes.items F f k
  size_open k held opens out small less = go (user_part k.place.0 f) refl opens
    where
      is : size_at T k.place ≡ k.size
      is = size_of_T T k held

      block_open : (n : ℕ) → size_at F k.place / 4096 ≤ n → 4096 * n < k.size → OpenAt F k.place (WantedBlocks n (n + 1)) f
      block_open n low high = changed_open k held out n (omega (arith, high, small)) (λ e. block_other T F k.place (size_at F k.place) n refl (omega (arith, less, is)) low (omega (arith, high, is)) (sym e))

      inside : (c : PartContent) (d : Content) → StandsContent c d → size_of d ≡ size_at F k.place → ((n : ℕ) → size_at F k.place / 4096 ≤ n → 4096 * n < k.size → HasBlocksIn n (n + 1) c) → HasWriteIn k.size 0 c
      inside (LoadedNames t) d s e w = tt
      inside (LoadedBytes b) (Names m) s e w = absurd s
      inside (LoadedBytes b) (Bytes bs) s e w = λ n low high. let long = s.size in w n (omega (arith, low, long, e, less)) (omega (arith, high)) n (omega arith) (omega arith)

      part : (o : Option PartInode) (j : Option Inode) → get F.inodes k.place ≡ j → StandsAt o j → ((n : ℕ) → size_at F k.place / 4096 ≤ n → 4096 * n < k.size → IfLoaded (HasWanted (WantedBlocks n (n + 1))) o) → IfLoaded (HasWanted (WantedWrite k.size 0)) o
      part None j e s w = tt
      part (Some c) None e s w = absurd s
      part (Some c) (Some j) e s w = inside c.content j.content s.content (sym (size_in F k.place j e)) w

      go : (o : Option UserPart) → user_part k.place.0 f ≡ o → IfSome o (λ q. IsOpenAt k.place.1 (HasWanted NothingWanted) q × IsThere k.place.0 F k.place.1 q)
          → IfSome o (λ q. IsOpenAt k.place.1 (HasWanted (WantedWrite k.size 0)) q × IsThere k.place.0 F k.place.1 q)
      go None e opens = tt
      go (Some q) e opens = (
        record {
          path = opens.0.path;
          part = part (at_number q.inodes.entries k.place.1) (get F.inodes k.place) refl ((user_stands f F h k.place q e).inodes k.place.1)
              (λ n low high. (subst (λ o. IfSome o (λ r. IsOpenAt k.place.1 (HasWanted (WantedBlocks n (n + 1))) r × IsThere k.place.0 F k.place.1 r)) e (block_open n low high)).0.part);
        },
        opens.1,
      )

  pub open_first : AreOpen i.inodes.items i.inodes.items i.returns.items i.sizes.items F f
  open_first =
      let behind = areas_right f F (map inode_area i.inodes.items) (map return_area i.returns.items ++ others i) loaded in
      let later = areas_right f F (map return_area i.returns.items) (others i) behind in
      record {
        inodes = both inode_area (λ k. stood_at i.inodes.items k.place ≡ true) (InodeIsOpen i.inodes.items F f) F f (λ k among has. record { among = among; loaded = has }) i.inodes.items (all_among i.inodes.items)
            (areas_left f F (map inode_area i.inodes.items) (map return_area i.returns.items ++ others i) loaded);
        returns = both return_area (HoldsReturn T) (ReturnIsOpen i.inodes.items F f) F f (λ r held has out. has) i.returns.items put.kept.returns (areas_left f F (map return_area i.returns.items) (others i) behind);
        sizes = both size_area (HoldsSize T) (SizeIsOpen i.inodes.items F f) F f size_open i.sizes.items put.kept.sizes (areas_left f F (map size_area i.sizes.items) (map reset_area i.resets.items ++ map blocks_area (runs i)) later);
      }

  pub ready_first : IsReady i.inodes.items i F T f
  ready_first =
      let behind = areas_right f F (map inode_area i.inodes.items) (map return_area i.returns.items ++ others i) loaded in
      let later = areas_right f F (map return_area i.returns.items) (others i) behind in
      let last = areas_right f F (map size_area i.sizes.items) (map reset_area i.resets.items ++ map blocks_area (runs i)) later in
      record {
        sizes = both size_area (HoldsSize T) (SizeIsReady i.inodes.items F T f) F f size_ready i.sizes.items put.kept.sizes (areas_left f F (map size_area i.sizes.items) (map reset_area i.resets.items ++ map blocks_area (runs i)) later);
        resets = both reset_area (HoldsReset T) (ResetIsReady F T f) F f (λ r held has. record { held = held; known = area_known F f h (reset_area r) has }) i.resets.items put.kept.resets
            (areas_left f F (map reset_area i.resets.items) (map blocks_area (runs i)) last);
        blocks = both blocks_area (HoldsBlocks T) (BlocksAreReady F T f) F f
            (λ k held has. record { held = held; known = area_known F f h (blocks_area k) has; blocks = inr (run_known F f h k.place k.run has) })
            (runs i) put.kept.blocks (areas_right f F (map reset_area i.resets.items) (map blocks_area (runs i)) last);
      }
