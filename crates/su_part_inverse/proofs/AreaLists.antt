-- The areas that an inverse keeps.
use Rattle.std.proofs.Common.{◌≡◌, ◌||◌, List, [], ◌∷◌, ◌++◌, map}
use Rattle.su_table.specs.Cell.{Cell}
use Rattle.su_op.specs.declared.areas.Area.{Area}
use Rattle.su_op.specs.Area.{in_area, has}
use Rattle.su_inverse.specs.Kept.{size_area, reset_area, blocks_area}
use Rattle.su_inverse.specs.declared.contents.KeptBlocks.{KeptBlocks}
use Rattle.su_inverse.specs.declared.contents.KeptSize.{KeptSize}
use Rattle.su_inverse.specs.declared.resets.Reset.{Reset}
use Rattle.su_inverse.proofs.AreaListLemmas.{push_behind, push_here, push_last}
use Rattle.su_part_inverse.specs.Kept.{inode_area, return_area}
use Rattle.su_part_inverse.specs.declared.returns.KeptInode.{KeptInode}
use Rattle.su_part_inverse.specs.declared.returns.Return.{Return}

abbrev pub all_areas : List KeptInode → List Return → List KeptSize → List Reset → List KeptBlocks → List Area
all_areas ns rs zs ss bs = map inode_area ns ++ (map return_area rs ++ (map size_area zs ++ (map reset_area ss ++ map blocks_area bs)))

-- one area more
module _ (ns : List KeptInode) (rs : List Return) (zs : List KeptSize) (ss : List Reset) (bs : List KeptBlocks) (c : Cell) where
  pub push_inode : (k : KeptInode) → has (all_areas (ns ++ k ∷ []) rs zs ss bs) c ≡ (has (all_areas ns rs zs ss bs) c || in_area (inode_area k) c)
  push_inode k = push_here inode_area ns k (map return_area rs ++ (map size_area zs ++ (map reset_area ss ++ map blocks_area bs))) c

  pub push_return : (r : Return) → has (all_areas ns (rs ++ r ∷ []) zs ss bs) c ≡ (has (all_areas ns rs zs ss bs) c || in_area (return_area r) c)
  push_return r = push_behind (map inode_area ns) _ _ (return_area r) c (push_here return_area rs r (map size_area zs ++ (map reset_area ss ++ map blocks_area bs)) c)

  pub push_size : (k : KeptSize) → has (all_areas ns rs (zs ++ k ∷ []) ss bs) c ≡ (has (all_areas ns rs zs ss bs) c || in_area (size_area k) c)
  push_size k = push_behind (map inode_area ns) _ _ (size_area k) c (push_behind (map return_area rs) _ _ (size_area k) c (push_here size_area zs k (map reset_area ss ++ map blocks_area bs) c))

  pub push_reset : (r : Reset) → has (all_areas ns rs zs (ss ++ r ∷ []) bs) c ≡ (has (all_areas ns rs zs ss bs) c || in_area (reset_area r) c)
  push_reset r =
      push_behind (map inode_area ns) _ _ (reset_area r) c (push_behind (map return_area rs) _ _ (reset_area r) c
      (push_behind (map size_area zs) _ _ (reset_area r) c (push_here reset_area ss r (map blocks_area bs) c)))

  pub push_blocks : (k : KeptBlocks) → has (all_areas ns rs zs ss (bs ++ k ∷ [])) c ≡ (has (all_areas ns rs zs ss bs) c || in_area (blocks_area k) c)
  push_blocks k =
      push_behind (map inode_area ns) _ _ (blocks_area k) c (push_behind (map return_area rs) _ _ (blocks_area k) c
      (push_behind (map size_area zs) _ _ (blocks_area k) c (push_behind (map reset_area ss) _ _ (blocks_area k) c (push_last blocks_area bs k c))))
