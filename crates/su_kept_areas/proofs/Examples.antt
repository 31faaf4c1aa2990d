-- Worked examples of spellings.
use Rattle.std.proofs.Common.{◌≡◌, [], ◌∷◌, refl}
use Rattle.su_op.specs.declared.areas.Part.TheVariants.{Kind, Links, Name, Blocks}
use Rattle.su_op.specs.declared.areas.Area.TheVariants.{Inode, Pointer}
use Rattle.su_kept_areas.specs.Spelling.{area_bytes, areas_bytes}
use Rattle.su_kept_areas.specs.Sided.{all_sided_bytes}
use Rattle.su_kept_areas.specs.declared.sided.Sides.TheVariants as sides

-- the pointer of number 1 of group 0
a_pointer : area_bytes (Pointer (0, 1)) ≡ 0 ∷ 0 ∷ 0 ∷ 0 ∷ 0 ∷ 1 ∷ []
a_pointer = refl

-- the blocks 2 to 5 of what stands at number 258 of user 3
a_run : area_bytes (Inode (3, 258) (Blocks (record { first = 2; more = 3 }))) ≡ 5 ∷ 3 ∷ 0 ∷ 0 ∷ 1 ∷ 2 ∷ 0 ∷ 0 ∷ 0 ∷ 2 ∷ 0 ∷ 0 ∷ 0 ∷ 3 ∷ []
a_run = refl

-- where the name `f` leads, and the number of links, at number 2 of user 0
two : areas_bytes (Inode (0, 2) (Name (102 ∷ [])) ∷ Inode (0, 2) Links ∷ [])
    ≡ 6 ∷ 0 ∷ 0 ∷ 0 ∷ 0 ∷ 2 ∷ 1 ∷ 102 ∷ 2 ∷ 0 ∷ 0 ∷ 0 ∷ 0 ∷ 2 ∷ []
two = refl

-- a name that is made where it is known that none was: the kind of the directory is read, and the name
-- is both read and written; so it is spelled once, and its first byte is 6 and 8 times 1
made : all_sided_bytes ((sides.Read, Inode (0, 2) Kind) ∷ (sides.Both, Inode (0, 2) (Name (102 ∷ []))) ∷ [])
    ≡ 1 ∷ 0 ∷ 0 ∷ 0 ∷ 0 ∷ 2 ∷ 14 ∷ 0 ∷ 0 ∷ 0 ∷ 0 ∷ 2 ∷ 1 ∷ 102 ∷ []
made = refl
