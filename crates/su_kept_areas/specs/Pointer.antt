-- Which groups a list of areas carries: those of whose files it has a pointer.
use Rattle.std.specs.Prelude.{ℕ, Bool, false, List, nat_eq}
use Rattle.std.specs.List.{list_any}
use Rattle.su_op.specs.declared.areas.Area.{Area}
use Rattle.su_op.specs.declared.areas.Area.TheVariants.{Inode as InodeArea, Pointer as PointerArea}

-- the area is a pointer of group g
abbrev pub is_pointer_of : ℕ → Area → Bool
is_pointer_of g (InodeArea p a) = false
is_pointer_of g (PointerArea k) = nat_eq k.0 g

-- the areas have a pointer of group g
abbrev pub carries : ℕ → List Area → Bool
carries g w = list_any (is_pointer_of g) w
