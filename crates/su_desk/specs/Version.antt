-- Version numbers: how often each user and group was concerned by an entry. They only rise, also
-- with an undo.
use Rattle.std.specs.Prelude.{ℕ, ◌+◌, Bool, false, cond, List, [], ◌∷◌, ◌++◌, map, nat_eq}
use Rattle.std.specs.List.{list_any, filter}
use Rattle.su_bytes.specs.Membership.{Membership}
use Rattle.su_bytes.specs.Principal.{principals}
use Rattle.su_bytes.specs.declared.principals.Principal.{Principal}
use Rattle.su_bytes.specs.declared.principals.Principal.TheVariants.{User, Group}
use Rattle.su_op.specs.declared.areas.Area.{Area}
use Rattle.su_op.specs.declared.areas.Area.TheVariants.{Inode as InodeArea, Pointer as PointerArea}
use Rattle.su_op.specs.declared.operations.Change.{Change}
use Rattle.su_op.specs.declared.operations.Change.TheVariants.{Do, Undo, Rekey}
use Rattle.su_op.specs.Batch.{writes}
use Rattle.su_desk.specs.declared.entries.Entry.{Entry}
use Rattle.su_desk.specs.History.{action_of}
use Rattle.su_desk.specs.Applied.{tree_after, written_by}

-- the area is a pointer of group g
abbrev pub is_pointer_of : ℕ → Area → Bool
is_pointer_of g (InodeArea p a) = false
is_pointer_of g (PointerArea k) = nat_eq k.0 g

-- what is written has a pointer of group g
abbrev pub carries : ℕ → List Area → Bool
carries g w = list_any (is_pointer_of g) w

-- the groups of the roster of which a pointer is in what is written, in the order of the roster
abbrev pub carried_groups : Membership → List Area → List ℕ
carried_groups ro w = filter (λ g. carries g w) (map (λ g. g.0) ro.groups)

-- what the cells are of an entry after a history, whose change is given: those that the operation
-- writes, or those that the operation wrote that it undoes; a rekey has none
abbrev pub cells_by_change : Membership → List Entry → Entry → Change → List Area
cells_by_change ro h e (Do op) = writes ro (tree_after ro h) (action_of e op)
cells_by_change ro h e (Undo n) = written_by ro h n
cells_by_change ro h e (Rekey k) = []

-- what the cells are of an entry after a history
abbrev pub cells_of : Membership → List Entry → Entry → List Area
cells_of ro h e = cells_by_change ro h e e.change

-- an entry by user a that writes these areas raises the number of a, and of the groups that it
-- carries
abbrev pub raises : ℕ → List Area → Principal → Bool
raises a w (User u) = nat_eq u a
raises a w (Group g) = carries g w

-- a principal with its number, after such an entry
abbrev pub raised : ℕ → List Area → Principal × ℕ → Principal × ℕ
raised a w v = (v.0, v.1 + cond (raises a w v.0) 1 0)

-- how many of the further entries, after those of h, raise the number of a principal
abbrev pub version_after : Membership → List Entry → List Entry → Principal → ℕ
version_after ro h [] p = 0
version_after ro h (e ∷ es) p =
    cond (raises e.author (cells_of ro h e) p) 1 0 + version_after ro (h ++ e ∷ []) es p

-- the version number of a principal: of a user how many entries are his, of a group how many carry
-- it
abbrev pub version : Membership → List Entry → Principal → ℕ
version ro h p = version_after ro [] h p

-- a principal with its version number
abbrev pub numbered : Membership → List Entry → Principal → Principal × ℕ
numbered ro h p = (p, version ro h p)

-- those of all users and groups of the roster
abbrev pub versions : Membership → List Entry → List (Principal × ℕ)
versions ro h = map (numbered ro h) (principals ro)
