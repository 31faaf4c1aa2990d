-- The cells that edits write.
use Rattle.std.specs.Prelude.{ℕ, ◌+◌, List, [], ◌∷◌, ◌++◌, map, length, min, max, nat_eq, nat_le, if◌then◌else◌}
use Rattle.su_node.specs.InodeChange.{InodeChange, InodeChange.Made, InodeChange.Named, InodeChange.Linked, InodeChange.Written, InodeChange.Resized, InodeChange.Copied, InodeChange.Gone}
use Rattle.su_table.specs.Edit.{Edit, Edit.Inodes, Edit.Pointers}
use Rattle.su_op.specs.declared.areas.Part.{Part}
use Rattle.su_op.specs.declared.areas.Part.TheVariants.{Kind as KindPart, Links as LinksPart, Size as SizePart, Name as NamePart, Blocks as BlocksPart, Whole as WholePart}
use Rattle.su_op.specs.declared.areas.Area.{Area}
use Rattle.su_op.specs.declared.areas.Area.TheVariants.{Inode as InodeArea, Pointer as PointerArea}
use Rattle.su_op.specs.Area.{blocks_between}

-- a write within the size: the blocks that it touches
abbrev pub overwritten_parts : ℕ → ℕ → List Part
overwritten_parts off end = BlocksPart (blocks_between off end) ∷ []

-- a write by which the file grows: the size, and the blocks from the old end or the offset,
-- whichever is less
abbrev pub grown_parts : ℕ → ℕ → ℕ → List Part
grown_parts size off end = SizePart ∷ BlocksPart (blocks_between (min off size) end) ∷ []

-- a write from `off` up to `end` into a file of that size
abbrev pub written_parts : ℕ → ℕ → ℕ → List Part
written_parts size off end =
    if nat_le end size then overwritten_parts off end else grown_parts size off end

-- another size: the size, and the blocks between the old end and the new one
abbrev pub other_size_parts : ℕ → ℕ → List Part
other_size_parts size new_size =
    SizePart ∷ BlocksPart (blocks_between (min size new_size) (max size new_size)) ∷ []

-- a change of size; to the same size nothing is written
abbrev pub resized_parts : ℕ → ℕ → List Part
resized_parts size new_size = if nat_eq size new_size then [] else other_size_parts size new_size

-- a new inode has no block and no name, so none of these is written
abbrev pub parts : InodeChange → List Part
parts (Made home kind) = KindPart ∷ LinksPart ∷ SizePart ∷ []
parts (Named x v) = NamePart x ∷ []
parts (Linked n) = LinksPart ∷ []
parts (Written size off xs) = written_parts size off (off + length xs)
parts (Resized size new_size) = resized_parts size new_size
parts (Copied i) = WholePart ∷ []
parts Gone = WholePart ∷ []

-- the cells that one edit writes
abbrev pub edit_areas : Edit → List Area
edit_areas (Inodes p ch) = map (InodeArea p) (parts ch)
edit_areas (Pointers g v) = PointerArea g ∷ []

-- the cells that some edits write, in their order
abbrev pub edits_areas : List Edit → List Area
edits_areas [] = []
edits_areas (e ∷ es) = edit_areas e ++ edits_areas es
