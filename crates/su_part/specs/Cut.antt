-- What a cut of a file needs of an inode, and what it makes of it.
use Rattle.std.specs.Prelude.{ℕ, ⊤}
use Rattle.su_node.specs.Inode.{Inode}
use Rattle.su_node.specs.InodeChange.{map_bytes, with_size}
use Rattle.su_part.specs.Bytes.{HasCut}
use Rattle.su_part.specs.declared.inodes.PartInode.{PartInode}
use Rattle.su_part.specs.declared.inodes.PartContent.{PartContent}
use Rattle.su_part.specs.declared.inodes.PartContent.TheVariants.{Bytes as PartBytes, Names as PartNames}

-- what a cut of a file to that size needs is loaded; a directory has none
abbrev pub HasCutIn : ℕ → PartContent → Type 0
HasCutIn size (PartNames t) = ⊤
HasCutIn size (PartBytes b) = HasCut size b

abbrev pub HasCutOf : ℕ → PartInode → Type 0
HasCutOf size p = HasCutIn size p.content

-- the inode with its bytes cut to that size, or padded with zeros up to it
abbrev pub with_resized : ℕ → Inode → Inode
with_resized size i = record i { content = map_bytes (with_size size) i.content }
