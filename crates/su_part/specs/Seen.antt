-- What is seen of an inode of which parts may be left on a store: what is loaded of it, as a plain inode.
use Rattle.std.specs.Prelude.{ℕ, List, replicate}
use Rattle.std.specs.FinMap.{from_entries}
use Rattle.su_part_tree.specs.Part.{loaded}
use Rattle.su_node.specs.Inode.{Inode, Content, Content.Bytes, Content.Names}
use Rattle.su_part.specs.declared.inodes.PartInode.{PartInode}
use Rattle.su_part.specs.declared.inodes.PartContent.{PartContent}
use Rattle.su_part.specs.declared.inodes.PartContent.TheVariants.{Bytes as PartBytes, Names as PartNames}
use Rattle.su_part.specs.declared.users.UserPart.{UserPart}

-- The names of a directory that are loaded; of a file as many zeros as it has bytes, since no check of an operation looks at
-- bytes.
abbrev pub seen_content : PartContent → Content
seen_content (PartNames t) = Names (from_entries (loaded t))
seen_content (PartBytes b) = Bytes (replicate b.size 0)

-- the inode that is seen: its home, its links, and what is seen of its content
abbrev pub seen_inode : PartInode → Inode
seen_inode p = record { home = p.home; links = p.links; content = seen_content p.content }

-- the inodes of a user that are loaded, at their numbers
abbrev pub loaded_inodes : UserPart → List (ℕ × PartInode)
loaded_inodes p = p.inodes.entries
