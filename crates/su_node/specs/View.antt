-- What an inode of the code stands for.
use Rattle.std.specs.FinMap.{from_entries}
use Rattle.su_node.specs.Inode.{Content, Content.Bytes, Content.Names}
use Rattle.su_node.specs.declared.inodes.Stored.{Stored}
use Rattle.su_node.specs.declared.inodes.Stored.TheVariants.{Bytes as StoredBytes, Names as StoredNames}

abbrev pub content_of : Stored → Content
content_of (StoredBytes bytes) = Bytes bytes
content_of (StoredNames names) = Names (from_entries names.entries)
