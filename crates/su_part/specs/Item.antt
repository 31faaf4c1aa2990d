-- The item of an inode, as it is read again.
use Rattle.std.specs.Prelude.{◌≡◌, ◌<◌, ◌^◌, ◌&&◌, ℕ, true, IsTrue, List, [], ◌∷◌, ◌++◌, ⊤}
use Rattle.std.specs.List.{AllByRecursion as Each}
use Rattle.std.specs.FinMap.{entries}
use Rattle.su_bytes.specs.FileId.{is_file_id}
use Rattle.su_bytes.specs.Name.{is_name}
use Rattle.su_format.specs.Format.{Format, making, ◌>>=◌}
use Rattle.su_format.specs.Part.{mark_part, file_id_part, kind_part, u8_part, u32_part, digest_part}
use Rattle.su_node.specs.Inode.{Inode, Content, Content.Bytes, Content.Names, kind_of, size_of}
use Rattle.std.specs.Int.{w32, to_be_bytes}
use Rattle.su_node.specs.Digest.{content_digest, kind_byte}
use Rattle.su_part.specs.declared.items.InodeItem.{InodeItem}

-- its parts in order
unfoldable pub inode_format : Format InodeItem
inode_format = do
  mark ← mark_part (3 ∷ [])
  home ← file_id_part
  kind ← kind_part
  links ← u8_part
  size ← u32_part
  content ← digest_part
  making (record { home = home; kind = kind; links = links; size = size; content = content })

-- the bytes are those of an item that says this
abbrev pub SpellsInode : InodeItem → List ℕ → Type 0
SpellsInode item s = inode_format.Begins s item []

-- what the item of an inode says
abbrev pub item_of : Inode → InodeItem
item_of i = record {
  home = i.home;
  kind = kind_of i.content;
  links = i.links;
  size = size_of i.content;
  content = content_digest i.content;
}

-- names are names, and lead to file ids
abbrev pub MeantContent : Content → Type 0
MeantContent (Bytes bs) = ⊤
MeantContent (Names m) = Each (λ e. IsTrue (is_name e.0 && is_file_id e.1)) (entries m)

-- its values are in their ranges
pub record MeantInode (i : Inode) : Type 0 where
  pub home : is_file_id i.home ≡ true
  pub links : i.links < 256
  pub size : size_of i.content < 2 ^ 32
  pub content : MeantContent i.content

-- what stands in an inode's item behind its home, its kind, its links
abbrev pub behind_home : Inode → List ℕ
behind_home i = kind_byte (kind_of i.content) ∷ i.links ∷ to_be_bytes w32 (size_of i.content) ++ content_digest i.content

abbrev pub behind_kind : Inode → List ℕ
behind_kind i = i.links ∷ to_be_bytes w32 (size_of i.content) ++ content_digest i.content

abbrev pub behind_links : Inode → List ℕ
behind_links i = to_be_bytes w32 (size_of i.content) ++ content_digest i.content
