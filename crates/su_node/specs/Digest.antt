-- The digest of an inode. (SUNDR, section 3: the digest of an i-table covers its inodes, and that of an inode its blocks or
-- names. The bytes that are hashed are this project's own format.)
use Rattle.std.specs.Prelude.{ℕ, ◌+◌, ◌-◌, ◌/◌, List, ◌∷◌, ◌++◌, length, map}
use Rattle.std.specs.Int.{w32, to_be_bytes}
use Rattle.std.specs.List.{range_with_len}
use Rattle.std.specs.FinMap.{entries}
use Rattle.sha2.specs.Sha256.{sha256}
use Rattle.su_bytes.specs.FileId.{file_id_bytes}
use Rattle.su_bytes.specs.declared.file_ids.Kind.{Kind}
use Rattle.su_bytes.specs.declared.file_ids.Kind.TheVariants.{File, Dir}
use Rattle.su_tree.specs.Digest.{digest}
use Rattle.su_tree.specs.Number.{numbers}
use Rattle.su_tree.specs.Name.{names}
use Rattle.su_node.specs.Inode.{Inode, Content, Content.Bytes, Content.Names, kind_of, size_of}
use Rattle.su_node.specs.declared.blocks.TheConstants.{BLOCK_SIZE}
use Rattle.su_node.specs.Field.{block}

-- what is hashed of a block of a file
abbrev pub block_item : List ℕ → List ℕ
block_item bytes = 4 ∷ bytes

-- how many blocks, of which the last may be shorter, a file of that size has
abbrev pub block_count : ℕ → ℕ
block_count size = (size + (BLOCK_SIZE - 1)) / BLOCK_SIZE

-- the blocks of a file by their numbers from 0 on, each as its SHA-256
unfoldable pub block_digests : List ℕ → List (ℕ × List ℕ)
block_digests bs = map (λ n. (n, sha256 (block_item (block n bs)))) (range_with_len 0 (block_count (length bs)))

-- of a file the digest of its blocks, of a directory that of its names
abbrev pub content_digest : Content → List ℕ
content_digest (Bytes bs) = digest (numbers (λ d. d)) (block_digests bs)
content_digest (Names m) = digest (names file_id_bytes) (entries m)

abbrev pub kind_byte : Kind → ℕ
kind_byte File = 0
kind_byte Dir = 1

-- what is hashed of an inode: the file id that it was made for, its kind, its links, its size as four bytes, and the
-- digest of its content
abbrev pub inode_item : Inode → List ℕ
inode_item i =
    3 ∷ file_id_bytes i.home ++ kind_byte (kind_of i.content) ∷ i.links ∷ to_be_bytes w32 (size_of i.content) ++ content_digest i.content

unfoldable pub inode_digest : Inode → List ℕ
inode_digest i = sha256 (inode_item i)
