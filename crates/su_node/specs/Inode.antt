-- Inodes: a file has bytes, a directory has names. (SUNDR, section 3: file system structures.)
use Rattle.std.specs.Prelude.{ℕ, Bool, true, List, [], Option, None, Some, length, take, drop, nat_eq}
use Rattle.std.specs.FinMap.{FinMap, empty, len, entries}
use Rattle.su_bytes.specs.declared.file_ids.FileId.{FileId}
use Rattle.su_bytes.specs.declared.file_ids.Kind.{Kind}
use Rattle.su_bytes.specs.declared.file_ids.Kind.TheVariants.{File, Dir}
use Rattle.su_node.specs.Name.{Name, name_cmp}

-- the bytes of a file, or the file ids that a directory's names lead to
pub data Content : Type 0 where
  Bytes : List ℕ → Content
  Names : FinMap name_cmp FileId → Content

-- what stands at a place: the file id that it was made for, how many names lead to it, and its content
pub record Inode : Type 0 where
  pub home : FileId
  pub links : ℕ
  pub content : Content

abbrev pub kind_of : Content → Kind
kind_of (Bytes bs) = File
kind_of (Names m) = Dir

-- the size of a file in bytes; of a directory 0
abbrev pub size_of : Content → ℕ
size_of (Bytes bs) = length bs
size_of (Names m) = 0

abbrev pub empty_content : Kind → Content
empty_content File = Bytes []
empty_content Dir = Names empty

-- a new inode: empty, with one link
abbrev pub new_inode : FileId → Kind → Inode
new_inode home kind = record { home = home; links = 1; content = empty_content kind }

-- no names stand in it
abbrev pub has_no_names : Option Inode → Bool
has_no_names None = true
has_no_names (Some i) = elim i.content [ Bytes bs ↦ true | Names m ↦ nat_eq (len m) 0 ]

-- the names of a directory by their bytes, and where they lead
abbrev pub names_of : Option Inode → Option (List (Name × FileId))
names_of None = None
names_of (Some i) = elim i.content [ Bytes bs ↦ None | Names m ↦ Some (entries m) ]

-- those bytes of a range that are there
abbrev pub within : ℕ → ℕ → List ℕ → List ℕ
within off len bs = take len (drop off bs)

-- the bytes of a file
abbrev pub bytes_of : Option Inode → Option (List ℕ)
bytes_of None = None
bytes_of (Some i) = elim i.content [ Bytes bs ↦ Some bs | Names m ↦ None ]
