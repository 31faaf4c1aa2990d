-- What is asked of a tree: bodies, kinds, links, sizes, names; the names of a directory in order; the
-- bytes of a file.
use Rattle.std.specs.Prelude.{ℕ, Bool, true, false, List, Option, Some, None, Result, Ok, Err, cond}
use Rattle.std.specs.FinMap.{get}
use Rattle.std.specs.Option.{ok_or, option_map}
use Rattle.su_bytes.specs.declared.file_ids.FileId.{FileId}
use Rattle.su_bytes.specs.declared.file_ids.FileId.TheVariants.{User, Group}
use Rattle.su_bytes.specs.declared.file_ids.Kind.TheVariants.{File, Dir}
use Rattle.su_bytes.specs.declared.refusals.Refusal.{Refusal}
use Rattle.su_bytes.specs.declared.refusals.Refusal.TheVariants.{NoFile, WrongKind}
use Rattle.su_node.specs.Name.{Name}
use Rattle.su_bytes.specs.Place.{Place, file_eq}
use Rattle.su_node.specs.Inode.{Inode, has_no_names, names_of, bytes_of, within}
use Rattle.su_table.specs.Tree.{Tree}
use Rattle.su_node.specs.Field.{Field.KindOf, Field.LinksOf, Field.SizeOf, Field.NameOf, Value, Value.Nothing, Value.AKind, Value.ANumber, Value.AFile, Value.APlace}
use Rattle.su_table.specs.Cell.{Cell.At, Cell.Pointer, val}

abbrev pub is_nothing : Value → Bool
is_nothing Nothing = true
is_nothing _ = false

abbrev pub is_dir_kind : Value → Bool
is_dir_kind (AKind Dir home) = true
is_dir_kind _ = false

abbrev pub is_file_kind : Value → Bool
is_file_kind (AKind File home) = true
is_file_kind _ = false

abbrev pub value_number : Value → ℕ
value_number (ANumber n) = n
value_number _ = 0

abbrev pub is_link_to : Value → FileId → Bool
is_link_to (AFile g) f = file_eq g f
is_link_to _ f = false

-- no inode stands at p
abbrev pub is_free_at : Tree → Place → Bool
is_free_at T p = is_nothing (val T (At p KindOf))

-- a directory stands there; a file stands there
abbrev pub is_dir_at : Tree → Place → Bool
is_dir_at T p = is_dir_kind (val T (At p KindOf))

abbrev pub is_file_at : Tree → Place → Bool
is_file_at T p = is_file_kind (val T (At p KindOf))

-- how many names lead to it
abbrev pub links_at : Tree → Place → ℕ
links_at T p = value_number (val T (At p LinksOf))

-- how many bytes the file there has; 0 where no file stands
abbrev pub size_at : Tree → Place → ℕ
size_at T p = value_number (val T (At p SizeOf))

-- the directory there doesn't have the name
abbrev pub is_name_free_at : Tree → Place → Name → Bool
is_name_free_at T p x = is_nothing (val T (At p (NameOf x)))

-- in the directory there the name leads to the file
abbrev pub leads_to_at : Tree → Place → Name → FileId → Bool
leads_to_at T p x f = is_link_to (val T (At p (NameOf x))) f

-- a user's file has no pointer; a group file's pointer is free
abbrev pub is_pointer_free : Tree → FileId → Bool
is_pointer_free T (User u i) = true
is_pointer_free T (Group g k) = is_nothing (val T (Pointer (g, k)))

-- ---- bodies

abbrev pub home_body : Value → FileId → Place → Option Place
home_body (AKind kind home) f p = cond (file_eq home f) (Some p) None
home_body _ f p = None

abbrev pub pointer_body : Value → Option Place
pointer_body (APlace p) = Some p
pointer_body _ = None

-- Where a file's inode stands: of a user's file at its own place, if an inode with that home stands there; of a group file
-- where its pointer points.
unfoldable pub body : Tree → FileId → Option Place
body T (User u i) = home_body (val T (At (u, i) KindOf)) (User u i) (u, i)
body T (Group g k) = pointer_body (val T (Pointer (g, k)))

-- ---- names

-- what stands there has no names
unfoldable pub is_bare_at : Tree → Place → Bool
is_bare_at T p = has_no_names (get T.inodes p)

-- ---- names and bytes

abbrev pub standing_at : Tree → FileId → Option Place → Result Inode Refusal
standing_at T f None = Err (NoFile f)
standing_at T f (Some p) = ok_or (get T.inodes p) (WrongKind f)

-- The inode that stands for a file: `NoFile` where the file has no body, and `WrongKind` where a group's pointer points at nothing.
unfoldable pub standing : Tree → FileId → Result Inode Refusal
standing T f = standing_at T f (body T f)

-- a part that an inode of the right kind has
abbrev pub part : {X : Type 0} → (Inode → Option X) → FileId → Result Inode Refusal → Result X Refusal
part of f (Ok i) = ok_or (of i) (WrongKind f)
part of f (Err e) = Err e

-- The names of a directory by their bytes, and where they lead: `NoFile` where the file has no body, `WrongKind` where its
-- body is no directory.
abbrev pub listing : Tree → FileId → Result (List (Name × FileId)) Refusal
listing T f = part (λ i. names_of (Some i)) f (standing T f)

-- The bytes of a file: `NoFile` where the file has no body, `WrongKind` where its body is no file.
abbrev pub contents : Tree → FileId → Result (List ℕ) Refusal
contents T f = part (λ i. bytes_of (Some i)) f (standing T f)

-- those of its bytes that lie within a range
abbrev pub contents_within : Tree → FileId → ℕ → ℕ → Result (List ℕ) Refusal
contents_within T f off len = part (λ i. option_map (within off len) (bytes_of (Some i))) f (standing T f)
