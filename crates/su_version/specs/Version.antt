-- Version structures and their bytes. (This project's own format; SUNDR's version structures, with
-- the digest of the commit before.)
use Rattle.std.specs.Prelude.{◌≡◌, ◌≤◌, ◌<◌, ◌+◌, ◌^◌, ℕ, Bool, true, false, Option, None, Some, List, [], ◌∷◌, ◌++◌, length, codes}
use Rattle.std.specs.List.{flat_map, AllByRecursion}
use Rattle.su_bytes.specs.declared.formats.Format.{Format as CommitFormat}
use Rattle.su_bytes.specs.declared.formats.Format.TheVariants.{V1, V2, V3, V4}
use Rattle.su_bytes.specs.declared.rosters.TheConstants.{KEY_LENGTH}
use Rattle.su_bytes.specs.Principal.{is_user, is_group}
use Rattle.su_format.specs.Format.{Format, part, making, ◌>>=◌, repeated, EachFrom}
use Rattle.su_format.specs.Part.{u8_bytes, u64_bytes, u8_part, u64_part, bytes_part, user_part, digest_part}

-- what a user signs: its format, whose it is, the digest of the commit before, the digest of the
-- change, the author's i-handle after it, the groups that it carries with their i-handles, the
-- vector, and the author's next key, if it names one
pub record Version : Type 0 where
  pub format : CommitFormat
  pub author : ℕ
  pub prev : List ℕ
  pub change : List ℕ
  pub handle : List ℕ
  pub groups : List (ℕ × List ℕ)
  pub vector : List ℕ
  pub next_key : Option (List ℕ)

-- a group of at least this number, with a digest
pub record IsCarried (least : ℕ) (g : ℕ × List ℕ) : Type 0 where
  pub above : least ≤ g.0
  pub group : is_group g.0 ≡ true
  pub handle : length g.1 ≡ 32

-- groups with digests, in strictly ascending order
abbrev pub AreCarried : List (ℕ × List ℕ) → Type 0
AreCarried groups = EachFrom IsCarried (λ g. g.0 + 1) 0 groups

-- the next key of a version structure in this format: in the first two there is none
abbrev pub IsNextKey : CommitFormat → Option (List ℕ) → Type 0
IsNextKey V1 key = key ≡ None
IsNextKey V2 key = key ≡ None
IsNextKey V3 None = Unit {0}
IsNextKey V3 (Some key) = length key ≡ KEY_LENGTH
IsNextKey V4 None = Unit {0}
IsNextKey V4 (Some key) = length key ≡ KEY_LENGTH

-- a version structure that can be spelled
pub record IsVersion (v : Version) : Type 0 where
  pub author : is_user v.author ≡ true
  pub prev : length v.prev ≡ 32
  pub change : length v.change ≡ 32
  pub handle : length v.handle ≡ 32
  pub group_count : length v.groups < 256
  pub groups : AreCarried v.groups
  pub some_numbers : 2 ≤ length v.vector
  pub few_numbers : length v.vector ≤ 80
  pub numbers : AllByRecursion (λ n. n < 2 ^ 64) v.vector
  pub next_key : IsNextKey v.format v.next_key

-- ---- its bytes

abbrev pub group_bytes : ℕ × List ℕ → List ℕ
group_bytes g = g.0 ∷ g.1

-- the first bytes, which say what format the rest has
abbrev pub first_bytes : CommitFormat → List ℕ
first_bytes V1 = codes "SV01"
first_bytes V2 = codes "SV02"
first_bytes V3 = codes "SV03"
first_bytes V4 = codes "SV04"

-- whether something comes: 0 or 1
abbrev pub flag_bytes : Bool → List ℕ
flag_bytes false = 0 ∷ []
flag_bytes true = 1 ∷ []

-- the next key: nothing in the first two formats; in the others whether there is one, and this
abbrev pub key_bytes : CommitFormat → Option (List ℕ) → List ℕ
key_bytes V1 key = []
key_bytes V2 key = []
key_bytes V3 None = flag_bytes false
key_bytes V3 (Some key) = flag_bytes true ++ key
key_bytes V4 None = flag_bytes false
key_bytes V4 (Some key) = flag_bytes true ++ key

-- the rest: author, prev, change, i-handle; how many groups, and each with its i-handle; how many
-- numbers, and these; the next key
unfoldable pub body_bytes : Version → List ℕ
body_bytes v =
    v.author ∷ (v.prev ++ (v.change ++ (v.handle
    ++ (length v.groups ∷ (flat_map group_bytes v.groups
    ++ (length v.vector ∷ (flat_map u64_bytes v.vector ++ key_bytes v.format v.next_key)))))))

-- the bytes that are signed
unfoldable pub version_bytes : Version → List ℕ
version_bytes v = first_bytes v.format ++ body_bytes v

-- ---- its parts

abbrev pub AnyFormat : CommitFormat → Type 0
AnyFormat _ = Unit {0}

-- the format that the first bytes name
unfoldable pub format_part : Format CommitFormat
format_part = part AnyFormat first_bytes

-- a group of at least this number, and then a digest
unfoldable pub group_above : ℕ → Format ℕ
group_above least = part (λ g. (least ≤ g) × (is_group g ≡ true)) u8_bytes

unfoldable pub carried_format : ℕ → Format (ℕ × List ℕ)
carried_format least = do
  group ← group_above least
  handle ← digest_part
  making (group, handle)

unfoldable pub groups_format : Format (List (ℕ × List ℕ))
groups_format = do
  count ← u8_part
  repeated carried_format (λ g. g.0 + 1) count 0

unfoldable pub vector_size_part : Format ℕ
vector_size_part = part (λ n. (2 ≤ n) × (n ≤ 80)) u8_bytes

unfoldable pub number_format : ℕ → Format ℕ
number_format _ = u64_part

unfoldable pub vector_format : Format (List ℕ)
vector_format = do
  size ← vector_size_part
  repeated number_format (λ _. 0) size 0

abbrev pub AnyFlag : Bool → Type 0
AnyFlag _ = Unit {0}

-- whether a key comes
unfoldable pub flag_part : Format Bool
flag_part = part AnyFlag flag_bytes

-- and then the key, if one comes
unfoldable pub key_behind : Bool → Format (Option (List ℕ))
key_behind false = making None
key_behind true = do
  key ← bytes_part KEY_LENGTH
  making (Some key)

-- the next key in that format
unfoldable pub key_format : CommitFormat → Format (Option (List ℕ))
key_format V1 = making None
key_format V2 = making None
key_format V3 = do
  flag ← flag_part
  key_behind flag
key_format V4 = do
  flag ← flag_part
  key_behind flag

-- what stands behind the first bytes of a version structure in that format
unfoldable pub body_format : CommitFormat → Format Version
body_format format = do
  author ← user_part
  prev ← digest_part
  change ← digest_part
  handle ← digest_part
  groups ← groups_format
  vector ← vector_format
  next_key ← key_format format
  making (record {
    format = format;
    author = author;
    prev = prev;
    change = change;
    handle = handle;
    groups = groups;
    vector = vector;
    next_key = next_key;
  })

-- the first bytes, and the rest
unfoldable pub version_format : Format Version
version_format = do
  format ← format_part
  body_format format
