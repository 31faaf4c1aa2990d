-- The parts of formats. Numbers have their highest byte first.
use Rattle.std.specs.Prelude.{◌≡◌, ℕ, ◌<◌, ◌^◌, true, List, [], ◌∷◌, length}
use Rattle.std.specs.Int.{w16, w32, w64, to_be_bytes}
use Rattle.su_bytes.specs.Principal.{is_user, is_group, is_principal}
use Rattle.su_bytes.specs.FileId.{is_inum, is_file_id, file_id_bytes}
use Rattle.su_bytes.specs.Name.{is_name}
use Rattle.su_bytes.specs.declared.principals.Principal.{Principal}
use Rattle.su_bytes.specs.declared.principals.Principal.TheVariants as principal
use Rattle.su_bytes.specs.declared.file_ids.FileId.{FileId}
use Rattle.su_bytes.specs.declared.file_ids.Kind.{Kind}
use Rattle.su_bytes.specs.declared.file_ids.Kind.TheVariants.{File, Dir}
use Rattle.su_format.specs.Format.{Format, part}

-- a number in one byte, two, four, eight
abbrev pub u8_bytes : ℕ → List ℕ
u8_bytes n = n ∷ []

abbrev pub u16_bytes : ℕ → List ℕ
u16_bytes n = to_be_bytes w16 n

abbrev pub u32_bytes : ℕ → List ℕ
u32_bytes n = to_be_bytes w32 n

abbrev pub u64_bytes : ℕ → List ℕ
u64_bytes n = to_be_bytes w64 n

unfoldable pub u8_part : Format ℕ
u8_part = part (λ n. n < 256) u8_bytes

unfoldable pub u16_part : Format ℕ
u16_part = part (λ n. n < 2 ^ 16) u16_bytes

unfoldable pub u32_part : Format ℕ
u32_part = part (λ n. n < 2 ^ 32) u32_bytes

unfoldable pub u64_part : Format ℕ
u64_part = part (λ n. n < 2 ^ 64) u64_bytes

-- bytes, so many of them
unfoldable pub bytes_part : ℕ → Format (List ℕ)
bytes_part n = part (λ bytes. length bytes ≡ n) (λ bytes. bytes)

-- all bytes that are left
unfoldable pub rest_part : Format (List ℕ)
rest_part = record {
  Begins = λ bytes a rest. (a ≡ bytes) × (rest ≡ []);
  Fails = λ bytes rest. ⊥;
}

-- a digest: 32 bytes
unfoldable pub digest_part : Format (List ℕ)
digest_part = bytes_part 32

-- these very bytes, as a format's first
unfoldable pub mark_part : List ℕ → Format (List ℕ)
mark_part mark = part (λ bytes. bytes ≡ mark) (λ bytes. bytes)

-- a user, a group: the number
unfoldable pub user_part : Format ℕ
user_part = part (λ u. is_user u ≡ true) u8_bytes

unfoldable pub group_part : Format ℕ
group_part = part (λ g. is_group g ≡ true) u8_bytes

-- a number of an i-table
unfoldable pub inum_part : Format ℕ
inum_part = part (λ i. is_inum i ≡ true) u32_bytes

-- 0 for a user and 1 for a group, and its number
abbrev pub principal_bytes : Principal → List ℕ
principal_bytes (principal.User u) = 0 ∷ u ∷ []
principal_bytes (principal.Group g) = 1 ∷ g ∷ []

unfoldable pub principal_part : Format Principal
principal_part = part (λ p. is_principal p ≡ true) principal_bytes

-- a file id: six bytes
unfoldable pub file_id_part : Format FileId
file_id_part = part (λ f. is_file_id f ≡ true) file_id_bytes

-- a name: how many bytes it has, and these
abbrev pub name_bytes : List ℕ → List ℕ
name_bytes name = length name ∷ name

unfoldable pub name_part : Format (List ℕ)
name_part = part (λ name. is_name name ≡ true) name_bytes

-- 0 for a file and 1 for a directory
abbrev pub kind_bytes : Kind → List ℕ
kind_bytes File = 0 ∷ []
kind_bytes Dir = 1 ∷ []

abbrev pub AnyKind : Kind → Type 0
AnyKind _ = Unit {0}

unfoldable pub kind_part : Format Kind
kind_part = part AnyKind kind_bytes
