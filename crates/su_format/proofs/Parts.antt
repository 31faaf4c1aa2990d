-- What holds of the parts of formats: each spelling tells its value, and begins no other.
use Rattle.std.proofs.Common.{◌≡◌, ℕ, ◌<◌, ◌≤◌, ◌^◌, true, false, nat_le, nat_lt, nat_eq, ◌||◌, inl, inr, List, [], ◌∷◌, ◌++◌, length, take, drop, get_or, refl, sym, ◌∙◌, ap, arith}
use Rattle.std.specs.Int.{w16, w32, w64, from_be_bytes}
use Rattle.std.proofs.lemmas.Nat.{from_be_bytes-to_be_bytes_2, from_be_bytes-to_be_bytes_4, from_be_bytes-to_be_bytes_8}
use Rattle.std.proofs.lemmas.List.{take_at, drop_at}
use Rattle.std.proofs.lemmas.Bool.{and_parts, or_parts, not-true, leb-true, ltb-false}
use Rattle.std.specs.Cmp.{first_so}
use Rattle.su_bytes.specs.Principal.{is_user, is_group, is_principal}
use Rattle.su_bytes.specs.FileId.{is_inum, is_file_id, file_id_bytes}
use Rattle.su_bytes.specs.Name.{is_name}
use Rattle.su_bytes.specs.declared.principals.Principal.{Principal}
use Rattle.su_bytes.specs.declared.principals.Principal.TheVariants as principal
use Rattle.su_bytes.specs.declared.file_ids.FileId.{FileId}
use Rattle.su_bytes.specs.declared.file_ids.FileId.TheVariants as file
use Rattle.su_bytes.specs.declared.file_ids.Kind.{Kind}
use Rattle.su_bytes.specs.declared.file_ids.Kind.TheVariants.{File, Dir}
use Rattle.su_format.specs.Format.{part, IsLawful}
use Rattle.su_format.specs.Part.{u8_bytes, u16_bytes, u32_bytes, u64_bytes, principal_bytes, name_bytes, kind_bytes, AnyKind, u8_part, u16_part, u32_part, u64_part, bytes_part, rest_part, digest_part, mark_part, user_part, group_part, inum_part, principal_part, file_id_part, name_part, kind_part}
use Rattle.su_format.specs.Reading.{Reading, Took, Takes}
use Rattle.su_format.proofs.Formats.{part_lawful, another, too_short, missing}
use Rattle.su_bytes.specs.declared.refusals.Refusal.{Refusal}
use Rattle.su_bytes.specs.declared.refusals.Refusal.TheVariants.{Malformed}
use Rattle.std.specs.Prelude.{Err}

-- joined strings tell their parts, where the first parts are as long
pub same_fronts : (a b c d : List ℕ) → length a ≡ length c → a ++ b ≡ c ++ d → (a ≡ c) × (b ≡ d)
same_fronts a b c d long e = (sym (take_at a b (length c) long) ∙ ap (take (length c)) e ∙ take_at c d (length c) refl, sym (drop_at a b (length c) long) ∙ ap (drop (length c)) e ∙ drop_at c d (length c) refl)

pub u8_lawful : IsLawful u8_part
unfolding u8_part
u8_lawful = part_lawful (λ n. n < 256) u8_bytes (λ a b rest behind _ _ e. (cc, cc))

pub u16_told : (a b : ℕ) (rest behind : List ℕ) → a < 2 ^ 16 → b < 2 ^ 16 → u16_bytes a ++ rest ≡ u16_bytes b ++ behind → (a ≡ b) × (rest ≡ behind)
u16_told a b rest behind ha hb e =
    let p = same_fronts (u16_bytes a) rest (u16_bytes b) behind refl e in
    (sym (from_be_bytes-to_be_bytes_2 a ha) ∙ ap (from_be_bytes w16) p.0 ∙ from_be_bytes-to_be_bytes_2 b hb, p.1)

pub u16_lawful : IsLawful u16_part
unfolding u16_part
u16_lawful = part_lawful (λ n. n < 2 ^ 16) u16_bytes u16_told

pub u32_told : (a b : ℕ) (rest behind : List ℕ) → a < 2 ^ 32 → b < 2 ^ 32 → u32_bytes a ++ rest ≡ u32_bytes b ++ behind → (a ≡ b) × (rest ≡ behind)
u32_told a b rest behind ha hb e =
    let p = same_fronts (u32_bytes a) rest (u32_bytes b) behind refl e in
    (sym (from_be_bytes-to_be_bytes_4 a ha) ∙ ap (from_be_bytes w32) p.0 ∙ from_be_bytes-to_be_bytes_4 b hb, p.1)

pub u32_lawful : IsLawful u32_part
unfolding u32_part
u32_lawful = part_lawful (λ n. n < 2 ^ 32) u32_bytes u32_told

pub u64_told : (a b : ℕ) (rest behind : List ℕ) → a < 2 ^ 64 → b < 2 ^ 64 → u64_bytes a ++ rest ≡ u64_bytes b ++ behind → (a ≡ b) × (rest ≡ behind)
u64_told a b rest behind ha hb e =
    let p = same_fronts (u64_bytes a) rest (u64_bytes b) behind refl e in
    (sym (from_be_bytes-to_be_bytes_8 a ha) ∙ ap (from_be_bytes w64) p.0 ∙ from_be_bytes-to_be_bytes_8 b hb, p.1)

pub u64_lawful : IsLawful u64_part
unfolding u64_part
u64_lawful = part_lawful (λ n. n < 2 ^ 64) u64_bytes u64_told

pub bytes_lawful : (n : ℕ) → IsLawful (bytes_part n)
unfolding bytes_part
bytes_lawful n = part_lawful (λ bytes. length bytes ≡ n) (λ bytes. bytes) (λ a b rest behind ha hb e. same_fronts a rest b behind (ha ∙ sym hb) e)

pub rest_lawful : IsLawful rest_part
unfolding rest_part
rest_lawful = record {
  told = λ bytes a b rest behind x y. (x.0 ∙ sym y.0, x.1 ∙ sym y.1);
  apart = λ bytes a rest behind x y. y;
  one_place = λ bytes rest behind x y. absurd x;
}

pub digest_lawful : IsLawful digest_part
unfolding digest_part
digest_lawful = bytes_lawful 32

pub mark_lawful : (mark : List ℕ) → IsLawful (mark_part mark)
unfolding mark_part
mark_lawful mark = part_lawful (λ bytes. bytes ≡ mark) (λ bytes. bytes) (λ a b rest behind ha hb e. same_fronts a rest b behind (ap length (ha ∙ sym hb)) e)

pub user_lawful : IsLawful user_part
unfolding user_part
user_lawful = part_lawful (λ u. is_user u ≡ true) u8_bytes (λ a b rest behind _ _ e. (cc, cc))

pub group_lawful : IsLawful group_part
unfolding group_part
group_lawful = part_lawful (λ g. is_group g ≡ true) u8_bytes (λ a b rest behind _ _ e. (cc, cc))

-- an i-number fits four bytes
pub small_inum : (i : ℕ) → is_inum i ≡ true → i < 2 ^ 32
small_inum i is = let h = leb-true i 1000000 (and_parts (nat_le 1 i) (nat_le i 1000000) is).1 in omega arith

pub inum_lawful : IsLawful inum_part
unfolding inum_part
inum_lawful = part_lawful (λ i. is_inum i ≡ true) u32_bytes (λ a b rest behind ha hb e. u32_told a b rest behind (small_inum a ha) (small_inum b hb) e)

principal_told : (a b : Principal) (rest behind : List ℕ) → is_principal a ≡ true → is_principal b ≡ true → principal_bytes a ++ rest ≡ principal_bytes b ++ behind → (a ≡ b) × (rest ≡ behind)
principal_told (principal.User u) (principal.User v) rest behind _ _ e = let same : u ≡ v = cc in (cc, cc)
principal_told (principal.User u) (principal.Group h) rest behind _ _ e = absurd (cc)
principal_told (principal.Group g) (principal.User v) rest behind _ _ e = absurd (cc)
principal_told (principal.Group g) (principal.Group h) rest behind _ _ e = let same : g ≡ h = cc in (cc, cc)

pub principal_lawful : IsLawful principal_part
unfolding principal_part
principal_lawful = part_lawful (λ p. is_principal p ≡ true) principal_bytes principal_told

file_id_told : (a b : FileId) (rest behind : List ℕ) → is_file_id a ≡ true → is_file_id b ≡ true → file_id_bytes a ++ rest ≡ file_id_bytes b ++ behind → (a ≡ b) × (rest ≡ behind)
file_id_told (file.User u i) (file.User v j) rest behind ha hb e =
    let same : u ≡ v = cc in
    let more : u32_bytes i ++ rest ≡ u32_bytes j ++ behind = cc in
    let p = u32_told i j rest behind (small_inum i (and_parts (is_user u) (is_inum i) ha).1) (small_inum j (and_parts (is_user v) (is_inum j) hb).1) more in
    (cc (same, p.0), p.1)
file_id_told (file.User u i) (file.Group h l) rest behind _ _ e = absurd (cc)
file_id_told (file.Group g k) (file.User v j) rest behind _ _ e = absurd (cc)
file_id_told (file.Group g k) (file.Group h l) rest behind ha hb e =
    let same : g ≡ h = cc in
    let more : u32_bytes k ++ rest ≡ u32_bytes l ++ behind = cc in
    let p = u32_told k l rest behind (small_inum k (and_parts (is_group g) (is_inum k) ha).1) (small_inum l (and_parts (is_group h) (is_inum l) hb).1) more in
    (cc (same, p.0), p.1)

pub file_id_lawful : IsLawful file_id_part
unfolding file_id_part
file_id_lawful = part_lawful (λ f. is_file_id f ≡ true) file_id_bytes file_id_told

pub name_lawful : IsLawful name_part
unfolding name_part
name_lawful = part_lawful (λ n. is_name n ≡ true) name_bytes (λ a b rest behind _ _ e.
    let long : length a ≡ length b = cc in
    let more : a ++ rest ≡ b ++ behind = cc in
    same_fronts a rest b behind long more)

kind_told : (a b : Kind) (rest behind : List ℕ) → AnyKind a → AnyKind b → kind_bytes a ++ rest ≡ kind_bytes b ++ behind → (a ≡ b) × (rest ≡ behind)
kind_told File File rest behind _ _ e = (refl, cc)
kind_told File Dir rest behind _ _ e = absurd (cc)
kind_told Dir File rest behind _ _ e = absurd (cc)
kind_told Dir Dir rest behind _ _ e = (refl, cc)

pub kind_lawful : IsLawful kind_part
unfolding kind_part
kind_lawful = part_lawful AnyKind kind_bytes kind_told

-- ---- parts that are numbers of a range

pub user_is_u8 : (u : ℕ) → is_user u ≡ true → (u < 256) × (u8_bytes u ≡ u8_bytes u)
user_is_u8 u is = (let h = leb-true u 63 is in omega arith, refl)

pub group_is_u8 : (g : ℕ) → is_group g ≡ true → (g < 256) × (u8_bytes g ≡ u8_bytes g)
group_is_u8 g is = (let h = leb-true g 15 is in omega arith, refl)

pub inum_is_u32 : (i : ℕ) → is_inum i ≡ true → (i < 2 ^ 32) × (u32_bytes i ≡ u32_bytes i)
inum_is_u32 i is = (small_inum i is, refl)

-- one byte is a list of it
pub single : (bytes : List ℕ) → length bytes ≡ 1 → get_or bytes 0 0 ∷ [] ≡ bytes
single [] is = absurd (omega arith)
single (b ∷ []) is = refl
single (b ∷ c ∷ bytes) is = absurd (omega arith)

-- ---- parts that are read from a fixed number of bytes

module _ {A : Type 0} (Is : A → Type 0) (spelling : A → List ℕ) (n : ℕ) where
  -- the bytes that were taken spell no value
  pub none_of_bytes : ((a : A) → Is a → length (spelling a) ≡ n) → (old middle new : Reading) (bytes : List ℕ) (e : Refusal) → e ≡ Malformed old.place → Took (bytes_part n) old bytes middle → ((a : A) → Is a → spelling a ≡ bytes → ⊥) → Takes (part Is spelling) old (Err e) new
  unfolding bytes_part
  none_of_bytes long old middle new bytes e is took none =
      another (λ bs. length bs ≡ n) (λ bs. bs) Is spelling (bytes_lawful n) spelling (λ a is_a. (long a is_a, refl)) old middle new bytes e is took none

  -- there aren't so many bytes
  pub no_bytes : ((a : A) → Is a → length (spelling a) ≡ n) → (old new : Reading) (e : Refusal) → e ≡ Malformed old.place → length old.left < n → Takes (part Is spelling) old (Err e) new
  no_bytes long old new e is short = too_short Is spelling n old new e is (λ a is_a. omega (arith, long a is_a)) short

pub length-principal_bytes : (p : Principal) → length (principal_bytes p) ≡ 2
length-principal_bytes (principal.User u) = refl
length-principal_bytes (principal.Group g) = refl

pub length-file_id_bytes : (f : FileId) → length (file_id_bytes f) ≡ 6
length-file_id_bytes (file.User u i) = refl
length-file_id_bytes (file.Group g k) = refl

pub length-kind_bytes : (k : Kind) → length (kind_bytes k) ≡ 1
length-kind_bytes File = refl
length-kind_bytes Dir = refl

-- ---- names

pub length-name : (name : List ℕ) → is_name name ≡ true → length name ≤ 255
length-name name is =
    let sizes = not-true (nat_eq (length name) 0 || nat_lt 255 (length name)) (first_so _ _ (first_so _ _ is)) in
    ltb-false 255 (length name) (or_parts (nat_eq (length name) 0) (nat_lt 255 (length name)) sizes).1

-- no byte, no name
pub name_none : (old new : Reading) (first e : Refusal) → first ≡ Malformed old.place → e ≡ Malformed old.place → Takes u8_part old (Err first) new → Takes name_part old (Err e) old
unfolding u8_part name_part part
name_none old new first e was is (inl none) = absurd (cc)
name_none old new first e was is (inr (place, _, at)) = missing (λ name. is_name name ≡ true) name_bytes old old e is (λ name behind good s.
    at.fails.1 (length name) (name ++ behind) (omega (arith, length-name name good)) s)

-- the number of a name's bytes stands before them
pub name_shape : (old middle : Reading) (n : ℕ) (name behind : List ℕ) → Took u8_part old n middle → old.left ≡ name_bytes name ++ behind → (length name ≡ n) × (middle.left ≡ name ++ behind)
unfolding u8_part part
name_shape old middle n name behind took is =
    let both : length name ∷ (name ++ behind) ≡ n ∷ middle.left = sym is ∙ took.spelled.1 in
    (cc, cc)

pub name_taken : (old middle new : Reading) (n : ℕ) (bytes : List ℕ) → Took u8_part old n middle → Took (bytes_part n) middle bytes new → is_name bytes ≡ true → Took name_part old bytes new
unfolding u8_part bytes_part name_part part
name_taken old middle new n bytes first second is = record {
  spelled = (is, first.spelled.1 ∙ ap (λ l. n ∷ l) second.spelled.1 ∙ ap (λ k. k ∷ (bytes ++ new.left)) (sym second.spelled.0));
  place = omega (arith, first.place, second.place);
}

-- too few bytes for the number before them
pub name_cut : (old middle : Reading) (n : ℕ) (e : Refusal) → e ≡ Malformed old.place → Took u8_part old n middle → (first : Refusal) (next : Reading) → first ≡ Malformed middle.place → Takes (bytes_part n) middle (Err first) next → Takes name_part old (Err e) old
unfolding bytes_part name_part part
name_cut old middle n e is first refusal next was (inl none) = absurd (cc)
name_cut old middle n e is first refusal next was (inr (place, _, at)) = missing (λ name. is_name name ≡ true) name_bytes old old e is (λ name behind _ s.
    let shape = name_shape old middle n name behind first s in
    at.fails.1 name behind shape.0 shape.1)

-- bytes that are no name
pub name_bad : (old middle next : Reading) (n : ℕ) (bytes : List ℕ) (e : Refusal) → e ≡ Malformed old.place → Took u8_part old n middle → Took (bytes_part n) middle bytes next → is_name bytes ≡ false → Takes name_part old (Err e) old
unfolding bytes_part name_part part
name_bad old middle next n bytes e is first second bad = missing (λ name. is_name name ≡ true) name_bytes old old e is (λ name behind good s.
    let shape = name_shape old middle n name behind first s in
    let same : name ≡ bytes = (same_fronts name behind bytes next.left (shape.0 ∙ sym second.spelled.0) (sym shape.1 ∙ second.spelled.1)).0 in
    let no : true ≡ false = sym good ∙ ap is_name same ∙ bad in cc)
