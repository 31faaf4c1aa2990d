-- Version structures are spelled part by part.
use Rattle.std.proofs.Common.{◌≡◌, ◌<◌, ◌≤◌, ◌+◌, ◌^◌, ℕ, Bool, true, false, Option, Some, None, List, [], ◌∷◌, ◌++◌, length, get_or, refl, sym, ap, subst, arith}
use Rattle.std.specs.List.{flat_map, AllByRecursion}
use Rattle.std.specs.Option.{is_some, unwrap_or}
use Rattle.su_bytes.specs.declared.formats.Format.{Format as CommitFormat}
use Rattle.su_bytes.specs.declared.formats.Format.TheVariants.{V1, V2, V3, V4}
use Rattle.su_bytes.specs.Principal.{is_group}
use Rattle.su_format.specs.Format.{part, making, IsLawful, EachFrom, IsFormatOf}
use Rattle.su_format.specs.Part.{u8_bytes, u64_bytes}
use Rattle.su_format.proofs.Public.{Makes, said_as, known_as, last_of, in_order_of, told_by, counted, format_of, part_makes, part_lawful, making_lawful, u8_of, u64_of, bytes_of, user_of, digest_of}
use Rattle.su_version.specs.Version.{IsCarried, AreCarried, IsVersion, group_bytes, first_bytes, body_bytes, version_bytes, AnyFormat, format_part, group_above, carried_format, groups_format, vector_size_part, number_format, vector_format, IsNextKey, AnyFlag, flag_bytes, key_bytes, flag_part, key_behind, key_format, body_format, version_format}

-- ---- groups

group_above_of : (least : ℕ) → Makes (group_above least) (λ g. g) (λ g. (least ≤ g) × (is_group g ≡ true)) u8_bytes
unfolding group_above
group_above_of least = part_makes (part_lawful (λ g. (least ≤ g) × (is_group g ≡ true)) u8_bytes (λ a b rest behind _ _ e. (cc, cc)))

carried_of : (least : ℕ) → Makes (carried_format least) (λ g. g) (IsCarried least) group_bytes
unfolding carried_format
carried_of least =
    known_as (in_order_of (group_above_of least) (λ g. last_of digest_of _))
    (λ g is. record { above = is.0.0; group = is.0.1; handle = is.1 })
    (λ g is. ((is.above, is.group), is.handle))

groups_of : Makes groups_format (λ gs. gs) (λ gs. (length gs < 256) × AreCarried gs) (λ gs. length gs ∷ flat_map group_bytes gs)
unfolding groups_format
groups_of = counted (λ g. g.0 + 1) carried_of 0 u8_of

-- ---- vectors

number_of : (s : ℕ) → Makes (number_format s) (λ n. n) (λ n. n < 2 ^ 64) u64_bytes
unfolding number_format
number_of s = u64_of

all_numbers : (s : ℕ) (v : List ℕ) → EachFrom (λ _ n. n < 2 ^ 64) (λ _. 0) s v → AllByRecursion (λ n. n < 2 ^ 64) v
all_numbers s [] is = tt
all_numbers s (n ∷ v) (is, more) = (is, all_numbers 0 v more)

each_number : (s : ℕ) (v : List ℕ) → AllByRecursion (λ n. n < 2 ^ 64) v → EachFrom (λ _ n. n < 2 ^ 64) (λ _. 0) s v
each_number s [] is = tt
each_number s (n ∷ v) (is, more) = (is, each_number 0 v more)

vector_size_of : Makes vector_size_part (λ n. n) (λ n. (2 ≤ n) × (n ≤ 80)) u8_bytes
unfolding vector_size_part
vector_size_of = part_makes (part_lawful (λ n. (2 ≤ n) × (n ≤ 80)) u8_bytes (λ a b rest behind _ _ e. (cc, cc)))

vector_of : Makes vector_format (λ v. v) (λ v. ((2 ≤ length v) × (length v ≤ 80)) × AllByRecursion (λ n. n < 2 ^ 64) v) (λ v. length v ∷ flat_map u64_bytes v)
unfolding vector_format
vector_of =
    known_as (counted (λ _. 0) number_of 0 vector_size_of) (λ v is. (is.0, all_numbers 0 v is.1)) (λ v is. (is.0, each_number 0 v is.1))

-- ---- next keys

flag_told : (a b : Bool) (rest behind : List ℕ) → AnyFlag a → AnyFlag b → flag_bytes a ++ rest ≡ flag_bytes b ++ behind → (a ≡ b) × (rest ≡ behind)
flag_told false false rest behind _ _ e = (refl, cc)
flag_told false true rest behind _ _ e = let first : ◌≡◌ {A = ℕ} 0 1 = ap (λ l. get_or l 0 0) e in absurd (omega arith)
flag_told true false rest behind _ _ e = let first : ◌≡◌ {A = ℕ} 1 0 = ap (λ l. get_or l 0 0) e in absurd (omega arith)
flag_told true true rest behind _ _ e = (refl, cc)

flag_of : Makes flag_part (λ f. f) AnyFlag flag_bytes
unfolding flag_part
flag_of = part_makes (part_lawful AnyFlag flag_bytes flag_told)

-- no key, without bytes
none_of : Makes (making None) (λ k. k) (λ k. k ≡ None) (λ (k : Option (List ℕ)). [])
unfolding making
none_of = record {
  lawful = making_lawful None;
  spelled = λ bytes b rest x. (b, refl, x.0, sym x.1);
  begins = λ bytes a rest is e. (is, sym e);
}

-- what comes behind a flag
abbrev IsBehind : Bool → Option (List ℕ) → Type 0
IsBehind flag None = flag ≡ false
IsBehind flag (Some key) = (flag ≡ true) × (length key ≡ 56)

abbrev bytes_behind : Option (List ℕ) → List ℕ
bytes_behind None = []
bytes_behind (Some key) = key

nothing_behind : (k : Option (List ℕ)) → IsBehind false k → (k ≡ None) × (k ≡ k) × ([] ≡ bytes_behind k)
nothing_behind None is = (refl, refl, refl)
nothing_behind (Some key) is = absurd (let bad : false ≡ true = is.0 in cc)

key_there : (k : Option (List ℕ)) → IsBehind true k → (length (unwrap_or k []) ≡ 56) × (Some (unwrap_or k []) ≡ k) × (unwrap_or k [] ≡ bytes_behind k)
key_there None is = absurd (let bad : true ≡ false = is in cc)
key_there (Some key) is = (is.1, refl, refl)

key_behind_of : (flag : Bool) → Makes (key_behind flag) (λ k. k) (IsBehind flag) bytes_behind
unfolding key_behind
key_behind_of false =
    said_as none_of (λ k. k) (λ k. k)
    (λ k is. (subst (IsBehind false) (sym is) refl, refl, ap bytes_behind is))
    nothing_behind
key_behind_of true =
    said_as (last_of (bytes_of 56) Some) Some (λ k. unwrap_or k [])
    (λ key is. ((refl, is), refl, refl))
    key_there

tells_flag : (flag : Bool) (k : Option (List ℕ)) → IsBehind flag k → is_some k ≡ flag
tells_flag flag None is = sym is
tells_flag flag (Some key) is = sym is.0

is_next_key : (k : Option (List ℕ)) → AnyFlag (is_some k) × IsBehind (is_some k) k → IsNextKey V3 k × (k ≡ k) × (key_bytes V3 k ≡ flag_bytes (is_some k) ++ bytes_behind k)
is_next_key None is = (tt, refl, refl)
is_next_key (Some key) is = (is.1.1, refl, refl)

next_key_is : (k : Option (List ℕ)) → IsNextKey V3 k → (AnyFlag (is_some k) × IsBehind (is_some k) k) × (k ≡ k) × (flag_bytes (is_some k) ++ bytes_behind k ≡ key_bytes V3 k)
next_key_is None is = ((tt, refl), refl, refl)
next_key_is (Some key) is = ((tt, (refl, is)), refl, refl)

is_next_key-V4 : (k : Option (List ℕ)) → AnyFlag (is_some k) × IsBehind (is_some k) k → IsNextKey V4 k × (k ≡ k) × (key_bytes V4 k ≡ flag_bytes (is_some k) ++ bytes_behind k)
is_next_key-V4 None is = (tt, refl, refl)
is_next_key-V4 (Some key) is = (is.1.1, refl, refl)

next_key_is-V4 : (k : Option (List ℕ)) → IsNextKey V4 k → (AnyFlag (is_some k) × IsBehind (is_some k) k) × (k ≡ k) × (flag_bytes (is_some k) ++ bytes_behind k ≡ key_bytes V4 k)
next_key_is-V4 None is = ((tt, refl), refl, refl)
next_key_is-V4 (Some key) is = ((tt, (refl, is)), refl, refl)

key_of : (f : CommitFormat) → Makes (key_format f) (λ k. k) (IsNextKey f) (key_bytes f)
unfolding key_format
key_of V1 = none_of
key_of V2 = none_of
key_of V3 = said_as (told_by is_some flag_of key_behind_of tells_flag) (λ k. k) (λ k. k) is_next_key next_key_is
key_of V4 = said_as (told_by is_some flag_of key_behind_of tells_flag) (λ k. k) (λ k. k) is_next_key-V4 next_key_is-V4

-- ---- version structures

-- the first bytes tell the format
format_told : (f g : CommitFormat) (rest behind : List ℕ) → AnyFormat f → AnyFormat g → first_bytes f ++ rest ≡ first_bytes g ++ behind → (f ≡ g) × (rest ≡ behind)
format_told V1 V1 rest behind _ _ e = (refl, cc)
format_told V1 V2 rest behind _ _ e = let fourth : ◌≡◌ {A = ℕ} 49 50 = ap (λ l. get_or l 3 0) e in absurd (omega arith)
format_told V2 V1 rest behind _ _ e = let fourth : ◌≡◌ {A = ℕ} 50 49 = ap (λ l. get_or l 3 0) e in absurd (omega arith)
format_told V2 V2 rest behind _ _ e = (refl, cc)
format_told V1 V3 rest behind _ _ e = let fourth : ◌≡◌ {A = ℕ} 49 51 = ap (λ l. get_or l 3 0) e in absurd (omega arith)
format_told V3 V1 rest behind _ _ e = let fourth : ◌≡◌ {A = ℕ} 51 49 = ap (λ l. get_or l 3 0) e in absurd (omega arith)
format_told V2 V3 rest behind _ _ e = let fourth : ◌≡◌ {A = ℕ} 50 51 = ap (λ l. get_or l 3 0) e in absurd (omega arith)
format_told V3 V2 rest behind _ _ e = let fourth : ◌≡◌ {A = ℕ} 51 50 = ap (λ l. get_or l 3 0) e in absurd (omega arith)
format_told V3 V3 rest behind _ _ e = (refl, cc)
format_told V1 V4 rest behind _ _ e = let fourth : ◌≡◌ {A = ℕ} 49 52 = ap (λ l. get_or l 3 0) e in absurd (omega arith)
format_told V4 V1 rest behind _ _ e = let fourth : ◌≡◌ {A = ℕ} 52 49 = ap (λ l. get_or l 3 0) e in absurd (omega arith)
format_told V2 V4 rest behind _ _ e = let fourth : ◌≡◌ {A = ℕ} 50 52 = ap (λ l. get_or l 3 0) e in absurd (omega arith)
format_told V4 V2 rest behind _ _ e = let fourth : ◌≡◌ {A = ℕ} 52 50 = ap (λ l. get_or l 3 0) e in absurd (omega arith)
format_told V3 V4 rest behind _ _ e = let fourth : ◌≡◌ {A = ℕ} 51 52 = ap (λ l. get_or l 3 0) e in absurd (omega arith)
format_told V4 V3 rest behind _ _ e = let fourth : ◌≡◌ {A = ℕ} 52 51 = ap (λ l. get_or l 3 0) e in absurd (omega arith)
format_told V4 V4 rest behind _ _ e = (refl, cc)

pub first_bytes_lawful : IsLawful (part AnyFormat first_bytes)
first_bytes_lawful = part_lawful AnyFormat first_bytes format_told

-- there are four of them
pub length-first_bytes : (f : CommitFormat) → length (first_bytes f) ≡ 4
length-first_bytes V1 = refl
length-first_bytes V2 = refl
length-first_bytes V3 = refl
length-first_bytes V4 = refl

-- the second isn't that of a roster
pub second_byte : (f : CommitFormat) (body behind : List ℕ) → get_or ((first_bytes f ++ body) ++ behind) 1 0 ≡ 86
second_byte V1 body behind = refl
second_byte V2 body behind = refl
second_byte V3 body behind = refl
second_byte V4 body behind = refl

first_bytes_of : Makes format_part (λ f. f) AnyFormat first_bytes
unfolding format_part
first_bytes_of = part_makes first_bytes_lawful

pub body_of : (f : CommitFormat) → Makes (body_format f) (λ v. v) (λ v. (v.format ≡ f) × IsVersion v) body_bytes
unfolding body_format body_bytes
body_of f =
    said_as (in_order_of user_of (λ author. in_order_of digest_of (λ prev. in_order_of digest_of (λ change. in_order_of digest_of (λ handle. in_order_of groups_of (λ groups. in_order_of vector_of (λ vector. last_of (key_of f) _)))))))
    (λ p. record { format = f; author = p.0; prev = p.1.0; change = p.1.1.0; handle = p.1.1.1.0; groups = p.1.1.1.1.0; vector = p.1.1.1.1.1.0; next_key = p.1.1.1.1.1.1 })
    (λ v. (v.author, (v.prev, (v.change, (v.handle, (v.groups, (v.vector, v.next_key)))))))
    (λ p is. (
      (
        refl,
        record {
          author = is.0;
          prev = is.1.0;
          change = is.1.1.0;
          handle = is.1.1.1.0;
          group_count = is.1.1.1.1.0.0;
          groups = is.1.1.1.1.0.1;
          some_numbers = is.1.1.1.1.1.0.0.0;
          few_numbers = is.1.1.1.1.1.0.0.1;
          numbers = is.1.1.1.1.1.0.1;
          next_key = is.1.1.1.1.1.1;
        },
      ),
      refl,
      refl,
    ))
    (λ v is. let of = is.1 in (
      (of.author, (of.prev, (of.change, (of.handle, ((of.group_count, of.groups), (((of.some_numbers, of.few_numbers), of.numbers), subst (λ g. IsNextKey g v.next_key) is.0 of.next_key)))))),
      ap (λ x. record v { format = x }) (sym is.0),
      ap (λ g. v.author ∷ (v.prev ++ (v.change ++ (v.handle ++ (length v.groups ∷ (flat_map group_bytes v.groups ++ (length v.vector ∷ (flat_map u64_bytes v.vector ++ key_bytes g v.next_key)))))))) (sym is.0),
    ))

pub version_makes : Makes version_format (λ v. v) IsVersion version_bytes
unfolding version_format version_bytes
version_makes = known_as (told_by (λ v. v.format) first_bytes_of body_of (λ f v is. is.0)) (λ v is. is.1.1) (λ v is. (tt, (refl, is)))

pub version_of : IsFormatOf version_format IsVersion version_bytes
version_of = format_of version_makes

pub version_lawful : IsLawful version_format
version_lawful = version_makes.lawful
