-- How the groups of a digest go on, byte by byte.
use Rattle.std.proofs.Common.{◌≡◌, ℕ, zero, suc, ◌+◌, ◌*◌, ◌<◌, ◌≤◌, List, [], ◌∷◌, ◌++◌, length, take, get_or, set, Option, Some, None, Ok, refl, sym, ap, subst, ◌∙◌, arith}
use Rattle.std.specs.Prelude.{All, MatchOption}
use Rattle.std.proofs.lemmas.List.{append_assoc, append-nil, length-append, length-take-le}
use Rattle.std.proofs.lemmas.Grind.{common_steps}
use Rattle.hex.specs.Hex.{IsBytes, decode_sized, encode_lower, lower_digits}
use Rattle.hex.proofs.HexLemmas.{decode_of-even, decode_pairs-ok, decode_sized-encode_lower, decode_sized-ok, decode_sized-twice, length-encode_with}
use Rattle.su_team.specs.Group.{IsDigest, blank_before, byte_shown, groups_from, groups_of}
use Rattle.su_team.proofs.Digits.{same_ok}
use Rattle.su_team.proofs.UserLines.{same_fronts}

pub groups_from-push : (place : ℕ) (bytes : List ℕ) (b : ℕ) → groups_from place (bytes ++ b ∷ []) ≡ groups_from place bytes ++ byte_shown (place + length bytes) b
groups_from-push place [] b =
    let at : place ≡ place + 0 = omega arith in append-nil (byte_shown place b) ∙ ap (λ (it : ℕ). byte_shown it b) at
groups_from-push place (x ∷ bytes) b =
    let at : place + 1 + length bytes ≡ place + length (x ∷ bytes) = omega arith in
    ap (λ it. byte_shown place x ++ it) (groups_from-push (place + 1) bytes b)
    ∙ sym (append_assoc (byte_shown place x) (groups_from (place + 1) bytes) (byte_shown (place + 1 + length bytes) b))
    ∙ ap (λ (it : ℕ). (byte_shown place x ++ groups_from (place + 1) bytes) ++ byte_shown it b) at

-- all bytes at a place are shown as long
as_long : (place x y : ℕ) → length (byte_shown place x) ≡ length (byte_shown place y)
as_long place x y =
    let left = length-append (blank_before place) (encode_lower (x ∷ [])) in
    let right = length-append (blank_before place) (encode_lower (y ∷ [])) in
    let two = length-encode_with lower_digits (x ∷ []) in
    let other = length-encode_with lower_digits (y ∷ []) in
    omega (arith, left, right, two, other)

-- a further byte
pub record OneMore (place : ℕ) (left : List ℕ) : Type 0 where
  pub byte : ℕ
  pub behind : List ℕ
  pub is_byte : byte < 256
  pub shown : left ≡ byte_shown place byte ++ behind

-- bytes that are shown at the front of those of a digest: a further one comes behind them
pub one_more : (place : ℕ) (bytes digest left : List ℕ) → All (λ b. b < 256) digest → groups_from place bytes ++ left ≡ groups_from place digest
    → length bytes < length digest → OneMore (place + length bytes) left
one_more place bytes [] left all e fewer = absurd (omega arith)
one_more place [] (b ∷ digest) left all e fewer =
    let at : place ≡ place + 0 = omega arith in
    subst (λ (it : ℕ). OneMore it left) at (record { byte = b; behind = groups_from (place + 1) digest; is_byte = all 0 0 (omega arith); shown = e })
one_more place (x ∷ bytes) (b ∷ digest) left all e fewer =
    let same = same_fronts (byte_shown place x) (byte_shown place b) (groups_from (place + 1) bytes ++ left) (groups_from (place + 1) digest) (as_long place x b)
    (sym (append_assoc (byte_shown place x) (groups_from (place + 1) bytes) left) ∙ e) in
    let at : place + 1 + length bytes ≡ place + length (x ∷ bytes) = omega arith in
    subst (λ (it : ℕ). OneMore it left) at (one_more (place + 1) bytes digest left (λ k d below. all (suc k) d (omega arith)) same.1 (omega arith))

-- as many bytes are all of them
pub no_more : (place : ℕ) (bytes digest left : List ℕ) → groups_from place bytes ++ left ≡ groups_from place digest → length bytes ≡ length digest → left ≡ []
no_more place [] [] left e same = e
no_more place [] (b ∷ digest) left e same = absurd (omega arith)
no_more place (x ∷ bytes) [] left e same = absurd (omega arith)
no_more place (x ∷ bytes) (b ∷ digest) left e same =
    let fronts = same_fronts (byte_shown place x) (byte_shown place b) (groups_from (place + 1) bytes ++ left) (groups_from (place + 1) digest) (as_long place x b)
    (sym (append_assoc (byte_shown place x) (groups_from (place + 1) bytes) left) ∙ e) in
    no_more (place + 1) bytes digest left fronts.1 (omega arith)

-- ---- one byte

pub same_digits : (place : ℕ) (text digits rest : List ℕ) (b : ℕ) → text ≡ blank_before place ++ digits → text ≡ byte_shown place b ++ rest → digits ≡ encode_lower (b ∷ []) ++ rest
same_digits place text digits rest b e f =
    (same_fronts (blank_before place) (blank_before place) digits (encode_lower (b ∷ []) ++ rest) refl (sym e ∙ f ∙ append_assoc (blank_before place) (encode_lower (b ∷ [])) rest)).1

pub two_digits : (b : ℕ) (rest : List ℕ) → 2 ≤ length (encode_lower (b ∷ []) ++ rest)
two_digits b rest = let two = length-encode_with lower_digits (b ∷ []) in let long = length-append (encode_lower (b ∷ [])) rest in omega (arith, two, long)

pub first_two : (digits rest : List ℕ) (b : ℕ) → digits ≡ encode_lower (b ∷ []) ++ rest → get_or digits 0 0 ∷ get_or digits 1 0 ∷ [] ≡ encode_lower (b ∷ [])
first_two [] rest b e = let two = two_digits b rest in absurd (omega (arith, two, ap length e))
first_two (high ∷ []) rest b e = let two = two_digits b rest in absurd (omega (arith, two, ap length e))
first_two (high ∷ low ∷ behind) rest b e =
    let two = length-encode_with lower_digits (b ∷ []) in
    (same_fronts (high ∷ low ∷ []) (encode_lower (b ∷ [])) behind rest (omega (arith, two)) e).0

pub sized_byte : (b : ℕ) (digits : List ℕ) → b < 256 → digits ≡ encode_lower (b ∷ []) → decode_sized digits 1 ≡ Ok (b ∷ [])
sized_byte b digits byte e = ap (λ it. decode_sized it 1) e ∙ decode_sized-encode_lower (b ∷ []) 1 refl bytes where
  bytes : IsBytes (b ∷ [])
  bytes zero = byte
  bytes (suc i) = omega arith

only_one : (xs : List ℕ) → length xs ≡ 1 → xs ≡ get_or xs 0 0 ∷ []
only_one [] one = absurd (omega arith)
only_one (x ∷ []) one = refl
only_one (x ∷ y ∷ xs) one = absurd (omega arith)

pub one_byte : (digits bytes : List ℕ) → decode_sized digits 1 ≡ Ok bytes → bytes ≡ get_or bytes 0 0 ∷ []
one_byte digits bytes sized =
    let long : length digits ≡ 2 * 1 = decode_sized-ok digits 1 bytes sized in
    let told = decode_pairs-ok 0 digits bytes (sym (decode_of-even digits (omega (arith, long))) ∙ sym (decode_sized-twice digits 1 long) ∙ sized) in
    let twice = told.1 in
    only_one bytes (omega (arith, twice, long))

-- ---- a text whose bytes before a place were read

front_length : (bytes : List ℕ) (place : ℕ) → length bytes ≡ 32 → place ≤ 32 → length (take place bytes) ≡ place
front_length bytes place size within = length-take-le place bytes (omega (arith, size))

pub read_further : (bytes text left behind : List ℕ) (place b : ℕ) → length bytes ≡ 32 → place < 32 → text ≡ groups_of (take place bytes) ++ left
    → left ≡ byte_shown place b ++ behind → text ≡ groups_of (take (place + 1) (set bytes place b)) ++ behind
read_further bytes text left behind place b size within is shown =
    let long = front_length bytes place size (omega arith) in
    let size_is : 0 + length (take place bytes) ≡ place = omega (arith, long) in
    let more : take (place + 1) (set bytes place b) ≡ take place bytes ++ b ∷ [] = grind (arith, common_steps, size) in
    let push : groups_of (take place bytes ++ b ∷ []) ≡ groups_of (take place bytes) ++ byte_shown place b =
    groups_from-push 0 (take place bytes) b ∙ ap (λ (it : ℕ). groups_of (take place bytes) ++ byte_shown it b) size_is in
    is ∙ ap (λ it. groups_of (take place bytes) ++ it) shown ∙ sym (append_assoc (groups_of (take place bytes)) (byte_shown place b) behind)
    ∙ ap (λ it. it ++ behind) (sym push) ∙ ap (λ it. groups_of it ++ behind) (sym more)

pub no_digest : (bytes text left digest : List ℕ) (place : ℕ) → length bytes ≡ 32 → place < 32 → text ≡ groups_of (take place bytes) ++ left
    → ((b : ℕ) (rest : List ℕ) → b < 256 → left ≡ byte_shown place b ++ rest → ⊥) → IsDigest digest → text ≡ groups_of digest → ⊥
no_digest bytes text left digest place size within is stuck digest_is spelled =
    let long = front_length bytes place size (omega arith) in
    let size_is : 0 + length (take place bytes) ≡ place = omega (arith, long) in
    let digest_size = digest_is.size in
    let more = one_more 0 (take place bytes) digest left digest_is.bytes (sym is ∙ spelled) (omega (arith, size_is, digest_size)) in
    let shown = subst (λ (it : ℕ). left ≡ byte_shown it more.byte ++ more.behind) size_is more.shown in
    stuck more.byte more.behind more.is_byte shown

pub no_more_text : (bytes text left digest : List ℕ) (place : ℕ) → length bytes ≡ 32 → place ≡ 32 → text ≡ groups_of (take place bytes) ++ left
    → IsDigest digest → text ≡ groups_of digest → left ≡ []
no_more_text bytes text left digest place size all is digest_is spelled =
    let size_is : length (take place bytes) ≡ place = front_length bytes place size (omega arith) in
    let digest_size = digest_is.size in
    no_more 0 (take place bytes) digest left (sym is ∙ spelled) (omega (arith, size_is, digest_size, all))

pub at_none : {T : Type 0} (o : Option T) (P : Type 0) (Q : T → Type 0) → o ≡ None → P → MatchOption o P Q
at_none None P Q is p = p
at_none (Some x) P Q is p = absurd (cc is)

-- ---- what the groups tell

same_byte : (x y : ℕ) → x < 256 → y < 256 → encode_lower (x ∷ []) ≡ encode_lower (y ∷ []) → x ≡ y
same_byte x y byte_x byte_y e =
    ap (λ it. get_or it 0 0) (same_ok (decode_sized (encode_lower (x ∷ [])) 1) (x ∷ []) (y ∷ []) (sized_byte x (encode_lower (x ∷ [])) byte_x refl) (sized_byte y (encode_lower (x ∷ [])) byte_y e))

same_groups : (place : ℕ) (xs ys : List ℕ) → All (λ b. b < 256) xs → All (λ b. b < 256) ys → length xs ≡ length ys → groups_from place xs ≡ groups_from place ys → xs ≡ ys
same_groups place [] [] all_x all_y long e = refl
same_groups place [] (y ∷ ys) all_x all_y long e = absurd (omega arith)
same_groups place (x ∷ xs) [] all_x all_y long e = absurd (omega arith)
same_groups place (x ∷ xs) (y ∷ ys) all_x all_y long e =
    let same = same_fronts (byte_shown place x) (byte_shown place y) (groups_from (place + 1) xs) (groups_from (place + 1) ys) (as_long place x y) e in
    let digits = same_fronts (blank_before place) (blank_before place) (encode_lower (x ∷ [])) (encode_lower (y ∷ [])) refl same.0 in
    let first = same_byte x y (all_x 0 0 (omega arith)) (all_y 0 0 (omega arith)) digits.1 in
    let behind = same_groups (place + 1) xs ys (λ k d below. all_x (suc k) d (omega arith)) (λ k d below. all_y (suc k) d (omega arith)) (omega arith) same.1 in
    ap (λ (it : List ℕ). x ∷ it) behind ∙ ap (λ (it : ℕ). it ∷ ys) first

pub same_digests : (a b : List ℕ) → IsDigest a → IsDigest b → groups_of a ≡ groups_of b → a ≡ b
same_digests a b is_a is_b e = same_groups 0 a b is_a.bytes is_b.bytes (is_a.size ∙ sym is_b.size) e
