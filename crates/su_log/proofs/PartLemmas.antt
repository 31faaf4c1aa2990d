-- Parts of a log.
use Rattle.std.proofs.Common.{◌≡◌, ℕ, ◌<◌, ◌≤◌, ◌⊎◌, inl, inr, ◌^◌, List, [], ◌++◌, length, length-append, refl, sym, ap, ◌∙◌, arith, append_assoc, append-nil, Option, Some, None}
use Rattle.std.specs.Io.KnownBytes.{Consumes, IsAtEnd}
use Rattle.su_format.specs.Part.{u32_bytes}
use Rattle.su_format.proofs.Public.{u32_told}
use Rattle.su_log.specs.Part.{BeginWith}
use Rattle.su_log.specs.Log.{HasNoPart}

-- a part that stands there has as many bytes as the number says, and these are behind it
pub first_is : (bytes first rest behind : List ℕ) (size : ℕ) → BeginWith bytes first rest → size < 2 ^ 32 → bytes ≡ u32_bytes size ++ behind
    → (length first ≡ size) × (first ++ rest ≡ behind)
first_is bytes first rest behind size b small is =
    u32_told (length first) size (first ++ rest) behind b.few small (sym (append_assoc (u32_bytes (length first)) first rest) ∙ sym b.whole ∙ is)

-- a number that says more than there is begins no part
pub too_long : (bytes behind : List ℕ) (size : ℕ) → size < 2 ^ 32 → bytes ≡ u32_bytes size ++ behind → length behind < size
    → (first rest : List ℕ) → BeginWith bytes first rest → ⊥
too_long bytes behind size small is short first rest b =
    let p = first_is bytes first rest behind size b small is in
    let long = ap length p.1 in
    let sum = length-append first rest in
    omega (arith, p.0, long, sum, short)

-- fewer than four bytes begin none
pub too_short : (bytes : List ℕ) → length bytes < 4 → (first rest : List ℕ) → BeginWith bytes first rest → ⊥
too_short bytes short first rest b =
    let long = ap length b.whole in
    let sum = length-append (u32_bytes (length first) ++ first) rest in
    let number = length-append (u32_bytes (length first)) first in
    let four : length (u32_bytes (length first)) ≡ 4 = refl in
    omega (arith, long, sum, number, four, short)

-- what is consumed of known bytes, and what is left then
pub record Left (input bytes : List ℕ) (known : Option (List ℕ)) : Type 0 where
  pub rest : List ℕ
  pub left : known ≡ Some rest
  pub whole : input ≡ bytes ++ rest

pub left_of : (input bytes : List ℕ) (old new : Option (List ℕ)) → old ≡ Some input → Consumes old new bytes → Left input bytes new
left_of input bytes None new is c = absurd (let bad : None ≡ Some input = is in cc)
left_of input bytes (Some xs) None is c = absurd c
left_of input bytes (Some xs) (Some ys) is c = record { rest = ys; left = refl; whole = let same : xs ≡ input = cc in sym same ∙ c }

none_left : (rest : List ℕ) (known : Option (List ℕ)) → known ≡ Some rest → IsAtEnd known → rest ≡ []
none_left rest None is e = absurd (let bad : None ≡ Some rest = is in cc)
none_left rest (Some xs) is e = let same : xs ≡ rest = cc in sym same ∙ e

-- at the end fewer than four bytes were there
pub cut_number : (input bytes : List ℕ) (old new : Option (List ℕ)) → old ≡ Some input → Consumes old new bytes → IsAtEnd new → input ≡ bytes
cut_number input bytes old new is c e =
    let l = left_of input bytes old new is c in
    l.whole ∙ ap (λ x. bytes ++ x) (none_left l.rest new l.left e) ∙ append-nil bytes

-- a number, and fewer bytes behind it than it says
pub cut_behind : (input number bytes : List ℕ) (size : ℕ) (old mid new : Option (List ℕ)) → old ≡ Some input → Consumes old mid number → Consumes mid new bytes
    → u32_bytes size ≡ number → size < 2 ^ 32 → length bytes < size → IsAtEnd new → (input ≡ [] → ⊥) × HasNoPart input
cut_behind input number bytes size old mid new is c d number_is small short e =
    let l = left_of input number old mid is c in
    let behind = cut_number l.rest bytes mid new l.left d e in
    let whole : input ≡ u32_bytes size ++ bytes = l.whole ∙ ap (λ x. number ++ x) behind ∙ ap (λ x. x ++ bytes) (sym number_is) in (
      λ none.
          let long = ap length whole in
          let sum = length-append (u32_bytes size) bytes in
          let four : length (u32_bytes size) ≡ 4 = refl in
          let empty : length input ≡ 0 = ap length none in
          omega (arith, long, sum, four, empty),
      too_long input bytes size small whole short,
    )

-- a number, and as many bytes behind it
pub part_read : (input number bytes : List ℕ) (size : ℕ) (old mid new : Option (List ℕ)) → old ≡ Some input → Consumes old mid number → Consumes mid new bytes
    → u32_bytes size ≡ number → size < 2 ^ 32 → length bytes ≡ size → (rest : List ℕ) × BeginWith input bytes rest × (new ≡ Some rest)
part_read input number bytes size old mid new is c d number_is small long =
    let l = left_of input number old mid is c in
    let m = left_of l.rest bytes mid new l.left d in
    let same : number ≡ u32_bytes (length bytes) = sym number_is ∙ ap u32_bytes (sym long) in (
      m.rest,
      record {
        few = omega (arith, small, long);
        whole = l.whole ∙ ap (λ x. number ++ x) m.whole ∙ ap (λ x. x ++ (bytes ++ m.rest)) same ∙ sym (append_assoc (u32_bytes (length bytes)) bytes m.rest);
      },
      m.left,
    )

-- as many bytes as were asked for, where there are at least so many
pub four_of : (bytes : List ℕ) (known : Option (List ℕ)) → (length bytes ≡ 4) ⊎ ((length bytes < 4) × IsAtEnd known) → 4 ≤ length bytes → length bytes ≡ 4
four_of bytes known (inl e) long = e
four_of bytes known (inr w) long = absurd (omega (arith, w.0, long))
