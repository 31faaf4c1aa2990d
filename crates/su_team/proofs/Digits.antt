-- The digits of a key, as they are read and compared.
use Rattle.std.proofs.Common.{◌≡◌, ℕ, ◌*◌, true, false, ◌<◌, List, [], ◌∷◌, ◌++◌, take, drop, length, Option, Some, None, Result, Ok, Err, sym, ap, ◌∙◌, arith}
use Rattle.std.specs.Prelude.{MatchOption, MatchResult, OnOk, not, nat_eq, slice_index}
use Rattle.std.specs.Result.{IsOk, is_err, result_unwrap_or}
use Rattle.std.specs.Cmp.Lexicographic.{bytes_decides, pointwise}
use Rattle.hex.specs.Hex.{decode_pairs, decode_sized, encode_lower}
use Rattle.hex.specs.declared.error.FromHexError.{FromHexError}
use Rattle.hex.proofs.HexLemmas.{decode_of-even, decode_pairs-ok, decode_sized-ok, decode_sized-twice}
use Rattle.std.proofs.lemmas.Bool.{not-false}
use Rattle.std.proofs.lemmas.List.{get_or_default, length-append, take-append-drop}
use Rattle.std.proofs.Math.Seq.{drop-cons, get_or-append_seam, take-append_seam}
use Rattle.su_team.proofs.UserLines.{digits_of_key}
use Rattle.su_team.specs.Team.{IsKey}

-- what 112 digits are read as is a key
pub is_key : (digits key : List ℕ) → decode_sized digits 56 ≡ Ok key → IsKey key
is_key digits key sized =
    let long : length digits ≡ 2 * 56 = decode_sized-ok digits 56 key sized in
    let pairs : decode_pairs 0 digits ≡ Ok key =
    sym (decode_of-even digits (omega (arith, long))) ∙ sym (decode_sized-twice digits 56 long) ∙ sized in
    let told = decode_pairs-ok 0 digits key pairs in
    let size = told.1 in
    record { size = omega (arith, size, long); bytes = λ k d below. rw (get_or_default key k d 0 below) (told.2 k) }

-- what a decoding says once it went well
pub went_well : (d : Result (List ℕ) FromHexError) (r : Result Unit FromHexError) (out : List ℕ)
    → MatchResult d (λ bytes. (r ≡ Ok tt) × (out ≡ bytes)) (λ e. r ≡ Err e) → is_err r ≡ false → d ≡ Ok out
went_well (Ok bytes) r out said well = ap (λ it. Ok it) (sym said.1)
went_well (Err e) r out said well = let failed : is_err r ≡ true = ap is_err said in absurd (cc (failed, well))

pub went_wrong : (d : Result (List ℕ) FromHexError) (r : Result Unit FromHexError) (out key : List ℕ)
    → MatchResult d (λ bytes. (r ≡ Ok tt) × (out ≡ bytes)) (λ e. r ≡ Err e) → is_err r ≡ true → d ≡ Ok key → ⊥
went_wrong (Ok bytes) r out key said wrong sized = let well : is_err r ≡ false = ap is_err said.0 in cc (well, wrong)
went_wrong (Err e) r out key said wrong sized = cc sized

pub written : (r : Result Unit FromHexError) (P : Type 0) → OnOk r P → is_err r ≡ false → P
written (Ok u) P said well = said
written (Err e) P said well = cc well

pub same_bytes : (xs ys : List ℕ) → false ≡ not (pointwise nat_eq xs ys) → xs ≡ ys
same_bytes xs ys is = (bytes_decides xs ys).0 (not-false (pointwise nat_eq xs ys) (sym is))

pub other_bytes : (xs ys : List ℕ) → true ≡ not (pointwise nat_eq xs ys) → xs ≡ ys → ⊥
other_bytes xs ys is same = let equal = (bytes_decides xs ys).1 same in cc (is, ap not equal)

pub equal_bytes : (xs ys : List ℕ) → true ≡ pointwise nat_eq xs ys → xs ≡ ys
equal_bytes xs ys is = same_bytes xs ys (ap not is)

pub same_ok : (r : Result (List ℕ) FromHexError) (xs ys : List ℕ) → r ≡ Ok xs → r ≡ Ok ys → xs ≡ ys
same_ok r xs ys x y = ap (λ (it : Result (List ℕ) FromHexError). result_unwrap_or it []) (sym x ∙ y)

pub no_err : (r : Result Unit FromHexError) → IsOk r → true ≡ is_err r → ⊥
no_err (Ok u) well failed = cc failed
no_err (Err e) well failed = cc well

-- a key at the front of a line, by its digits and what is behind them
pub front_key_of : (o : Option (List ℕ)) (bytes : List ℕ) → 112 < length bytes → slice_index bytes 112 ≡ 10
    → MatchOption o ((key : List ℕ) → IsKey key → take 112 bytes ≡ encode_lower key → ⊥) (λ key. IsKey key × (take 112 bytes ≡ encode_lower key))
    → MatchOption o ((key rest : List ℕ) → IsKey key → bytes ≡ encode_lower key ++ 10 ∷ rest → ⊥)
    (λ key. IsKey key × (112 < length bytes) × (bytes ≡ encode_lower key ++ 10 ∷ drop 113 bytes))
front_key_of None bytes long ends none =
    λ key rest is e. none key is (ap (take 112) e ∙ ap (λ it. take it (encode_lower key ++ 10 ∷ rest)) (sym (digits_of_key key is)) ∙ take-append_seam (encode_lower key) (10 ∷ rest))
front_key_of (Some key) bytes long ends said =
    let behind : drop 112 bytes ≡ 10 ∷ drop 113 bytes = drop-cons bytes 112 0 long ∙ ap (λ it. it ∷ drop 113 bytes) ends in
    (said.0, long, sym (take-append-drop 112 bytes) ∙ ap (λ it. it ++ drop 112 bytes) said.1 ∙ ap (λ it. encode_lower key ++ it) behind)

-- no key stands there, where the line is shorter, or goes on
pub no_key_there : (bytes key rest : List ℕ) → IsKey key → bytes ≡ encode_lower key ++ 10 ∷ rest → (112 < length bytes) × (slice_index bytes 112 ≡ 10)
no_key_there bytes key rest is e =
    let digits = digits_of_key key is in
    let long = ap length e ∙ length-append (encode_lower key) (10 ∷ rest) in (
      omega (arith, digits, long),
      ap (λ it. slice_index it 112) e ∙ ap (slice_index (encode_lower key ++ 10 ∷ rest)) (sym digits) ∙ get_or-append_seam (encode_lower key) 10 rest 0,
    )
