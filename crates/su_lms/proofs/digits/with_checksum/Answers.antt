use Rattle.std.proofs.Common.{◌≡◌, ℕ, List, [], ◌∷◌, ◌++◌, length, drop, ap, ◌∙◌, arith}
use Rattle.std.proofs.lemmas.List.{append-nil, take_at, drop_at, length-append}
use Rattle.su_lms.specs.Strings.{u16str}
use Rattle.su_lms.specs.OneTime.{checksum, with_checksum}
use Rattle.su_lms.proofs.digits.with_checksum.Goals as goal
use borrow.Rule.Slice.PartMut.{put_mid}

-- two bytes behind 32 others are replaced
replaced : (a b : List ℕ) (x y : ℕ) → length a ≡ 32 → put_mid 32 2 (a ++ x ∷ y ∷ []) b ≡ a ++ b
replaced a b x y size =
    let behind : drop 32 (a ++ x ∷ y ∷ []) ≡ x ∷ y ∷ [] = drop_at a (x ∷ y ∷ []) 32 size in
    ap (λ s. s ++ (b ++ drop 2 (drop 32 (a ++ x ∷ y ∷ [])))) (take_at a (x ∷ y ∷ []) 32 size)
    ∙ ap (λ s. a ++ (b ++ drop 2 s)) behind ∙ ap (λ s. a ++ s) (append-nil b)

pub returns : goal.returns
returns c =
    let value : put_mid 32 2 (c.copy_from_slice.new.self ++ 0 ∷ 0 ∷ []) c.copy_from_slice-2.new.self ≡ with_checksum c.args.ots c.args.hash.now =
    replaced c.copy_from_slice.new.self c.copy_from_slice-2.new.self 0 0 (ap length c.copy_from_slice.ensures.after ∙ c.told-hash)
    ∙ ap (λ a. a ++ c.copy_from_slice-2.new.self) c.copy_from_slice.ensures.after
    ∙ ap (λ b. c.args.hash.now ++ b) (c.copy_from_slice-2.ensures.after ∙ c.to_be_bytes.ensures ∙ ap u16str c.checksum.ensures) in
    record {
      value = value;
      size = ap length value ∙ omega (arith, c.told-hash, length-append c.args.hash.now (u16str (checksum c.args.ots c.args.hash.now)));
    }
