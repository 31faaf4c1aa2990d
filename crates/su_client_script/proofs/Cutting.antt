-- The parts of operations.
use Rattle.std.proofs.Common.{◌≡◌, ◌≤◌, ℕ, zero, suc, Bool, true, List, [], ◌∷◌, ◌++◌, length, inl, inr, refl, sym, subst, append_assoc, append-nil, arith}
use Rattle.su_op.specs.declared.operations.Op.{Op}
use Rattle.su_change.specs.Filling.{IsLongestHead}
use Rattle.su_client_script.specs.Parts.{IsCut, IsFirstPart}

-- in batches the first part has as many as one item has room for, and one where that is none
pub counted : (ops : List Op) (head n : ℕ) → IsLongestHead ops head → (head ≡ 0 → n ≡ 1) → (1 ≤ head → n ≡ head) → IsFirstPart true ops n
counted ops zero n longest none some = let one : n ≡ 1 = none refl in (omega arith, inr (one, longest))
counted ops (suc k) n longest none some = let same : n ≡ suc k = some (omega arith) in (omega arith, inl (subst (λ m. IsLongestHead ops m) (sym same) longest))

-- the parts of what is left are the last parts of all
abbrev pub IsCutTo : Bool → List Op → List (List Op) → List Op → Type 0
IsCutTo batches ops parts left = (more : List (List Op)) → IsCut batches left more → IsCut batches ops (parts ++ more)

pub cut_more : (batches : Bool) (ops left behind part : List Op) (parts : List (List Op)) → IsCutTo batches ops parts left
    → IsFirstPart batches left (length part) → left ≡ part ++ behind → IsCutTo batches ops (parts ++ part ∷ []) behind
cut_more batches ops left behind part parts so_far first is more cut =
    subst (λ l. IsCut batches ops l) (sym (append_assoc parts (part ∷ []) more)) (so_far (part ∷ more) (first, (behind, is, cut)))

pub all_cut : (batches : Bool) (ops left : List Op) (parts : List (List Op)) → IsCutTo batches ops parts left → left ≡ [] → IsCut batches ops parts
all_cut batches ops left parts so_far none = subst (λ l. IsCut batches ops l) (append-nil parts) (so_far [] none)
