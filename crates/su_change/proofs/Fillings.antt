-- The item of several operations, by how many there are and how many bytes their spellings have.
use Rattle.std.proofs.Common.{◌≡◌, ◌∙◌, ℕ, zero, suc, ◌+◌, ◌<◌, ◌≤◌, List, [], ◌∷◌, ◌++◌, append-nil, length, length-append, take, get_or, refl, sym, ap, subst, arith, ◌⊎◌, inl, inr}
use Rattle.std.proofs.lemmas.Grind.{flat_map-append}
use Rattle.std.proofs.lemmas.List.{length-take-le, take_more}
use Rattle.std.specs.List.{flat_map, AllByRecursion}
use Rattle.su_op.specs.declared.operations.Op.{Op}
use Rattle.su_op.specs.declared.operations.Change.TheVariants.{Do}
use Rattle.su_change.specs.Operation.{CanBeSpelled, op_bytes}
use Rattle.su_change.specs.Item.{HasItem, item_bytes}
use Rattle.su_change.specs.Filling.{HasRoom, IsLongestHead}

-- the bytes of their spellings
abbrev pub spelled_bytes : List Op → ℕ
spelled_bytes ops = length (flat_map op_bytes ops)

pub has_item_where : (ops : List Op) → 1 ≤ length ops → AllByRecursion CanBeSpelled ops → HasRoom (length ops) (spelled_bytes ops) → HasItem (Do ops)
unfolding item_bytes
has_item_where [] some can room = absurd (omega (arith, some))
has_item_where (op ∷ []) some can room = can.0
has_item_where (op ∷ next ∷ ops) some can (inl alone) = absurd (omega (arith, alone))
has_item_where (op ∷ next ∷ ops) some can (inr room) =
    let few = room.0 in
    let short = room.1 in
    (record { some = omega arith; few = few; each = can }, omega (arith, short))

pub where_has_item : (ops : List Op) → HasItem (Do ops) → AllByRecursion CanBeSpelled ops × HasRoom (length ops) (spelled_bytes ops)
unfolding item_bytes
where_has_item [] has = absurd has
where_has_item (op ∷ []) has = ((has, tt), inl refl)
where_has_item (op ∷ next ∷ ops) has =
    let short = has.1 in
    (has.0.each, inr (has.0.few, omega (arith, short)))

-- ---- heads of a list

-- the first n have an item, or there are none
pub head_has_item : (ops : List Op) (n bytes : ℕ) → n ≤ length ops → AllByRecursion CanBeSpelled (take n ops) → bytes ≡ spelled_bytes (take n ops) → (n ≡ 0) ⊎ HasRoom n bytes
    → (n ≡ 0) ⊎ HasItem (Do (take n ops))
head_has_item ops zero bytes within can long room = inl refl
head_has_item ops (suc n) bytes within can long (inl none) = absurd (omega (arith, none))
head_has_item ops (suc n) bytes within can long (inr room) =
    let count : suc n ≡ length (take (suc n) ops) = sym (length-take-le (suc n) ops within) in
    inr (has_item_where (take (suc n) ops) (omega (arith, count)) can (subst (λ k. HasRoom k (spelled_bytes (take (suc n) ops))) count (subst (HasRoom (suc n)) long room)))

last_can : (ops : List Op) (op : Op) → AllByRecursion CanBeSpelled (ops ++ op ∷ []) → CanBeSpelled op
last_can [] op can = can.0
last_can (first ∷ ops) op can = last_can ops op can.1

-- the bytes of one more
one_more : (ops : List Op) (op : Op) → spelled_bytes (ops ++ op ∷ []) ≡ spelled_bytes ops + length (op_bytes op)
one_more ops op = ap length (flat_map-append op_bytes ops (op ∷ [])) ∙ length-append (flat_map op_bytes ops) (op_bytes op ++ []) ∙ ap (λ bytes. spelled_bytes ops + length bytes) (append-nil (op_bytes op))

-- where there is no room for the next one, the first n + 1 have no item
pub full_at : (ops : List Op) (n : ℕ) (op : Op) (bytes : ℕ) → n < length ops → op ≡ get_or ops n op → bytes ≡ spelled_bytes (take n ops) → (CanBeSpelled op → HasRoom (n + 1) (bytes + length (op_bytes op)) → ⊥)
    → HasItem (Do (take (n + 1) ops)) → ⊥
full_at ops n op bytes within is long full has =
    let next : take (n + 1) ops ≡ take n ops ++ op ∷ [] = take_more ops n op within ∙ ap (λ x. take n ops ++ x ∷ []) (sym is) in
    let found = where_has_item (take n ops ++ op ∷ []) (subst (λ head. HasItem (Do head)) next has) in
    let few = length-take-le n ops (omega (arith, within)) in
    let count : length (take n ops ++ op ∷ []) ≡ n + 1 = length-append (take n ops) (op ∷ []) ∙ ap (λ k. k + 1) few in
    let bytes_are : spelled_bytes (take n ops ++ op ∷ []) ≡ bytes + length (op_bytes op) = one_more (take n ops) op ∙ ap (λ b. b + length (op_bytes op)) (sym long) in
    full (last_can (take n ops) op found.0) (subst (HasRoom (n + 1)) bytes_are (subst (λ k. HasRoom k (spelled_bytes (take n ops ++ op ∷ []))) count found.1))

-- so many are the longest head, where there is no room for the next one
pub longest_before : (ops : List Op) (n : ℕ) (op : Op) (bytes : ℕ) → n < length ops → op ≡ get_or ops n op → AllByRecursion CanBeSpelled (take n ops) → bytes ≡ spelled_bytes (take n ops) → (n ≡ 0) ⊎ HasRoom n bytes
    → (CanBeSpelled op → HasRoom (n + 1) (bytes + length (op_bytes op)) → ⊥) → IsLongestHead ops n
longest_before ops n op bytes within is can long room full = record {
  few = omega (arith, within);
  has_item = head_has_item ops n bytes (omega (arith, within)) can long room;
  longest = inr (full_at ops n op bytes within is long full);
}

-- all are the longest head, where there is room for them
pub longest_of_all : (ops : List Op) (n bytes : ℕ) → n ≡ length ops → AllByRecursion CanBeSpelled (take n ops) → bytes ≡ spelled_bytes (take n ops) → (n ≡ 0) ⊎ HasRoom n bytes → IsLongestHead ops (length ops)
longest_of_all ops n bytes all can long room =
    subst (IsLongestHead ops) all (record { few = omega (arith, all); has_item = head_has_item ops n bytes (omega (arith, all)) can long room; longest = inl all })
