-- The operations of a batch that are no takes.
use Rattle.std.proofs.Common.{◌≡◌, ◌∙◌, ℕ, ◌+◌, ◌-◌, ◌<◌, ◌≤◌, ◌&&◌, ◌||◌, Bool, true, false, not, cond, List, [], ◌∷◌, ◌++◌, length, take, drop, get_or, Option, Some, refl, sym, ap, arith}
use Rattle.std.specs.List.{filter, list_all}
use Rattle.std.specs.Option.{is_some}
use Rattle.std.proofs.Math.Bool.{or-false}
use Rattle.std.proofs.lemmas.List.{drop_more, length-drop, take-append-drop, take_all}
use Rattle.std.proofs.lemmas.List.Elements.{filter-append}
use Rattle.su_bytes.specs.declared.file_ids.FileId.{FileId}
use Rattle.su_op.specs.declared.operations.Op.{Op}
use Rattle.su_history.specs.Line.{edits, filled_by, is_no_take, is_row, last_op}

-- ---- whether they are a row

or_true : (b : Bool) → (b || true) ≡ true
or_true true = refl
or_true false = refl

-- an edit or a take, in other words
abbrev fits : Option FileId → Op → Bool
fits f op = edits f op || not (is_no_take op)

beside_takes : (f : Option FileId) (ops : List Op) → list_all (fits f) ops ≡ list_all (edits f) (filter is_no_take ops)
beside_takes f [] = refl
beside_takes f (op ∷ ops) = go (is_no_take op) (beside_takes f ops)
  where
    go : (b : Bool) → list_all (fits f) ops ≡ list_all (edits f) (filter is_no_take ops)
        → ((edits f op || not b) && list_all (fits f) ops) ≡ list_all (edits f) (cond b (op ∷ filter is_no_take ops) (filter is_no_take ops))
    go true rest = ap (λ x. x && list_all (fits f) ops) (or-false (edits f op)) ∙ ap (λ x. edits f op && x) rest
    go false rest = ap (λ x. x && list_all (fits f) ops) (or_true (edits f op)) ∙ rest

pub row_told : (first : Op) (ops : List Op) (f : FileId) (told : Bool) → Some f ≡ filled_by first → told ≡ list_all (λ op. edits (Some f) op || not (is_no_take op)) ops → told ≡ is_row first (filter is_no_take ops)
row_told first ops f told is told_is =
    told_is ∙ beside_takes (Some f) ops ∙ ap (λ (g : Option FileId). is_some g && list_all (edits g) (filter is_no_take ops)) is

-- ---- the first one, and the last

-- of a list with that one at an index
split : (ops : List Op) (i : ℕ) (op : Op) → i < length ops → op ≡ get_or ops i op → is_no_take op ≡ true → filter is_no_take ops ≡ filter is_no_take (take i ops) ++ (op ∷ filter is_no_take (drop (i + 1) ops))
split ops i op lt at is =
    ap (filter is_no_take) (sym (take-append-drop i ops) ∙ ap (λ (xs : List Op). take i ops ++ xs) (drop_more ops i op lt ∙ ap (λ (x : Op). x ∷ drop (i + 1) ops) (sym at)))
    ∙ filter-append is_no_take (take i ops) (op ∷ drop (i + 1) ops)
    ∙ ap (λ (b : Bool). filter is_no_take (take i ops) ++ cond b (op ∷ filter is_no_take (drop (i + 1) ops)) (filter is_no_take (drop (i + 1) ops))) is

pub first_found : (first : Op) (more : List Op) (i : ℕ) (op : Op) → is_no_take first ≡ false → filter is_no_take (take i more) ≡ [] → i < length more → op ≡ get_or more i op → is_no_take op ≡ true
    → filter is_no_take (first ∷ more) ≡ op ∷ filter is_no_take (take (length more - (i + 1)) (drop (i + 1) more))
first_found first more i op take_first none lt at is =
    let long = length-drop (i + 1) more in
    ap (λ (b : Bool). cond b (first ∷ filter is_no_take more) (filter is_no_take more)) take_first
    ∙ split more i op lt at is
    ∙ ap (λ (xs : List Op). xs ++ (op ∷ filter is_no_take (drop (i + 1) more))) none
    ∙ ap (λ (xs : List Op). op ∷ filter is_no_take xs) (sym (take_all (length more - (i + 1)) (drop (i + 1) more) (omega (arith, long))))

last_behind : (first : Op) (ops : List Op) (op : Op) → last_op first (ops ++ op ∷ []) ≡ op
last_behind first [] op = refl
last_behind first (next ∷ ops) op = last_behind next ops op

pub last_found : (first : Op) (ops : List Op) (i : ℕ) (op : Op) → 0 < i → i ≤ length ops → op ≡ get_or ops (i - 1) op → is_no_take op ≡ true → filter is_no_take (drop i ops) ≡ [] → op ≡ last_op first (filter is_no_take ops)
last_found first ops i op some within at is none =
    let next : i - 1 + 1 ≡ i = omega (arith, some) in
    sym (
    ap (last_op first) (split ops (i - 1) op (omega (arith, some, within)) at is
    ∙ ap (λ (k : ℕ). filter is_no_take (take (i - 1) ops) ++ (op ∷ filter is_no_take (drop k ops))) next
    ∙ ap (λ (xs : List Op). filter is_no_take (take (i - 1) ops) ++ (op ∷ xs)) none)
    ∙ last_behind first (filter is_no_take (take (i - 1) ops)) op)
