use Rattle.std.proofs.Common.{◌≡◌, ◌∙◌, ◌++◌, ℕ, ◌+◌, ◌-◌, ◌^◌, ◌<◌, [], ◌∷◌, length, take, min, List, sym, ap, arith}
use Rattle.std.specs.List.{sum_by}
use Rattle.std.proofs.Math.Seq.{take-length}
use Rattle.std.proofs.lemmas.List.{take_more}
use Rattle.std.proofs.lemmas.List.Sums.{sum_by-append, sum_by-cons}
use Rattle.su_op.specs.declared.operations.Op.{Op}
use Rattle.su_op.specs.Action.{batch_bytes, bytes_by}
use Rattle.su_op.proofs.batches.Batch.written.Goals as goal

most : ℕ
most = 2 ^ 64 - 1

-- capped sums are added up
min_more : (a b : ℕ) → min (min a 18446744073709551615 + b) 18446744073709551615 ≡ min (a + b) 18446744073709551615
min_more a b = omega arith

min_start : (a : ℕ) → a < 18446744073709551616 → a ≡ min (a + 0) 18446744073709551615
min_start a few = omega (arith, few)

one_more : (xs : List Op) (i : ℕ) (x : Op) (a : ℕ) → take (i + 1) xs ≡ take i xs ++ x ∷ [] → (a + sum_by bytes_by (take i xs)) + bytes_by x ≡ a + sum_by bytes_by (take (i + 1) xs)
one_more xs i x a more =
    let sum : sum_by bytes_by (take (i + 1) xs) ≡ sum_by bytes_by (take i xs) + (bytes_by x + 0)
    = ap (sum_by bytes_by) more ∙ sum_by-append bytes_by (take i xs) (x ∷ []) ∙ ap (λ n. sum_by bytes_by (take i xs) + n) (sum_by-cons bytes_by x []) in
    omega (arith, sum)

pub loop-operation-init : goal.loop-operation-init
loop-operation-init c = min_start c.written-bytes.result c.written-bytes.type_inv

pub loop-operation-preserved : goal.loop-operation-preserved
loop-operation-preserved c =
    let l = c.loop-operation in
    let all = c.deref-operation-items.result.now in
    let a = c.written-bytes.result in
    let more = take_more all l.operation-index c.operation-item.result c.loop-operation-test.true in
    c.saturating_add-bytes.ensures
    ∙ ap (λ n. min (n + c.written.result) 18446744073709551615) l.invariant
    ∙ min_more (a + sum_by bytes_by (take l.operation-index all)) c.written.result
    ∙ ap (λ n. min n 18446744073709551615) (ap (λ n. (a + sum_by bytes_by (take l.operation-index all)) + n) (c.written.ensures ∙ ap bytes_by c.operation-item.is) ∙ one_more all l.operation-index _ a more)

-- of one alone it is what that writes
in_all : (x : Op) (xs : List Op) → bytes_by x < 18446744073709551616 → min (bytes_by x + sum_by bytes_by xs) 18446744073709551615 ≡ batch_bytes (x ∷ xs)
in_all x [] few = sym (min_start (bytes_by x) few)
in_all x (y ∷ xs) few = ap (λ n. min n 18446744073709551615) (sym (sum_by-cons bytes_by x (y ∷ xs)))

pub returns : goal.returns
returns c =
    let l = c.loop-operation in
    let all = c.deref-operation-items.result.now in
    let first = c.self.inside.first in
    let few : bytes_by first < 18446744073709551616 = let n = c.written-bytes.type_inv in let is = c.written-bytes.ensures in omega (arith, n, is) in
    let end : l.operation-index ≡ length all = omega (arith, c.loop-operation-test.false, l.auto.operation-index-end) in
    l.invariant
    ∙ ap (λ n. min (n + sum_by bytes_by (take l.operation-index all)) 18446744073709551615) c.written-bytes.ensures
    ∙ ap (λ n. min (bytes_by first + sum_by bytes_by (take n all)) 18446744073709551615) end
    ∙ ap (λ xs. min (bytes_by first + sum_by bytes_by xs) 18446744073709551615) (take-length all ∙ c.deref-operation-items.ensures.value)
    ∙ in_all first c.self.inside.more.items few
    ∙ ap batch_bytes c.self.view_is
