use Rattle.std.proofs.Common.{◌≡◌, ◌∙◌, ◌++◌, ℕ, ◌∷◌, length, map, take, drop, set, List, sym, ap, arith, append-nil}
use Rattle.std.proofs.Math.Seq.{take-length, drop-length}
use Rattle.std.proofs.lemmas.List.{with_items_is}
use Rattle.std.proofs.lemmas.List.Edits.{map_over_more}
use Rattle.su_op.specs.declared.operations.Op.{Op}
use Rattle.su_op.specs.Action.{op_without_bytes}
use Rattle.su_op.proofs.batches.Batch.leave_bytes.Goals as goal

pub loop-operation-preserved : goal.loop-operation-preserved
loop-operation-preserved c =
    let l = c.loop-operation in
    ap (set l.operation-items l.operation-index) (c.leave_bytes-in-loop-operation.ensures ∙ ap op_without_bytes (sym c.operation-item.is))
    ∙ map_over_more op_without_bytes c.deref_mut-operation-items.result.now l.operation-items l.operation-index c.operation-item.result c.loop-operation-test.true l.invariant c.operation-item.is

-- the loop has gone over all of them
over_all : (xs ys : List Op) (i : ℕ) → i ≡ length xs → ys ≡ map op_without_bytes (take i xs) ++ drop i xs → ys ≡ map op_without_bytes xs
over_all xs ys i end is =
    is ∙ ap (λ n. map op_without_bytes (take n xs) ++ drop n xs) end
    ∙ ap (λ l. map op_without_bytes l ++ drop (length xs) xs) (take-length xs)
    ∙ ap (λ l. map op_without_bytes xs ++ l) (drop-length xs)
    ∙ append-nil (map op_without_bytes xs)

pub returns : goal.returns
returns c =
    let l = c.loop-operation in
    let v = c.self.inside.more in
    let all = c.deref_mut-operation-items.result.now in
    let end : l.operation-index ≡ length all = omega (arith, c.loop-operation-test.false, l.auto.operation-index-end) in
    let long : length l.operation-items ≡ v.len = omega (arith, l.auto.operation-items, ap length c.deref_mut-operation-items.ensures.value, v.ok.0) in
    ap (λ x. x ∷ take v.len (l.operation-items ++ drop (length l.operation-items) v.items)) c.leave_bytes.ensures
    ∙ ap (λ xs. op_without_bytes c.self.inside.first ∷ xs)
    (with_items_is v l.operation-items long
    ∙ over_all all l.operation-items l.operation-index end l.invariant ∙ ap (map op_without_bytes) c.deref_mut-operation-items.ensures.value)
    ∙ ap (map op_without_bytes) c.self.view_is
