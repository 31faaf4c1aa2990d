use Rattle.std.proofs.Common.{◌∙◌, ◌++◌, ◌∷◌, [], inl, inr, sym, ap, subst, take}
use Rattle.std.proofs.lemmas.List.{take_more}
use Rattle.su_left_blocks.specs.Left.{IsItemOf}
use Rattle.su_part_inverse.proofs.lefts.leave_all.Goals as goal

pub loop-run-preserved : goal.loop-run-preserved
loop-run-preserved g c =
    let l = c.loop-run in
    let all = c.args.kept.now in
    let item = c.run-item.result in
    let more = take_more all l.run-index item c.loop-run-test.true ∙ ap (λ x. take l.run-index all ++ x ∷ []) (sym c.run-item.is) in
    record {
      value = c.in_ok-push.ensures.items ∙ ap (λ x. l.all.items ++ x ∷ []) c.new.ensures ∙ ap (λ xs. xs ++ item ∷ []) l.invariant.value ∙ sym more;
      more = λ i gives. elim (c.put_blocks.ensures.more i gives) [
        | inl before ↦ l.invariant.more i before
        | inr of ↦ inr (item, (l.run-index, c.loop-run-test.true, sym c.run-item.is), subst (λ xs. IsItemOf xs i) c.as_slice.ensures.value of)
      ];
      follows = g.met.S.BlockSource.follows_on c.args.source.now l.source c.put_blocks.new.source l.invariant.follows c.put_blocks.ensures.follows;
    }

pub returns-in_err-digests-clause-more : goal.returns-in_err-digests-clause-more
returns-in_err-digests-clause-more g c i gives =
    let l = c.loop-run in
    elim (c.put_blocks.ensures.more i gives) [
      | inl before ↦ l.invariant.more i before
      | inr of ↦ inr (c.run-item.result, (l.run-index, c.loop-run-test.true, sym c.run-item.is), subst (λ xs. IsItemOf xs i) c.as_slice.ensures.value of)
    ]

pub returns-in_err-push-clause-more : goal.returns-in_err-push-clause-more
returns-in_err-push-clause-more g c i gives =
    let l = c.loop-run in
    elim (c.put_blocks.ensures.more i gives) [
      | inl before ↦ l.invariant.more i before
      | inr of ↦ inr (c.run-item.result, (l.run-index, c.loop-run-test.true, sym c.run-item.is), subst (λ xs. IsItemOf xs i) c.as_slice.ensures.value of)
    ]
