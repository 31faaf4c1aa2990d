use Rattle.std.proofs.Common.{◌≡◌, ◌∙◌, ◌<◌, inl, inr, sym, ap, subst, arith, map, Some, refl, length}
use Rattle.std.proofs.lemmas.Result.{err_from_is_err_and}
use Rattle.std.specs.List.{range_with_len}
use Rattle.sha2.specs.Sha256.{sha256}
use Rattle.su_node.specs.Digest.{block_item, block_count}
use Rattle.su_node.specs.Field.{block}
use Rattle.su_node.proofs.Contents.{length-block}
use Rattle.su_part_tree.specs.Putting.{Took}
use Rattle.su_left_blocks.proofs.PutLemmas.{more_among, one_digest_more, spread}
use Rattle.su_left_blocks.proofs.puts.put_blocks.Goals as goal

pub loop-number-init : goal.loop-number-init
loop-number-init g c = record {
  digests = c.new-digests.ensures.items;
  put = λ s among. absurd (omega (arith, among.1));
  more = λ s m. inl m;
  follows = g.met.S.BlockSource.follows_itself c.args.source.now;
}

pub block_at-requires : goal.block_at-requires
block_at-requires g c = omega arith

pub put_block-requires : goal.put_block-requires
put_block-requires g c =
    let l = length-block c.loop-number.number c.args.bytes.now in
    let e = ap length c.block_at.ensures in
    omega (arith, l, e)

pub loop-number-preserved : goal.loop-number-preserved
loop-number-preserved g c =
    let n = c.loop-number.number in
    let bytes = c.args.bytes.now in
    let l = c.loop-number.invariant in
    let s0 = c.args.source.now in
    let s1 = c.loop-number.source in
    let s2 = c.put_block.new.source in
    let on = g.met.S.BlockSource.follows_on in
    let at = c.block_at.ensures in
    let digest = c.in_ok-digest.ensures.digest ∙ ap (λ x. sha256 (block_item x)) at in
    record {
      digests = one_digest_more bytes n c.loop-number.digests.items c.push.new.self.items c.in_ok-digest.digest c.in_ok-push.ensures.items l.digests digest;
      put = λ s among. spread g.S.BlockSource.follows g.S.BlockSource.puts on s0 s1 s2 bytes n s l.follows c.put_block.ensures.follows l.put
          (subst (λ x. Took g.S.BlockSource.follows g.S.BlockSource.puts s1 s2 (block_item x)) at c.in_ok-digest.ensures.put) among;
      more = λ s m. elim (c.put_block.ensures.more s m) [
        | inl before ↦ elim (l.more s before) [ inl x ↦ inl x | inr among ↦ inr (more_among bytes n s (inl among)) ]
        | inr is ↦ inr (more_among bytes n s (inr (is ∙ ap block_item at)))
      ];
      follows = on s0 s1 s2 l.follows c.put_block.ensures.follows;
    }

pub returns-clause-digests : goal.returns-clause-digests
returns-clause-digests g c =
    let last = c.loop-number.auto.number-end in
    let all : c.loop-number.number ≡ block_count (length c.args.bytes.now) = omega (arith, last, c.loop-number-test.false) in
    c.loop-number.invariant.digests ∙ ap (λ k. map (λ n. sha256 (block_item (block n c.args.bytes.now))) (range_with_len 0 k)) all

pub returns-clause-put : goal.returns-clause-put
returns-clause-put g c s item =
    let last = c.loop-number.auto.number-end in
    let all : c.loop-number.number ≡ block_count (length c.args.bytes.now) = omega (arith, last, c.loop-number-test.false) in
    c.loop-number.invariant.put s (item.0, subst (λ k. item.0 < k) (sym all) item.1, item.2)

pub returns-clause-more : goal.returns-clause-more
returns-clause-more g c s m =
    let last = c.loop-number.auto.number-end in
    let all : c.loop-number.number ≡ block_count (length c.args.bytes.now) = omega (arith, last, c.loop-number-test.false) in
    elim (c.loop-number.invariant.more s m) [ inl x ↦ inl x | inr a ↦ inr (a.0, subst (λ k. a.0 < k) all a.1, a.2) ]

pub returns-in_err-digest-clause-more : goal.returns-in_err-digest-clause-more
returns-in_err-digest-clause-more g c s m =
    let n = c.loop-number.number in
    let few : n < block_count (length c.args.bytes.now) = omega (arith, c.loop-number-test.true) in
    elim (c.put_block.ensures.more s m) [
      | inl before ↦ elim (c.loop-number.invariant.more s before) [ inl x ↦ inl x | inr a ↦ inr (a.0, omega (arith, a.1, few), a.2) ]
      | inr is ↦ inr (n, few, is ∙ ap block_item c.block_at.ensures)
    ]

pub returns-in_err-digest-clause-failed : goal.returns-in_err-digest-clause-failed
returns-in_err-digest-clause-failed g c =
    let n = c.loop-number.number in
    let few : n < block_count (length c.args.bytes.now) = omega (arith, c.loop-number-test.true) in
    let p = err_from_is_err_and c.from_residual.result c.from_residual.ensures.1 in
    rw p.1 (λ failure. (block_item (block n c.args.bytes.now), (n, few, refl), c.in_err-digest.ensures.failed (rw (← p.2) failure) ∙ ap (λ x. Some (sha256 (block_item x))) c.block_at.ensures))
