use Rattle.std.proofs.Common.{◌≡◌, ◌∙◌, true, false, inl, inr, ap, sym, subst}
use Rattle.std.specs.Prelude.{IfErr, IfOk, IsTrue, Some}
use Rattle.sha2.specs.Sha256.{sha256}
use Rattle.su_block.specs.Failure.{is_failure}
use Rattle.su_block.specs.Item.{is_item}
use Rattle.su_node.specs.Digest.{block_item}
use Rattle.su_left_blocks.proofs.PutLemmas.{failed_put, not_big, on_ok}
use Rattle.su_left_blocks.proofs.puts.put_block.Goals as goal

pub returns-in_err-item-clause-follows : goal.returns-in_err-item-clause-follows
returns-in_err-item-clause-follows g c = g.met.S.BlockSource.follows_itself c.args.source.now

pub returns-clause-digest : goal.returns-clause-digest
returns-clause-digest g c =
    let item : c.as_slice.result.now ≡ block_item c.args.block.now = c.as_slice.ensures.value ∙ c.in_ok-item.ensures.value in
    subst (λ i. IfOk c.put.result (λ digest. digest ≡ sha256 i)) item c.put.ensures.digest

pub returns-clause-put : goal.returns-clause-put
returns-clause-put g c =
    let item : c.as_slice.result.now ≡ block_item c.args.block.now = c.as_slice.ensures.value ∙ c.in_ok-item.ensures.value in
    on_ok c.put.result (λ puts. rw (← item) (record {
      before = c.args.source.now;
      after = c.put.new.self;
      comes = g.met.S.BlockSource.follows_itself c.args.source.now;
      takes = puts;
      goes_on = g.met.S.BlockSource.follows_itself c.put.new.self;
    })) c.put.ensures.puts

pub returns-clause-more : goal.returns-clause-more
returns-clause-more g c s m =
    let item : c.as_slice.result.now ≡ block_item c.args.block.now = c.as_slice.ensures.value ∙ c.in_ok-item.ensures.value in
    elim (c.put.ensures.more s m) [ inl x ↦ inl x | inr is ↦ inr (is ∙ item) ]

pub returns-clause-failed : goal.returns-clause-failed
returns-clause-failed g c =
    let item : c.as_slice.result.now ≡ block_item c.args.block.now = c.as_slice.ensures.value ∙ c.in_ok-item.ensures.value in
    let failed = g.S.BlockSource.failed in
    subst (λ i. IfErr c.put.result (λ e. IsTrue (is_failure e) → (failed c.put.new.self).last ≡ Some (sha256 i))) item
    (failed_put c.put.result (sha256 c.as_slice.result.now) (failed c.args.source.now) (failed c.put.new.self) c.put.ensures.counted)

pub returns-clause-refused : goal.returns-clause-refused
returns-clause-refused g c =
    not_big c.put.result (λ big. absurd (let z : true ≡ false = sym c.in_ok-item.ensures.size ∙ ap is_item (sym c.as_slice.ensures.value) ∙ c.put.ensures.too_big.0 big in cc)) c.put.ensures.refused
