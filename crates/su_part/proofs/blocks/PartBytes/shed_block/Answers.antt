use Rattle.std.proofs.Common.{◌≡◌, ◌∙◌, ◌⊎◌, true, false, inl, inr, ap, refl, sym}
use Rattle.std.specs.Prelude.{Err, None}
use Rattle.std.proofs.lemmas.Result.{err_from_is_err_and}
use Rattle.su_block.specs.Item.{is_item}
use Rattle.su_bytes.specs.declared.refusals.Refusal.TheVariants.{NoMemory, SourceFailed, TooBig}
use Rattle.su_node.specs.Digest.{block_item}
use Rattle.su_part_tree.specs.Putting.{Took}
use Rattle.su_part.specs.Bytes.{IsBlockOf, loaded_block}
use Rattle.su_part.proofs.LoadLemmas.{err_of}
use Rattle.su_part.proofs.Numbers.{updated}
use Rattle.su_part.proofs.ShedLemmas.{bytes_hashed, left_or, none_new, nothing_put, put_refused, some_of}
use Rattle.su_part.proofs.blocks.PartBytes.shed_block.Goals as goal

pub returns-in_err-item-clause-sheds : goal.returns-in_err-item-clause-sheds
returns-in_err-item-clause-sheds g c =
    let p = err_from_is_err_and c.from_residual.result c.from_residual.ensures.1 in
    nothing_put c.args.self.now c.args.source.now p.0 c.from_residual.result p.1 p.2 (bytes_hashed c.args.self.now) (g.met.S.BlockSource.follows_itself c.args.source.now)

pub returns-in_err-put-clause-sheds : goal.returns-in_err-put-clause-sheds
returns-in_err-put-clause-sheds g c =
    let p = err_from_is_err_and c.from_residual-in_err-put.result c.from_residual-in_err-put.ensures.1 in
    let is : c.put.result ≡ Err p.0 = cc (c.in_err-put.was, p.2) in
    let some = some_of (loaded_block c.args.self.now c.args.number) c.requires in
    put_refused c.args.self.now c.args.source.now c.put.new.self c.as_slice.result.now p.0 c.put.result c.from_residual-in_err-put.result is p.1
    (inr (c.args.number, some.0, some.1, c.as_slice.ensures.value ∙ c.in_ok-item.ensures.value some.0 some.1)) (bytes_hashed c.args.self.now)
    (λ big. absurd (let z : true ≡ false = sym c.in_ok-item.ensures.size ∙ ap is_item (sym c.as_slice.ensures.value) ∙ c.put.ensures.too_big.0 (is ∙ ap Err big) in cc))
    (err_of c.put.result p.0 (λ e. (e ≡ TooBig) ⊎ (e ≡ SourceFailed) ⊎ (e ≡ NoMemory)) is c.put.ensures.refused)
    c.in_err-put.ensures.err c.put.ensures.counted c.put.ensures.follows

pub returns-clause-sheds : goal.returns-clause-sheds
returns-clause-sheds g c =
    let some = some_of (loaded_block c.args.self.now c.args.number) c.requires in
    let item : c.as_slice.result.now ≡ block_item some.0 = c.as_slice.ensures.value ∙ c.in_ok-item.ensures.value some.0 some.1 in
    let took : Took g.S.BlockSource.follows g.S.BlockSource.puts c.args.source.now c.put.new.self (block_item some.0) = rw (← item) (record {
      before = c.args.source.now;
      after = c.put.new.self;
      comes = g.met.S.BlockSource.follows_itself c.args.source.now;
      takes = c.in_ok-put.ensures.puts;
      goes_on = g.met.S.BlockSource.follows_itself c.put.new.self;
    }) in
    record {
      stands = λ bs h. record {
        size = h.size;
        digests = h.digests;
        blocks = updated (IsBlockOf bs) c.args.self.now.blocks.entries c.remove.new.self.entries c.args.number None c.remove.ensures.updates.0 h.blocks tt;
      };
      no_new = none_new c.args.self.now (record { size = c.args.self.now.size; digests = c.args.self.now.digests; blocks = c.remove.new.self; alloc = c.args.self.now.alloc }) c.args.number some.0 refl some.1 c.remove.ensures.updates.0;
      not_lost = λ i own. left_or c.args.self.now (record { size = c.args.self.now.size; digests = c.args.self.now.digests; blocks = c.remove.new.self; alloc = c.args.self.now.alloc }) c.args.number some.0 refl some.1 c.remove.ensures.updates.0 _ i (λ is. rw is took) own;
      more = λ i m. elim (c.in_ok-put.ensures.more i m) [ inl y ↦ inl y | inr is ↦ inr (inr (c.args.number, some.0, some.1, is ∙ item)) ];
      hashed = bytes_hashed c.args.self.now;
      failed = λ bs h. tt;
      refused = tt;
      follows = c.put.ensures.follows;
    }
