use Rattle.std.proofs.Common.{◌≡◌, ◌∙◌, ◌⊎◌, true, false, inl, inr, ap, sym}
use Rattle.std.specs.Prelude.{Err}
use Rattle.std.proofs.lemmas.Result.{err_from_is_err_and}
use Rattle.su_block.specs.Item.{is_item}
use Rattle.su_bytes.specs.declared.refusals.Refusal.TheVariants.{NoMemory, SourceFailed, TooBig}
use Rattle.su_part.specs.Sheds.{own_item}
use Rattle.su_part.proofs.LoadLemmas.{err_of}
use Rattle.su_part.proofs.ShedLemmas.{nothing_put, put_refused}
use Rattle.su_part.proofs.ShedParts.{inode_hashed}
use Rattle.su_part.proofs.inodes.PartInode.put_own.Goals as goal

pub returns-in_err-item-clause-sheds : goal.returns-in_err-item-clause-sheds
returns-in_err-item-clause-sheds g c =
    let p = err_from_is_err_and c.from_residual.result c.from_residual.ensures.1 in
    nothing_put c.args.self.now c.args.source.now p.0 c.from_residual.result p.1 p.2 (inode_hashed c.args.self.now) (g.met.S.BlockSource.follows_itself c.args.source.now)

pub returns-in_err-put-clause-sheds : goal.returns-in_err-put-clause-sheds
returns-in_err-put-clause-sheds g c =
    let p = err_from_is_err_and c.from_residual-in_err-put.result c.from_residual-in_err-put.ensures.1 in
    let is : c.put.result ≡ Err p.0 = cc (c.in_err-put.was, p.2) in
    put_refused c.args.self.now c.args.source.now c.put.new.self c.as_slice.result.now p.0 c.put.result c.from_residual-in_err-put.result is p.1
    (inl (c.as_slice.ensures.value ∙ c.in_ok-item.ensures.value)) (inode_hashed c.args.self.now)
    (λ big. absurd (let z : true ≡ false = sym c.in_ok-item.ensures.size ∙ ap is_item (sym c.as_slice.ensures.value) ∙ c.put.ensures.too_big.0 (is ∙ ap Err big) in cc))
    (err_of c.put.result p.0 (λ e. (e ≡ TooBig) ⊎ (e ≡ SourceFailed) ⊎ (e ≡ NoMemory)) is c.put.ensures.refused)
    c.in_err-put.ensures.err c.put.ensures.counted c.put.ensures.follows

pub returns-clause-sheds : goal.returns-clause-sheds
returns-clause-sheds g c =
    let item : c.as_slice.result.now ≡ own_item c.args.self.now = c.as_slice.ensures.value ∙ c.in_ok-item.ensures.value in
    record {
      stands = λ x h. h;
      no_new = λ i own. own;
      not_lost = λ i own. inr own;
      more = λ i m. elim (c.in_ok-put.ensures.more i m) [ inl y ↦ inl y | inr is ↦ inr (inl (is ∙ item)) ];
      hashed = inode_hashed c.args.self.now;
      failed = λ x h. tt;
      refused = tt;
      follows = c.put.ensures.follows;
    }

pub returns-clause-put : goal.returns-clause-put
returns-clause-put g c =
    let item : c.as_slice.result.now ≡ own_item c.args.self.now = c.as_slice.ensures.value ∙ c.in_ok-item.ensures.value in
    rw (← item) (record {
      before = c.args.source.now;
      after = c.put.new.self;
      comes = g.met.S.BlockSource.follows_itself c.args.source.now;
      takes = c.in_ok-put.ensures.puts;
      goes_on = g.met.S.BlockSource.follows_itself c.put.new.self;
    })
