use Rattle.std.proofs.Common.{◌∙◌, ◌⊎◌, ℕ, List, not, sym, ap, subst}
use Rattle.std.specs.Prelude.{Ok}
use Rattle.std.proofs.lemmas.Result.{err_from_is_err_and}
use Rattle.su_inverse.specs.declared.contents.KeptBlocks.{KeptBlocks}
use Rattle.su_part_inverse.specs.Lefts.{IsItemOfOne, Leaves}
use Rattle.su_part_inverse.specs.declared.inverses.Inverse.{Inverse}
use Rattle.su_part_inverse.proofs.Answering.{not_some}
use Rattle.su_part_inverse.proofs.LeaveLemmas.{blocks_left, blocks_stay, leaves_none}
use Rattle.su_part_inverse.proofs.inverses.Inverse.leave_blocks.Goals.{then-is_none+then-not-is_empty+in_ok-left, else-is_none}
use Rattle.su_part_inverse.proofs.inverses.Inverse.leave_blocks.Goals as goal

pub returns-in_err-left : goal.returns-in_err-left
returns-in_err-left g c =
    let p = err_from_is_err_and c.from_residual.result c.from_residual.ensures.1 in
    let more = subst (λ (ks : List KeptBlocks). (x : List ℕ) → g.S.BlockSource.may_give c.leave_all.new.source x → g.S.BlockSource.may_give c.args.source.now x ⊎ IsItemOfOne ks x) c.as_slice.ensures.value c.leave_all.ensures.more in
    record {
      leaves = blocks_stay c.args.self.now c.args.source.now c.leave_all.new.source c.from_residual.result (not_some c.args.self.now.left (c.is_none.ensures ∙ ap not c.if-is_none.true)) more
          (rw (p.1, p.2) c.in_err-left.ensures.refused) c.leave_all.ensures.follows;
    }

pub returns : goal.returns
returns g c = elim c.if-is_none.branch [
  | then-is_none+then-not-is_empty+in_ok-left w ↦
      let more = subst (λ (ks : List KeptBlocks). (x : List ℕ) → g.S.BlockSource.may_give w.leave_all.new.source x → g.S.BlockSource.may_give c.args.source.now x ⊎ IsItemOfOne ks x) w.as_slice.ensures.value w.leave_all.ensures.more in
      let all = blocks_left c.args.self.now c.args.source.now w.leave_all.new.source (Ok tt) (not_some c.args.self.now.left (c.is_none.ensures ∙ ap not w.if-is_none.true)) more tt w.leave_all.ensures.follows
      w.in_ok-left.left w.new.result (w.in_ok-left.ensures.value ∙ w.as_slice.ensures.value) in
      record {
        leaves = subst (λ (t : g.row.S.Denot). Leaves {A = Unit {0}} g.S.BlockSource.may_give g.S.BlockSource.follows c.args.self.now c.if-is_none.self c.args.source.now t (Ok tt)) (sym w.source-is)
            (subst (λ (j : Inverse). Leaves {A = Unit {0}} g.S.BlockSource.may_give g.S.BlockSource.follows c.args.self.now j c.args.source.now w.leave_all.new.source (Ok tt)) (sym w.self-is) all);
      }
  | else-is_none w ↦
      record {
        leaves = subst (λ (t : g.row.S.Denot). Leaves {A = Unit {0}} g.S.BlockSource.may_give g.S.BlockSource.follows c.args.self.now c.if-is_none.self c.args.source.now t (Ok tt)) (sym w.source-is)
            (subst (λ (j : Inverse). Leaves {A = Unit {0}} g.S.BlockSource.may_give g.S.BlockSource.follows c.args.self.now j c.args.source.now c.args.source.now (Ok tt)) (sym w.self-is)
            (leaves_none g.met.S.BlockSource.follows_itself c.args.self.now c.args.source.now tt));
      }
]
