use Rattle.std.proofs.Common.{◌≡◌, ◌+◌, ◌-◌, ◌*◌, ◌/◌, ◌<◌, ◌≤◌, sym, refl, ap, subst, arith, length, take, set, get_or, [], List, ℕ}
use Rattle.su_node.specs.InodeChange.{with_size}
use Rattle.std.specs.List.{concat}
use Rattle.std.proofs.lemmas.List.{length-take}
use Rattle.su_node.specs.Stored.{AreBlocksOf}
use Rattle.su_node.proofs.Contents.{stored, concat_blocks, count_is, cut_is, cut_to_none, length-with_size}
use Rattle.su_node.proofs.blocks.Blocks.cut.Goals.{then-count-gt0, else-count-gt0}
use Rattle.su_node.proofs.blocks.Blocks.cut.Goals as goal

-- the blocks of what the file is seen as
seen : (blocks : List (List ℕ)) (bs : List ℕ) → concat blocks ≡ bs → AreBlocksOf blocks (concat blocks) → AreBlocksOf blocks bs
seen blocks bs e are = subst (AreBlocksOf blocks) e are

-- the blocks after the last of those that are left was cut
last_cut : (blocks kept new : List (List ℕ)) (bs : List ℕ) (t c : ℕ) → AreBlocksOf blocks bs → t ≤ length bs → c ≡ (t + 4095) / 4096 → kept ≡ take c blocks → 0 < c
    → new ≡ set kept (c - 1) (take (t - (c - 1) * 4096) (get_or kept (c - 1) [])) → AreBlocksOf new (with_size t bs)
last_cut blocks kept new bs t c are le c_is kept_is some new_is =
    subst (λ ys. AreBlocksOf ys (with_size t bs)) (sym new_is) (cut_is blocks kept bs t c _ are le c_is kept_is some refl)

pub cut-requires : goal.cut-requires
cut-requires c =
    let l = count_is c.self.inside.blocks c.args.self.now (seen _ _ c.self.view_is c.self.invariant.blocks_of) in
    let t = length-take c.count_for-count.result c.self.inside.blocks in
    let n = ap length c.truncate.ensures in
    omega (arith, l, t, n, c.if-count-gt0.true, c.count_for-count.ensures, c.requires)

pub invariant_of-self : goal.invariant_of-self
invariant_of-self c =
    let are = seen _ _ c.self.view_is c.self.invariant.blocks_of in
    elim c.if-count-gt0.branch [
      | then-count-gt0 w ↦ rw w.self-inside-is (stored _ _ _ (last_cut c.self.inside.blocks c.truncate.new.self w.cut.new.self c.args.self.now c.args.size c.count_for-count.result are c.requires c.count_for-count.ensures c.truncate.ensures w.if-count-gt0.true w.cut.ensures) (sym (length-with_size c.args.size c.args.self.now)))
      | else-count-gt0 w ↦ rw w.self-inside-is (stored _ _ _ (cut_to_none c.self.inside.blocks c.truncate.new.self c.args.self.now c.args.size c.count_for-count.result are c.requires c.count_for-count.ensures c.truncate.ensures w.if-count-gt0.false) (sym (length-with_size c.args.size c.args.self.now)))
    ]

pub returns : goal.returns
returns c =
    let are = seen _ _ c.self.view_is c.self.invariant.blocks_of in
    elim c.if-count-gt0.branch [
      | then-count-gt0 w ↦ rw w.self-inside-is (concat_blocks _ _ (last_cut c.self.inside.blocks c.truncate.new.self w.cut.new.self c.args.self.now c.args.size c.count_for-count.result are c.requires c.count_for-count.ensures c.truncate.ensures w.if-count-gt0.true w.cut.ensures))
      | else-count-gt0 w ↦ rw w.self-inside-is (concat_blocks _ _ (cut_to_none c.self.inside.blocks c.truncate.new.self c.args.self.now c.args.size c.count_for-count.result are c.requires c.count_for-count.ensures c.truncate.ensures w.if-count-gt0.false))
    ]
