use Rattle.std.proofs.Common.{◌≡◌, ◌∙◌, sym, ap, subst, ◌+◌, ◌-◌, ◌/◌, ◌≤◌, ◌++◌, length, arith, List, ℕ}
use Rattle.std.specs.List.{concat}
use Rattle.std.proofs.lemmas.List.{length-append}
use Rattle.su_node.specs.InodeChange.{with_size}
use Rattle.su_node.specs.Cost.{blocks_grown}
use Rattle.su_node.specs.Stored.{AreBlocksOf, AreZeroBlocks, with_padded}
use Rattle.su_node.proofs.Contents.{stored, concat_blocks, count_is, grown_blocks, length-with_size, padded_before}
use Rattle.su_node.proofs.Costs.{cost_both}
use Rattle.su_node.proofs.blocks.Blocks.grow.Goals as goal

-- the blocks after others were put behind them and their last one was filled
grown : (blocks added longer new : List (List ℕ)) (bs : List ℕ) (t count : ℕ) → concat blocks ≡ bs → AreBlocksOf blocks (concat blocks) → length bs ≤ t
    → count ≡ length blocks → length added ≡ (t + 4095) / 4096 - count → AreZeroBlocks added count t → longer ≡ blocks ++ added → new ≡ with_padded count t longer
    → AreBlocksOf new (with_size t bs)
grown blocks added longer new bs t count e are le count_is added_is zeros longer_is new_is =
    grown_blocks blocks new added bs t (subst (AreBlocksOf blocks) e are) le (added_is ∙ ap (λ n. (t + 4095) / 4096 - n) count_is) (subst (λ n. AreZeroBlocks added n t) count_is zeros)
    (new_is ∙ (λ i. with_padded (count_is i) t (longer_is i)) ∙ padded_before t blocks added)

pub append-requires : goal.append-requires
append-requires c =
    let l = count_is c.self.inside.blocks c.args.self.now (subst (AreBlocksOf c.self.inside.blocks) c.self.view_is c.self.invariant.blocks_of) in
    omega (arith, l, c.in_ok-added.ensures.count, c.len-count.ensures, c.requires)

pub pad-requires : goal.pad-requires
pad-requires c =
    let l = count_is c.self.inside.blocks c.args.self.now (subst (AreBlocksOf c.self.inside.blocks) c.self.view_is c.self.invariant.blocks_of) in
    let n = ap length c.in_ok-appended.ensures.ok ∙ length-append c.self.inside.blocks c.in_ok-added.added.items in
    record { there = omega (arith, n, c.len-count.ensures); within = omega (arith, l, c.len-count.ensures, c.requires) }

pub invariant_of-self-2 : goal.invariant_of-self-2
invariant_of-self-2 c =
    stored c.pad.new.blocks _ _ (grown c.self.inside.blocks c.in_ok-added.added.items c.append.new.self c.pad.new.blocks c.args.self.now c.args.size c.len-count.result
    c.self.view_is c.self.invariant.blocks_of c.requires c.len-count.ensures c.in_ok-added.ensures.count c.in_ok-added.ensures.zeros c.in_ok-appended.ensures.ok c.in-Ok.ensures.ok)
    (sym (length-with_size c.args.size c.args.self.now))

pub returns-clause-ok : goal.returns-clause-ok
returns-clause-ok c =
    concat_blocks c.pad.new.blocks _ (grown c.self.inside.blocks c.in_ok-added.added.items c.append.new.self c.pad.new.blocks c.args.self.now c.args.size c.len-count.result
    c.self.view_is c.self.invariant.blocks_of c.requires c.len-count.ensures c.in_ok-added.ensures.count c.in_ok-added.ensures.zeros c.in_ok-appended.ensures.ok c.in-Ok.ensures.ok)

pub returns-clause-hashes : goal.returns-clause-hashes
returns-clause-hashes c = λ bits small.
    let l = count_is c.self.inside.blocks c.args.self.now (subst (AreBlocksOf c.self.inside.blocks) c.self.view_is c.self.invariant.blocks_of) in
    let added = c.in_ok-added.ensures.count in
    let longer = ap length c.in_ok-appended.ensures.ok ∙ length-append c.self.inside.blocks c.in_ok-added.added.items in
    let appended = c.in_ok-appended.ensures.hashes bits (omega (arith, l, added, c.len-count.ensures, c.requires, small)) in
    let padded = c.in-Ok.ensures.hashes bits (omega (arith, l, added, longer, c.len-count.ensures, c.requires, small)) in
    cost_both (bits + 2) (length c.in_ok-added.added.items) 1 (blocks_grown (length c.args.self.now) c.args.size) c.in_ok-appended.appended c.in-Ok.made c.saturating_add.result
    (omega (arith, l, added, c.len-count.ensures)) appended padded (omega (arith, c.saturating_add.ensures))
