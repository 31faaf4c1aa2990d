use Rattle.std.proofs.Common.{◌∙◌, ◌||◌, sym, ap}
use Rattle.su_op.specs.Area.{in_area, has}
use Rattle.su_inverse.specs.Kept.{blocks_area}
use Rattle.su_part_inverse.specs.Kept.{kept_area, inverse_areas, runs, runs_of}
use Rattle.su_part_inverse.proofs.AreaLists.{all_areas, push_inode, push_return, push_size, push_reset, push_blocks}
use Rattle.su_part_inverse.proofs.inverses.Inverse.add.Goals.{in-Inode+in_ok-push-in-Inode, in-Return+in_ok-push-in-Return, in-Size+in_ok-push-in-Size, in-Reset+in_ok-push-in-Reset, in-Blocks+in_ok-push-in-Blocks}
use Rattle.su_part_inverse.proofs.inverses.Inverse.add.Goals as goal

pub returns-clause-areas : goal.returns-clause-areas
returns-clause-areas c = elim c.match-kept.branch [
  | in-Inode+in_ok-push-in-Inode w ↦
      let i = c.args.self.now in
      λ x. ap (λ j. has (inverse_areas j) x) w.self-is ∙ ap (λ xs. has (all_areas xs i.returns.items i.sizes.items i.resets.items (runs i)) x) w.in_ok-push-in-Inode.ensures.items
      ∙ push_inode i.inodes.items i.returns.items i.sizes.items i.resets.items (runs i) x w.in-Inode.item ∙ ap (λ k. has (inverse_areas i) x || in_area (kept_area k) x) (sym w.in-Inode.is)
  | in-Return+in_ok-push-in-Return w ↦
      let i = c.args.self.now in
      λ x. ap (λ j. has (inverse_areas j) x) w.self-is ∙ ap (λ xs. has (all_areas i.inodes.items xs i.sizes.items i.resets.items (runs i)) x) w.in_ok-push-in-Return.ensures.items
      ∙ push_return i.inodes.items i.returns.items i.sizes.items i.resets.items (runs i) x w.in-Return.item ∙ ap (λ k. has (inverse_areas i) x || in_area (kept_area k) x) (sym w.in-Return.is)
  | in-Size+in_ok-push-in-Size w ↦
      let i = c.args.self.now in
      λ x. ap (λ j. has (inverse_areas j) x) w.self-is ∙ ap (λ xs. has (all_areas i.inodes.items i.returns.items xs i.resets.items (runs i)) x) w.in_ok-push-in-Size.ensures.items
      ∙ push_size i.inodes.items i.returns.items i.sizes.items i.resets.items (runs i) x w.in-Size.item ∙ ap (λ k. has (inverse_areas i) x || in_area (kept_area k) x) (sym w.in-Size.is)
  | in-Reset+in_ok-push-in-Reset w ↦
      let i = c.args.self.now in
      λ x. ap (λ j. has (inverse_areas j) x) w.self-is ∙ ap (λ xs. has (all_areas i.inodes.items i.returns.items i.sizes.items xs (runs i)) x) w.in_ok-push-in-Reset.ensures.items
      ∙ push_reset i.inodes.items i.returns.items i.sizes.items i.resets.items (runs i) x w.in-Reset.item ∙ ap (λ k. has (inverse_areas i) x || in_area (kept_area k) x) (sym w.in-Reset.is)
  | in-Blocks+in_ok-push-in-Blocks w ↦
      let i = c.args.self.now in
      let here = ap (λ o. (runs_of o i.blocks).items) c.requires in
      λ x. ap (λ j. has (inverse_areas j) x) w.self-is
      ∙ ap (λ o. has (all_areas i.inodes.items i.returns.items i.sizes.items i.resets.items (runs_of o w.push-in-Blocks.new.self).items) x) c.requires
      ∙ ap (λ xs. has (all_areas i.inodes.items i.returns.items i.sizes.items i.resets.items xs) x) w.in_ok-push-in-Blocks.ensures.items
      ∙ push_blocks i.inodes.items i.returns.items i.sizes.items i.resets.items i.blocks.items x w.in-Blocks.item
      ∙ ap (λ bs. has (all_areas i.inodes.items i.returns.items i.sizes.items i.resets.items bs) x || in_area (blocks_area w.in-Blocks.item) x) (sym here)
      ∙ ap (λ k. has (inverse_areas i) x || in_area (kept_area k) x) (sym w.in-Blocks.is)
]
