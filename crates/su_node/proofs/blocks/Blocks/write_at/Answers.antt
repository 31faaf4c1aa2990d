use Rattle.std.proofs.Common.{◌≡◌, ℕ, ◌∙◌, refl, ap, arith, ◌+◌, length, ◌≤◌, ◌<◌}
use Rattle.std.proofs.lemmas.Bool.Decides.{nat_tests}
use Rattle.su_node.specs.InodeChange.{with_bytes_at}
use Rattle.su_node.specs.Cost.{blocks_grown, blocks_touched, hashes_of_blocks, hashes_of_write}
use Rattle.su_node.proofs.Costs.{cost_both}
use Rattle.su_node.proofs.Contents.{written_grown, length-with_size}
use Rattle.su_node.proofs.blocks.Blocks.write_at.Goals.{then-self-end_+in_ok-grown, else-self-end_}
use Rattle.su_node.proofs.blocks.Blocks.write_at.Goals as goal

pub overwrite-written-requires : goal.overwrite-written-requires
overwrite-written-requires c =
    let size = c.self.invariant.size_of ∙ ap length c.self.view_is in
    elim c.if-self-end_.branch [
      | then-self-end_+in_ok-grown w ↦
          let l = ap length (w.self-is ∙ w.in_ok-grown.ensures.ok) ∙ length-with_size (c.args.off + length c.args.bytes.now) c.args.self.now in
          omega (arith, l)
      | else-self-end_ w ↦ let l = ap length w.self-is in omega (arith, l, size, w.if-self-end_.false)
    ]

pub returns-clause-ok : goal.returns-clause-ok
returns-clause-ok c =
    let size = c.self.invariant.size_of ∙ ap length c.self.view_is in
    c.overwrite-written.ensures.value ∙ elim c.if-self-end_.branch [
      | then-self-end_+in_ok-grown w ↦
          ap (with_bytes_at c.args.off c.args.bytes.now) (w.self-is ∙ w.in_ok-grown.ensures.ok)
          ∙ written_grown c.args.off c.args.bytes.now c.args.self.now (omega (arith, size, w.if-self-end_.true))
      | else-self-end_ w ↦ ap (with_bytes_at c.args.off c.args.bytes.now) w.self-is
    ]

-- what a write costs that makes the file longer
cost_grown : (bits size off len : ℕ) → size < off + len → hashes_of_write bits size off len ≡ hashes_of_blocks bits (blocks_grown size (off + len) + blocks_touched off len)
cost_grown bits size off len h = grind (arith, nat_tests)

-- what a write costs within the file
cost_within : (bits size off len : ℕ) → off + len ≤ size → hashes_of_write bits size off len ≡ hashes_of_blocks bits (blocks_touched off len)
cost_within bits size off len h = grind (arith, nat_tests)

pub returns-clause-hashes : goal.returns-clause-hashes
returns-clause-hashes c = λ bits small still.
    let size = c.self.invariant.size_of ∙ ap length c.self.view_is in
    elim c.if-self-end_.branch [
      | then-self-end_+in_ok-grown w ↦
          let l = ap length (w.self-is ∙ w.in_ok-grown.ensures.ok) ∙ length-with_size (c.args.off + length c.args.bytes.now) c.args.self.now in
          let cost = cost_grown bits (length c.args.self.now) c.args.off (length c.args.bytes.now) (omega (arith, size, w.if-self-end_.true)) in
          let both = cost_both (bits + 2) (blocks_grown (length c.args.self.now) (c.args.off + length c.args.bytes.now)) (blocks_touched c.args.off (length c.args.bytes.now)) _ w.in_ok-grown.grown c.overwrite-written.result c.saturating_add.result
          refl (w.in_ok-grown.ensures.hashes bits still) (c.overwrite-written.ensures.hashes bits (omega (arith, l, still))) (omega (arith, w.grown-is, c.saturating_add.ensures)) in
          omega (arith, cost, both)
      | else-self-end_ w ↦
          let l = ap length w.self-is in
          let cost = cost_within bits (length c.args.self.now) c.args.off (length c.args.bytes.now) (omega (arith, size, w.if-self-end_.false)) in
          omega (arith, cost, c.overwrite-written.ensures.hashes bits (omega (arith, l, small)), w.grown-is, c.saturating_add.ensures)
    ]
