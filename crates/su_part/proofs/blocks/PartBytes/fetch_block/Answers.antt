use Rattle.std.proofs.Common.{◌≡◌, refl, Some, sym, subst, arith}
use Rattle.std.specs.Prelude.{Ok, Err}
use Rattle.std.proofs.lemmas.Result.{err_from_is_err_and}
use Rattle.su_bytes.specs.declared.refusals.Refusal.TheVariants.{NoMemory}
use Rattle.su_node.specs.Digest.{block_digests}
use Rattle.su_part.specs.Bytes.{IsBlockOf}
use Rattle.su_part.proofs.Numbers.{found_at, updated}
use Rattle.su_part.proofs.BytesLemmas.{all_blocks_itself, all_blocks_on, all_with_block, all_with_path, block_found, no_digest}
use Rattle.su_part.proofs.LoadLemmas.{answered, err_is, handed_on, item_got, loads_on, none_got, none_stands}
use Rattle.su_part.proofs.FetchLemmas.{IsBlockItem, block_there, digests_loaded}
use Rattle.su_part.proofs.blocks.PartBytes.fetch_block.Goals as goal

pub returns-in_err-reach-clause-loads : goal.returns-in_err-reach-clause-loads
returns-in_err-reach-clause-loads g c =
    let p = err_from_is_err_and c.from_residual.result c.from_residual.ensures.1 in
    let is : c.reach.result ≡ Err p.0 = cc (c.in_err-reach.was, p.2) in
    handed_on p.0 is p.1 (digests_loaded g.S.BlockSource.may_give g.S.BlockSource.failed g.S.BlockSource.follows c.args.self.now c.reach.new.self c.args.source.now c.reach.new.source c.reach.result (record { stands = c.reach.ensures.stands; malformed = c.reach.ensures.malformed; failed = c.reach.ensures.failed; refused = c.reach.ensures.refused; keeps = c.reach.ensures.keeps; no_more = c.reach.ensures.no_more; follows = c.reach.ensures.follows }))

pub returns-then-from-start-clause-loads : goal.returns-then-from-start-clause-loads
returns-then-from-start-clause-loads g c = answered (Ok tt) tt (digests_loaded g.S.BlockSource.may_give g.S.BlockSource.failed g.S.BlockSource.follows c.args.self.now c.reach.new.self c.args.source.now c.reach.new.source c.reach.result (record { stands = c.reach.ensures.stands; malformed = c.reach.ensures.malformed; failed = c.reach.ensures.failed; refused = c.reach.ensures.refused; keeps = c.reach.ensures.keeps; no_more = c.reach.ensures.no_more; follows = c.reach.ensures.follows }))

pub returns-in-None-clause-loads : goal.returns-in-None-clause-loads
returns-in-None-clause-loads g c =
    loads_on all_blocks_on g.met.S.BlockSource.follows_on (digests_loaded g.S.BlockSource.may_give g.S.BlockSource.failed g.S.BlockSource.follows c.args.self.now c.reach.new.self c.args.source.now c.reach.new.source c.reach.result (record { stands = c.reach.ensures.stands; malformed = c.reach.ensures.malformed; failed = c.reach.ensures.failed; refused = c.reach.ensures.refused; keeps = c.reach.ensures.keeps; no_more = c.reach.ensures.no_more; follows = c.reach.ensures.follows }))
    (none_stands (record { size = c.args.self.now.size; digests = c.reach.new.self; blocks = c.args.self.now.blocks; alloc = c.args.self.now.alloc }) c.reach.new.source _ refl (all_blocks_itself (record { size = c.args.self.now.size; digests = c.reach.new.self; blocks = c.args.self.now.blocks; alloc = c.args.self.now.alloc }))
    (λ bs h. no_digest bs c.args.number c.reach.new.self h.digests (omega (arith, c.if-from-start.false, c.from.ensures, c.from-2.ensures, h.size)) (omega arith) (c.in-None.ensures (block_digests bs) h.digests))
    (g.met.S.BlockSource.follows_itself c.reach.new.source))

pub returns-in_err-block-clause-loads : goal.returns-in_err-block-clause-loads
returns-in_err-block-clause-loads g c =
    let p = err_from_is_err_and c.from_residual-in_err-block.result c.from_residual-in_err-block.ensures.1 in
    let is : c.get_block.result ≡ Err p.0 = cc (c.in_err-block.was, p.2) in
    loads_on all_blocks_on g.met.S.BlockSource.follows_on (digests_loaded g.S.BlockSource.may_give g.S.BlockSource.failed g.S.BlockSource.follows c.args.self.now c.reach.new.self c.args.source.now c.reach.new.source c.reach.result (record { stands = c.reach.ensures.stands; malformed = c.reach.ensures.malformed; failed = c.reach.ensures.failed; refused = c.reach.ensures.refused; keeps = c.reach.ensures.keeps; no_more = c.reach.ensures.no_more; follows = c.reach.ensures.follows }))
    (none_got (IsBlockItem c.args.number) (record { size = c.args.self.now.size; digests = c.reach.new.self; blocks = c.args.self.now.blocks; alloc = c.args.self.now.alloc }) (block_there c.args.number c.in-Some.digest.now (record { size = c.args.self.now.size; digests = c.reach.new.self; blocks = c.args.self.now.blocks; alloc = c.args.self.now.alloc }) (omega (arith, c.if-from-start.false, c.from.ensures, c.from-2.ensures)) (omega arith) c.in-Some.ensures) c.get_block.ensures p.0 is p.1 (all_blocks_itself (record { size = c.args.self.now.size; digests = c.reach.new.self; blocks = c.args.self.now.blocks; alloc = c.args.self.now.alloc })))

pub returns-in_err-insert-clause-loads : goal.returns-in_err-insert-clause-loads
returns-in_err-insert-clause-loads g c =
    let p = err_from_is_err_and c.from_residual-in_err-insert.result c.from_residual-in_err-insert.ensures.1 in
    loads_on all_blocks_on g.met.S.BlockSource.follows_on (digests_loaded g.S.BlockSource.may_give g.S.BlockSource.failed g.S.BlockSource.follows c.args.self.now c.reach.new.self c.args.source.now c.reach.new.source c.reach.result (record { stands = c.reach.ensures.stands; malformed = c.reach.ensures.malformed; failed = c.reach.ensures.failed; refused = c.reach.ensures.refused; keeps = c.reach.ensures.keeps; no_more = c.reach.ensures.no_more; follows = c.reach.ensures.follows }))
    (item_got (IsBlockItem c.args.number) (record { size = c.args.self.now.size; digests = c.reach.new.self; blocks = c.args.self.now.blocks; alloc = c.args.self.now.alloc }) (block_there c.args.number c.in-Some.digest.now (record { size = c.args.self.now.size; digests = c.reach.new.self; blocks = c.args.self.now.blocks; alloc = c.args.self.now.alloc }) (omega (arith, c.if-from-start.false, c.from.ensures, c.from-2.ensures)) (omega arith) c.in-Some.ensures) c.get_block.ensures
    (record { size = c.args.self.now.size; digests = c.reach.new.self; blocks = c.insert.new.self; alloc = c.args.self.now.alloc }) c.in_ok-block.block c.from_residual-in_err-insert.result c.in_ok-block.was (err_is c.from_residual-in_err-insert.result p.0 (λ e. e ≡ NoMemory) p.1 p.2)
    (all_with_path (record { size = c.args.self.now.size; digests = c.reach.new.self; blocks = c.args.self.now.blocks; alloc = c.args.self.now.alloc }) (record { size = c.args.self.now.size; digests = c.reach.new.self; blocks = c.insert.new.self; alloc = c.args.self.now.alloc }) refl (λ n h. h) c.in_err-insert.ensures.err)
    (λ bs h i is sp. record { size = h.size; digests = h.digests; blocks = λ n. subst (λ x. IsBlockOf bs n (found_at x n)) (sym c.in_err-insert.ensures.err) (h.blocks n) }))

pub returns-clause-loads : goal.returns-clause-loads
returns-clause-loads g c =
    loads_on all_blocks_on g.met.S.BlockSource.follows_on (digests_loaded g.S.BlockSource.may_give g.S.BlockSource.failed g.S.BlockSource.follows c.args.self.now c.reach.new.self c.args.source.now c.reach.new.source c.reach.result (record { stands = c.reach.ensures.stands; malformed = c.reach.ensures.malformed; failed = c.reach.ensures.failed; refused = c.reach.ensures.refused; keeps = c.reach.ensures.keeps; no_more = c.reach.ensures.no_more; follows = c.reach.ensures.follows }))
    (item_got (IsBlockItem c.args.number) (record { size = c.args.self.now.size; digests = c.reach.new.self; blocks = c.args.self.now.blocks; alloc = c.args.self.now.alloc }) (block_there c.args.number c.in-Some.digest.now (record { size = c.args.self.now.size; digests = c.reach.new.self; blocks = c.args.self.now.blocks; alloc = c.args.self.now.alloc }) (omega (arith, c.if-from-start.false, c.from.ensures, c.from-2.ensures)) (omega arith) c.in-Some.ensures) c.get_block.ensures
    (record { size = c.args.self.now.size; digests = c.reach.new.self; blocks = c.insert.new.self; alloc = c.args.self.now.alloc }) c.in_ok-block.block (Ok tt) c.in_ok-block.was tt
    (all_with_block (record { size = c.args.self.now.size; digests = c.reach.new.self; blocks = c.args.self.now.blocks; alloc = c.args.self.now.alloc }) (record { size = c.args.self.now.size; digests = c.reach.new.self; blocks = c.insert.new.self; alloc = c.args.self.now.alloc }) c.args.number c.in_ok-block.block refl (λ n h. h) c.in_ok-insert.ensures.updates.0)
    (λ bs h i is sp. record {
      size = h.size;
      digests = h.digests;
      blocks = updated (IsBlockOf bs) c.args.self.now.blocks.entries c.insert.new.self.entries c.args.number (Some c.in_ok-block.block) c.in_ok-insert.ensures.updates.0 h.blocks
          (block_found bs c.args.number i c.in_ok-block.block (sym is) sp.0);
    }))
