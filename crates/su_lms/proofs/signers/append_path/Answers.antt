use Rattle.std.proofs.Common.{◌≡◌, ℕ, ◌+◌, ◌/◌, ◌^◌, [], ◌++◌, length, get_or, ap, sym, ◌∙◌, arith}
use Rattle.std.proofs.lemmas.List.{append_assoc, append-nil}
use Rattle.su_lms.specs.Strings.{joined}
use Rattle.su_lms.specs.MerkleTree.{sibling_of}
use Rattle.su_lms.specs.PrivateKey.{PrivateKey, path_at, leaf_count}
use Rattle.su_lms.specs.KeyFile.{private_key_of}
use Rattle.su_lms.proofs.Joining.{joined_none, joined_more}
use Rattle.su_lms.proofs.NodeTables.{path_in_table}
use Rattle.su_lms.proofs.signers.append_path.Goals as goal

pub loop-level-init : goal.loop-level-init
loop-level-init c = record {
  items = sym (ap (λ s. c.args.out.now.items ++ s) (joined_none _) ∙ append-nil c.args.out.now.items);
  len = omega arith;
  room = omega arith;
}

pub loop-level-preserved : goal.loop-level-preserved
loop-level-preserved c =
    let key : PrivateKey = private_key_of c.args.file.now in
    let level : ℕ = c.loop-level.level in
    let there = path_in_table key c.args.nodes.now c.requires.table c.args.q level c.requires.leaf (omega (arith, c.height_of-level-end.ensures.value)) in
    let place : c.sibling_of-sibling.result ≡ sibling_of ((leaf_count key + c.args.q) / 2 ^ level) =
    c.sibling_of-sibling.ensures ∙ ap (λ n. sibling_of ((n + c.args.q) / 2 ^ level)) c.leaf_count.ensures.value in
    let here : get_or c.args.nodes.now c.sibling_of-sibling.result [] ≡ path_at key c.args.q level =
    ap (λ n. get_or c.args.nodes.now n []) place ∙ there.1 in
    let size : length (get_or c.args.nodes.now c.sibling_of-sibling.result []) ≡ 32 = c.told-nodes c.sibling_of-sibling.result (rw place there.0) in
    record {
      items = c.append.ensures.items ∙ ap (λ s. s ++ get_or c.args.nodes.now c.sibling_of-sibling.result []) c.loop-level.invariant.items
          ∙ append_assoc c.args.out.now.items (joined level (path_at key c.args.q)) (get_or c.args.nodes.now c.sibling_of-sibling.result [])
          ∙ ap (λ s. c.args.out.now.items ++ s) (ap (λ s. joined level (path_at key c.args.q) ++ s) here ∙ sym (joined_more level (path_at key c.args.q)));
      len = omega (arith, c.append.ensures.len);
      room = omega (arith, c.append.ensures.room);
    }
