use Rattle.std.proofs.Common.{◌≡◌, arith, ◌+◌, ◌*◌, ◌<◌, ◌^◌, ◌∙◌, length, subst}
use Rattle.su_node.specs.Digest.{block_count}
use Rattle.su_node.specs.InodeChange.{with_bytes_at}
use Rattle.su_part.specs.Left.{LeavesBlocks}
use Rattle.su_part.proofs.LeftLemmas.{digest_of_left, digests_long, leaves_more, leaves_none, stepped_left}
use Rattle.su_part.proofs.WriteLemmas.{begun, finished}
use Rattle.su_part.proofs.blocks.PartBytes.put_left.Goals as goal

pub loop-digest-init : goal.loop-digest-init
loop-digest-init c = record {
  at = omega arith;
  midway = λ bs xs h le is. begun c.args.self.now (4096 * c.args.first) xs bs c.args.first h (let size = h.size in omega (arith, size, le));
  leaves = leaves_none c.args.first c.args.self.now;
}

pub put_left_at-requires : goal.put_left_at-requires
put_left_at-requires c =
    let l = c.loop-digest in
    let at = l.invariant.at in
    l.invariant.leaves.paths l.number (c.requires.paths l.number (omega (arith, at)) (omega (arith, at, c.loop-digest-test.true)))

pub loop-digest-preserved : goal.loop-digest-preserved
loop-digest-preserved c =
    let l = c.loop-digest in
    let n = l.number in
    let at = l.invariant.at in
    let lt = c.loop-digest-test.true in
    let small : n < 2 ^ 32 = omega (arith, at, lt, c.requires.small) in
    record {
      at = omega (arith, at);
      midway = λ bs xs h le is.
          let many = digests_long c.args.first xs bs c.args.digests.now is in
          stepped_left bs (with_bytes_at (4096 * c.args.first) xs bs) n c.digest-item.result l.self c.put_left_at.new.self (l.invariant.midway bs xs h le is) c.put_left_at.ensures.left
          (c.digest-item.is ∙ digest_of_left c.args.first xs bs c.args.digests.now is l.digest-index n c.digest-item.result lt (omega (arith, at))) small (omega (arith, at, lt, many, le));
      leaves = leaves_more c.args.first n c.digest-item.result c.args.self.now l.self c.put_left_at.new.self (omega (arith, at)) l.invariant.leaves c.put_left_at.ensures.left c.put_left_at.ensures.paths;
    }

pub returns-clause-stands : goal.returns-clause-stands
returns-clause-stands c bs xs h le is =
    let l = c.loop-digest in
    let at = l.invariant.at in
    let m = l.invariant.midway bs xs h le is in
    let long = m.size in
    let many = digests_long c.args.first xs bs c.args.digests.now is in
    let k_is : l.number ≡ block_count (4096 * c.args.first + length xs) = omega (arith, at, many, c.loop-digest-test.false) in
    finished l.self (4096 * c.args.first) xs bs l.number l.self.size m k_is (omega (arith, long, le))

pub returns-clause-leaves : goal.returns-clause-leaves
returns-clause-leaves c =
    let l = c.loop-digest in
    let at = l.invariant.at in
    let all : l.number ≡ c.args.first + length c.args.digests.now = omega (arith, at, c.loop-digest-test.false) in
    subst (λ n. LeavesBlocks c.args.first n c.args.self.now l.self) all l.invariant.leaves
