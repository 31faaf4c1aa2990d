use Rattle.std.proofs.Common.{◌≡◌, ◌^◌, ◌∙◌, ap, sym, length, set, get_or, [], arith}
use Rattle.std.proofs.lemmas.List.{length-set, set-get_or}
use Rattle.su_node.specs.InodeChange.{with_size}
use Rattle.su_node.proofs.Contents.{resized_same}
use Rattle.su_node.proofs.Hashed.{hashed-below, hashed-set, hashed-there}
use Rattle.su_node.proofs.blocks.hashed.HashedBlocks.resize.Goals as goal

pub refresh-requires-clause-there : goal.refresh-requires-clause-there
refresh-requires-clause-there c =
    hashed-there c.self.inside.blocks.items c.self.inside.digests.entries c.self.invariant.0 c.args.number (omega (arith, c.requires, ap length c.self.view_is))

pub invariant_of-self-then-get-size : goal.invariant_of-self-then-get-size
invariant_of-self-then-get-size c =
    let blocks = c.self.inside.blocks.items in (
      c.refresh.ensures.put ∙ hashed-set blocks c.self.inside.digests.entries c.self.invariant.0 c.args.number c.resize.new.self (omega (arith, c.requires, ap length c.self.view_is)),
      omega (arith, length-set blocks c.args.number c.resize.new.self, c.self.invariant.1),
    )

pub returns-else-get-size-clause-ok : goal.returns-else-get-size-clause-ok
returns-else-get-size-clause-ok c =
    let bs = get_or c.args.self.now c.args.number [] in
    let same : bs ≡ with_size c.args.size bs = resized_same c.args.size bs (sym (ap length c.get.ensures) ∙ c.if-get-size.false) in
    sym (set-get_or c.args.self.now c.args.number []) ∙ ap (set c.args.self.now c.args.number) same

pub returns-in_ok-resize-clause-hashes : goal.returns-in_ok-resize-clause-hashes
returns-in_ok-resize-clause-hashes c = λ bits few.
    let long = ap length c.self.view_is in
    let below = hashed-below c.self.inside.blocks.items c.self.inside.digests.entries c.self.invariant.0 (2 ^ bits) (omega (arith, long, few)) in
    let path = c.refresh.ensures.hashes bits (omega (arith, c.requires, few)) below in
    omega (arith, path, c.refresh.ensures.counted)
