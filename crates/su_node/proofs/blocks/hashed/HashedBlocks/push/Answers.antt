use Rattle.std.proofs.Common.{◌≡◌, ◌^◌, ◌++◌, ◌∷◌, [], ◌∙◌, ap, sym, length, arith}
use Rattle.std.proofs.lemmas.List.{length_push}
use Rattle.su_node.specs.Stored.{digests_of}
use Rattle.su_node.proofs.Hashed.{hashed-below, hashed-push}
use Rattle.su_node.proofs.blocks.hashed.HashedBlocks.push.Goals as goal

pub invariant_of-self-2 : goal.invariant_of-self-2
invariant_of-self-2 c =
    let blocks = c.self.inside.blocks.items in
    let kept = c.reserve.ensures.items in
    let more : c.push.new.self.items ≡ blocks ++ c.args.block ∷ [] = c.in_ok-push.ensures.items ∙ ap (λ bs. bs ++ c.args.block ∷ []) kept in
    let last : c.len.result ≡ length blocks = omega (arith, c.len.ensures, ap length kept, c.reserve.new.self.ok.0) in (
      c.in_ok-made.ensures.put ∙ hashed-push blocks c.self.inside.digests.entries c.self.invariant.0 c.len.result c.args.block last ∙ ap digests_of (sym more),
      omega (arith, ap length more, length_push blocks c.args.block, ap length c.self.view_is, c.requires),
    )

pub returns-clause-hashes : goal.returns-clause-hashes
returns-clause-hashes c = λ bits few.
    let long = ap length c.self.view_is in
    let kept = ap length c.reserve.ensures.items in
    let below = hashed-below c.self.inside.blocks.items c.self.inside.digests.entries c.self.invariant.0 (2 ^ bits) (omega (arith, long, few)) in
    let path = c.put_digest.ensures.hashes bits (omega (arith, c.len.ensures, kept, long, few)) below in
    omega (arith, path, c.in_ok-made.ensures.counted)
