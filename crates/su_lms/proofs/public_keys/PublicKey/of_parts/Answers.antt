use Rattle.std.proofs.Common.{◌≡◌, ◌++◌, ◌+◌, length, take, drop, replicate, refl, ap, ◌∙◌}
use Rattle.su_lms.specs.Strings.{u32str}
use Rattle.su_lms.proofs.Signing.{of_parts-is_public_key}
use Rattle.su_lms.proofs.Spelling.{four_written}
use Rattle.su_lms.proofs.public_keys.PublicKey.of_parts.Goals as goal

pub returns : goal.returns
returns c =
    four_written (u32str c.args.lms) (u32str c.args.ots) c.args.id.now c.args.root.now _ _ _ _ refl refl c.told-id c.told-root
    (c.write_at.ensures ∙ ap (λ b. take 0 (replicate 56 0) ++ b ++ drop (0 + length b) (replicate 56 0)) c.to_be_bytes.ensures)
    (c.write_at-2.ensures ∙ ap (λ b. take 4 c.write_at.new.bytes ++ b ++ drop (4 + length b) c.write_at.new.bytes) c.to_be_bytes-2.ensures)
    c.write_at-3.ensures c.write_at-4.ensures

pub invariant_of-result : goal.invariant_of-result
invariant_of-result c =
    let spelled : c.write_at-4.new.bytes ≡ u32str c.args.lms ++ u32str c.args.ots ++ c.args.id.now ++ c.args.root.now =
    four_written (u32str c.args.lms) (u32str c.args.ots) c.args.id.now c.args.root.now _ _ _ _ refl refl c.told-id c.told-root
    (c.write_at.ensures ∙ ap (λ b. take 0 (replicate 56 0) ++ b ++ drop (0 + length b) (replicate 56 0)) c.to_be_bytes.ensures)
    (c.write_at-2.ensures ∙ ap (λ b. take 4 c.write_at.new.bytes ++ b ++ drop (4 + length b) c.write_at.new.bytes) c.to_be_bytes-2.ensures)
    c.write_at-3.ensures c.write_at-4.ensures in
    of_parts-is_public_key c.args.lms c.args.ots c.args.id.now c.args.root.now c.write_at-4.new.bytes c.requires.tree_type c.requires.one_time_type c.told-id c.told-root spelled
