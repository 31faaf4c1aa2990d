use Rattle.std.specs.Prelude.{Ok, Err}
use Rattle.su_format.proofs.Public.{u32_of}
use Rattle.su_part_inverse.proofs.SmallReads.{reads_part, last_refused, last_read, size_begun, size_ends}
use Rattle.su_part_inverse.proofs.small.KeptSizeSmall.take.Goals as goal

pub returns-in_err-size : goal.returns-in_err-size
returns-in_err-size c =
    let mid = c.take_place.new.reader in
    last_refused size_begun _ _ _ c.in_ok-place.ensures (size_ends _) _ mid.left
    (reads_part u32_of mid mid (Err _) c.in_err-size.ensures.takes) _ _ c.from_residual-in_err-size.ensures.1

pub returns : goal.returns
returns c =
    let mid = c.take_place.new.reader in
    last_read size_begun _ _ _ c.in_ok-place.ensures (size_ends _) _ _ (reads_part u32_of mid c.take_u32.new.self (Ok _) c.in_ok-size.ensures.takes)
