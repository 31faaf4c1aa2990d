use Rattle.std.proofs.Common.{◌≡◌, [], arith}
use Rattle.std.proofs.lemmas.Bool.Decides.{nat_tests}
use Rattle.std.proofs.lemmas.List.{length-set}
use Rattle.su_team.proofs.GroupLemmas.{at_none, no_digest, no_more_text, read_further}
use Rattle.su_team.proofs.groups.read_groups.Goals as goal

pub returns-in_err-byte : goal.returns-in_err-byte
returns-in_err-byte c =
    at_none c.from_residual.result _ _ c.from_residual.ensures (λ digest is spelled.
    no_digest c.loop-place.bytes c.args.text.now c.loop-place.left.now digest c.loop-place.place c.loop-place.invariant.0 c.loop-place-test.true c.loop-place.invariant.1 c.in_err-byte.ensures is spelled)

pub loop-place-preserved : goal.loop-place-preserved
loop-place-preserved c =
    let size = c.loop-place.invariant.0 in
    let same = length-set c.loop-place.bytes c.loop-place.place c.in_ok-byte.byte in (
      omega (arith, size, same),
      read_further c.loop-place.bytes c.args.text.now c.loop-place.left.now c.in_ok-byte.behind.now c.loop-place.place c.in_ok-byte.byte size c.loop-place-test.true c.loop-place.invariant.1 c.in_ok-byte.ensures,
    )

pub returns-then-not-is_empty : goal.returns-then-not-is_empty
returns-then-not-is_empty c digest is spelled =
    let empty : c.loop-place.left.now ≡ [] =
    no_more_text c.loop-place.bytes c.args.text.now c.loop-place.left.now digest c.loop-place.place c.loop-place.invariant.0 (omega arith) c.loop-place.invariant.1 is spelled in
    let e = c.if-not-is_empty.ensures in grind (arith, nat_tests, e, empty)
