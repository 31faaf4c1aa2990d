use Rattle.std.proofs.Common.{◌-◌, drop, length, length-take, length-drop, arith}
use Rattle.std.proofs.KnownBytes.{Appends-kept}
use Rattle.su_frames.proofs.sending.write_whole.Goals.{in-Ok+else-done-bytes, in-Err+else-ne}
use Rattle.su_frames.proofs.Writing.{appends-more, rest-all}
use Rattle.su_frames.proofs.sending.write_whole.Goals as goal

pub loop-preserved : goal.loop-preserved
loop-preserved g c =
    elim c.match-write.branch [
      | in-Ok+else-done-bytes w ↦ (
        omega (arith, w.done-is, w.if-done-bytes.false, w.in-Ok.ensures.bound, length-take (length c.args.bytes.now - c.loop.done) (drop c.loop.done c.args.bytes.now), length-drop c.loop.done c.args.bytes.now, c.loop.invariant.0),
        appends-more _ _ _ c.loop.done w.in-Ok.count _ c.args.bytes.now c.loop.invariant.1 (rw (rest-all c.loop.done c.args.bytes.now) at w.in-Ok.ensures.bytes) w.done-is,
      )
      | in-Err+else-ne w ↦ (omega (arith, w.done-is, c.loop.invariant.0), rw w.done-is (Appends-kept _ _ _ _ c.loop.invariant.1 w.in-Err.ensures.bytes))
    ]
