use Rattle.std.proofs.Common.{◌-◌, sym, subst, drop, take, length, length-take, length-drop, arith, ℕ}
use Rattle.su_client.specs.Asking.{Writes}
use Rattle.su_client.proofs.Sending.{spends_writing, took_last, took_none, took_some, writes_joining}
use Rattle.su_client.proofs.wires.Wire.write_whole.Goals.{in-Ok+else-done-bytes, in-Err+else-not-make_room}
use Rattle.su_client.proofs.wires.Wire.write_whole.Goals as goal

pub returns-then-done-bytes : goal.returns-then-done-bytes
returns-then-done-bytes g c =
    took_last _ _ _ _ (g.W.Write.contents c.write.new.self) c.args.self.now c.loop.self c.self.view_is c.args.bytes.now c.loop.done c.in-Ok.count (g.W.Write.contents c.flush.new.self) c.is_ok.result
    c.loop.invariant.1 c.in-Ok.ensures.bytes c.if-done-bytes.true c.flush.ensures.bytes

pub returns-then-not-make_room : goal.returns-then-not-make_room
returns-then-not-make_room g c =
    spends_writing (take c.loop.done c.args.bytes.now) c.args.self.now _ c.make_room.new.self
    (took_none _ _ _ _ (g.W.Write.contents c.write.new.self) c.args.self.now c.loop.self c.self.view_is (take c.loop.done c.args.bytes.now) c.loop.invariant.1 c.in-Err.ensures.bytes)
    c.if-not-make_room.ensures

pub loop-preserved : goal.loop-preserved
loop-preserved g c =
    elim c.match-write.branch [
      | in-Ok+else-done-bytes w ↦ (
        omega (arith, w.done-is, w.if-done-bytes.false, w.in-Ok.ensures.bound, length-take (length c.args.bytes.now - c.loop.done) (drop c.loop.done c.args.bytes.now), length-drop c.loop.done c.args.bytes.now, c.loop.invariant.0),
        subst (Writes (take c.match-write.done c.args.bytes.now) c.args.self.now) (sym w.self-is)
            (took_some _ _ _ _ (g.W.Write.contents c.write.new.self) c.args.self.now c.loop.self c.self.view_is c.args.bytes.now c.loop.done w.in-Ok.count c.match-write.done c.loop.invariant.1
            w.in-Ok.ensures.bytes w.done-is),
      )
      | in-Err+else-not-make_room w ↦ (
        omega (arith, w.done-is, c.loop.invariant.0),
        subst (λ (n : ℕ). Writes (take n c.args.bytes.now) c.args.self.now c.match-write.self) (sym w.done-is)
            (subst (Writes (take c.loop.done c.args.bytes.now) c.args.self.now) (sym w.self-is)
            (writes_joining (take c.loop.done c.args.bytes.now) c.args.self.now _ w.make_room.new.self
            (took_none _ _ _ _ (g.W.Write.contents c.write.new.self) c.args.self.now c.loop.self c.self.view_is (take c.loop.done c.args.bytes.now) c.loop.invariant.1 w.in-Err.ensures.bytes)
            w.if-not-make_room.ensures)),
      )
    ]
