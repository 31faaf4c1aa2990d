use Rattle.std.proofs.Common.{◌∙◌, ◌+◌, sym, refl, ap, take, drop, arith, drop-drop, inr}
use Rattle.su_frames.proofs.Framing.{framed}
use Rattle.su_frames.proofs.frames.Frames.next.Goals as goal

pub returns-in-Ok : goal.returns-in-Ok
returns-in-Ok c =
    framed c.args.self.now c.in-Ok.message.items _ c.in-Some.size
    (rw (← c.waiting.ensures) (rw c.in-Some.is at c.in_ok-size.ensures))
    (c.in-Ok.ensures.items ∙ ap (λ n. take n (drop 4 c.waiting-in-Some.result.now)) (omega arith) ∙ ap (λ xs. take c.in-Some.size (drop 4 xs)) c.waiting-in-Some.ensures)
    (sym (drop-drop (4 + c.in-Some.size) c.self.inside.start c.self.inside.bytes.items) ∙ ap (drop (4 + c.in-Some.size)) c.self.view_is)

pub returns-in_default : goal.returns-in_default
returns-in_default c =
    let bytes = c.args.self.now in
    let size = c.in-Some.size in
    let (is, cut) = framed bytes (take size (drop 4 bytes)) (drop (4 + size) bytes) size (rw (← c.waiting.ensures) (rw c.in-Some.is at c.in_ok-size.ensures)) refl refl in
    (inr (refl, (take size (drop 4 bytes), drop (4 + size) bytes, is, cut)), refl)
