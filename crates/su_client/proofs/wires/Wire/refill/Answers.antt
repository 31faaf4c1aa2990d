use Rattle.std.proofs.Common.{sym, refl}
use Rattle.su_client.proofs.wires.Wire.refill.Goals.{in-Ok-feed, in-Err-feed}
use Rattle.su_client.proofs.wires.Wire.refill.Goals as goal

pub returns-after-feed : goal.returns-after-feed
returns-after-feed g c = elim c.match-feed.branch [
  | in-Ok-feed w ↦ rw w.result-is (rw (sym c.self.view_is) (record { input = _; read = c.in-Ok.ensures.bytes.0; waits = w.in-Ok-feed.ensures.ok; held = refl; failed = refl }))
  | in-Err-feed w ↦ rw w.result-is (rw (sym c.self.view_is) (record { input = _; read = c.in-Ok.ensures.bytes.0; held = refl; failed = refl }))
]
