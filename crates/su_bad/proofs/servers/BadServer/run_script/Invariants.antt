use Rattle.std.proofs.Common.{◌≡◌, length}
use Rattle.std.specs.Vec.Iter.{into_iter_items, into_iter_len}
use Rattle.su_bad.specs.Script.{after_all}
use Rattle.su_bad.proofs.servers.BadServer.run_script.Given as goal

abbrev pub invariant-loop-step : goal.invariant-loop-step
invariant-loop-step l = record {
  left : after_all (into_iter_items l.step-iterator) l.self ≡ after_all l.fn.script.items l.fn.self;
  count : into_iter_len l.step-iterator ≡ length (into_iter_items l.step-iterator);
}
