use Rattle.std.proofs.Common.{◌≡◌, ◌++◌, [], length}
use Rattle.std.specs.Vec.Iter.{into_iter_items, into_iter_len}
use Rattle.su_desk.specs.Answer.{Good, GoodAfter}
use Rattle.su_why.specs.Quiet.{IsQuiet}
use Rattle.su_why.proofs.searching.desk_after.Given as goal

abbrev pub invariant-loop-entry : goal.invariant-loop-entry
invariant-loop-entry l = record {
  none_ready : l.desk.state.ready ≡ [];
  roster : l.desk.state.settled.roster ≡ l.fn.roster;
  all : l.desk.state.settled.history ++ into_iter_items l.entry-iterator ≡ l.fn.entries.items;
  good : Good l.fn.roster l.fn.entries.items
      → GoodAfter l.fn.roster l.desk.state.settled.history (into_iter_items l.entry-iterator);
  quiet : IsQuiet l.desk;
  count : into_iter_len l.entry-iterator ≡ length (into_iter_items l.entry-iterator);
}
