use Rattle.std.proofs.Common.{◌≡◌, ◌++◌, true, length}
use Rattle.std.specs.Vec.Iter.{into_iter_items, into_iter_len}
use Rattle.su_client_work.specs.Work.{Works}
use Rattle.su_client_script.specs.Carrying.{held_behind, CommitsAll}
use Rattle.su_client_script.specs.Lines.{Prints}
use Rattle.su_client_script.specs.Step.{is_first}
use Rattle.su_client_script.proofs.steps.commit_all.Given as goal

abbrev pub invariant-loop-part : goal.invariant-loop-part
invariant-loop-part g l = record {
  works : Works l.fn.member l.member;
  whole : l.yielded ++ into_iter_items l.part-iterator ≡ l.fn.parts.items;
  count : into_iter_len l.part-iterator ≡ length (into_iter_items l.part-iterator);
  place : is_first l.place ≡ held_behind true l.yielded;
  commits : Prints (g.O.Write.contents l.fn.output) (g.O.Write.contents l.output)
      (CommitsAll g.P.Surroundings.may_connect true l.yielded l.fn.member l.member);
}
