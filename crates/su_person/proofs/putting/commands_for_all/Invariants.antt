use Rattle.std.proofs.Common.{◌≡◌, ◌++◌, List, take}
use Rattle.su_draft.specs.declared.commands.Command.{Command}
use Rattle.su_client_work.specs.Member.{IsClear, OnlyAsks}
use Rattle.su_person.specs.Putting.{PutsAll}
use Rattle.su_person.proofs.putting.commands_for_all.Given as goal

abbrev pub invariant-loop-new : goal.invariant-loop-new
invariant-loop-new g l = record {
  asks : OnlyAsks l.fn.member l.member;
  puts : (more : List Command) × (l.commands.items ≡ l.fn.first.items ++ more)
      × (IsClear l.member → PutsAll l.fn.member.holding (take l.new-index l.files) more);
}
