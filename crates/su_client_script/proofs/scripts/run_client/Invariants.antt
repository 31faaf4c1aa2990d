use Rattle.std.proofs.Common.{◌≡◌, ℕ, List, Some}
use Rattle.su_client_work.specs.Work.{Works}
use Rattle.su_desk_lines.specs.Unread.{unread}
use Rattle.su_client_script.specs.Calls.{files_of}
use Rattle.su_client_script.specs.Run.{Adds}
use Rattle.su_client_script.proofs.Stepping.{IsCarriedTo}
use Rattle.su_client_script.proofs.scripts.run_client.Given as goal

abbrev pub invariant-loop-number : goal.invariant-loop-number
invariant-loop-number g l = record {
  works : Works l.fn.member l.member;
  adds : Adds (g.O.Write.contents l.fn.output) (g.O.Write.contents l.output);
  carried : (script : List ℕ) → g.I.Read.remaining l.fn.input ≡ Some script
      → IsCarriedTo g.P.Surroundings.may_connect (files_of g.P.Program.saves g.P.Program.opens) l.fn.manner.batches script l.number (unread g.I.Read.remaining l.lines) l.fn.member l.member
      (g.O.Write.contents l.fn.output) (g.O.Write.contents l.output);
}
