use Rattle.std.proofs.Common.{◌≡◌, ◌-◌, ℕ, List, Some}
use Rattle.su_view.specs.Viewed.{AsksOn}
use Rattle.su_client_work.specs.TakenLog.{TakesFront}
use Rattle.su_client_work.proofs.Taking.{GrowsSome}
use Rattle.su_client_work.proofs.TakenLogs.{IsReadTo}
use Rattle.su_client_work.proofs.logs.take_log.Given as goal

abbrev pub invariant-loop-number : goal.invariant-loop-number
invariant-loop-number g l = record {
  takes : GrowsSome g.S.BlockSource.may_give l.fn.view l.view;
  asks : AsksOn g.S.BlockSource.may_give g.S.BlockSource.follows l.fn.view l.view;
  front : (log : List ℕ) → g.I.Read.remaining l.fn.reader ≡ Some log
      → IsReadTo (TakesFront g.S.BlockSource.may_give l.fn.view log l.view (l.number - 1)) log l.log;
}
