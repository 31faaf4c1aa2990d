use Rattle.std.proofs.Common.{◌-◌, ◌∷◌, [], ℕ, List, ap, refl, sym, subst, inl, inr, arith}
use Rattle.su_bytes.specs.declared.refusals.Refusal.TheVariants.{Malformed}
use Rattle.su_log.specs.Record.{spelled}
use Rattle.su_log_ahead.specs.Ahead.{IsLeft}
use Rattle.su_log_ahead.proofs.Public.{all_left}
use Rattle.su_stored_desk.proofs.Public.{asks_nothing, asks_on}
use Rattle.su_view.specs.Viewed.{desk_of}
use Rattle.su_view.specs.declared.refusals.ViewRefusal.TheVariants.{Plain}
use Rattle.su_client_work.specs.TakenLog.{TakesFront}
use Rattle.su_client_work.proofs.Taking.{grows_none, grows_then}
use Rattle.su_client_work.proofs.TakenLogs.{none_taken, front_then, read_on}
use Rattle.su_client_work.proofs.logs.take_log.Goals as goal

pub loop-number-init : goal.loop-number-init
loop-number-init g c = record {
  takes = grows_none g.S.BlockSource.may_give c.args.view.now c.args.view.now refl;
  asks = asks_nothing g.met.S.BlockSource.follows_itself (desk_of c.args.view.now) (desk_of c.args.view.now) refl refl refl;
  front = λ log is. record {
    place = 0;
    rest = log;
    left = subst (λ s. IsLeft s 0 log) (sym c.new-log.ensures) (all_left (g.I.Read.remaining c.args.reader) 0 log is);
    place_is = omega arith;
    front = none_taken g.S.BlockSource.may_give c.args.view.now log c.args.view.now refl;
  };
}

pub loop-number-preserved : goal.loop-number-preserved
loop-number-preserved g c =
    let (committed, is, grows) = c.in_default.ensures.took in
    let back = c.in_default.ensures.asks.clear in
    record {
      takes = grows_then g.S.BlockSource.may_give c.args.view.now c.loop-number.view c.take_record.new.view back c.loop-number.invariant.takes (committed ∷ [], grows);
      asks = asks_on g.met.S.BlockSource.follows_on (desk_of c.args.view.now) (desk_of c.loop-number.view) (desk_of c.take_record.new.view) c.loop-number.invariant.asks c.in_default.ensures.asks;
      front = λ log known.
          read_on g.S.BlockSource.may_give c.args.view.now log c.loop-number.view c.take_record.new.view c.loop-number.number c.loop-number.log c.next.new.self c.in-Ok-next.next committed
          c.loop-number.auto.number (c.loop-number.invariant.front log known) c.in-Ok-next.ensures.next is back grows;
    }

pub returns-in-Err-clause-log : goal.returns-in-Err-clause-log
returns-in-Err-clause-log g c = λ log is. (0, log, none_taken g.S.BlockSource.may_give c.args.view.now log c.args.view.now refl)

pub returns-in-Err-clause-takes : goal.returns-in-Err-clause-takes
returns-in-Err-clause-takes g c = grows_none g.S.BlockSource.may_give c.args.view.now c.args.view.now refl

pub returns-in-Err-clause-asks : goal.returns-in-Err-clause-asks
returns-in-Err-clause-asks g c = asks_nothing g.met.S.BlockSource.follows_itself (desk_of c.args.view.now) (desk_of c.args.view.now) refl refl refl

pub returns-in-Err-take_record-clause-takes : goal.returns-in-Err-take_record-clause-takes
returns-in-Err-take_record-clause-takes g c =
    grows_then g.S.BlockSource.may_give c.args.view.now c.loop-number.view c.take_record.new.view c.in-Err-take_record.ensures.asks.clear c.loop-number.invariant.takes
    (grows_none g.S.BlockSource.may_give c.loop-number.view c.take_record.new.view c.in-Err-take_record.ensures.err)

pub returns-in-Err-take_record-clause-asks : goal.returns-in-Err-take_record-clause-asks
returns-in-Err-take_record-clause-asks g c =
    asks_on g.met.S.BlockSource.follows_on (desk_of c.args.view.now) (desk_of c.loop-number.view) (desk_of c.take_record.new.view) c.loop-number.invariant.asks c.in-Err-take_record.ensures.asks

pub returns-in-Err-take_record-clause-log : goal.returns-in-Err-take_record-clause-log
returns-in-Err-take_record-clause-log g c = λ log is.
    let f = c.loop-number.invariant.front log is in
    let (others, begins, left) = c.in-Ok-next.ensures.next f.place f.rest f.left in (
      c.loop-number.number - 1,
      f.place,
      f.rest,
      omega (arith, c.loop-number.auto.number),
      f.place_is,
      front_then g.S.BlockSource.may_give c.args.view.now log c.loop-number.view c.take_record.new.view (c.loop-number.number - 1) f.rest
          f.front c.in-Err-take_record.ensures.err c.in-Err-take_record.ensures.asks.clear,
      inr (spelled c.in-Ok-next.next, others, begins),
    )

pub returns-in-Err-End-clause-log : goal.returns-in-Err-End-clause-log
returns-in-Err-End-clause-log g c = λ log is.
    let f = c.loop-number.invariant.front log is in
    let ended = rw c.in-Err-End.field-0-is at c.in-Err-End.ensures.next f.place f.rest f.left in
    subst (λ (rest : List ℕ). TakesFront g.S.BlockSource.may_give c.args.view.now log c.loop-number.view (c.loop-number.number - 1) rest) ended f.front

pub returns-in-Err-Cut-clause-log : goal.returns-in-Err-Cut-clause-log
returns-in-Err-Cut-clause-log g c = λ log is.
    let f = c.loop-number.invariant.front log is in
    let stops = rw c.in-Err-Cut.field-0-is at c.in-Err-Cut.ensures.next f.place f.rest f.left in (
      c.loop-number.number - 1,
      f.place,
      f.rest,
      omega (arith, c.loop-number.auto.number),
      f.place_is,
      f.front,
      inl (c.in-Err-Cut.place, ap (λ p. Plain (Malformed p)) c.in-Err-Cut.place-is, stops),
    )

pub returns-in-Err-Failed-clause-log : goal.returns-in-Err-Failed-clause-log
returns-in-Err-Failed-clause-log g c = λ log is. let f = c.loop-number.invariant.front log is in (c.loop-number.number - 1, f.rest, f.front)

pub returns-clause-log : goal.returns-clause-log
returns-clause-log g c = λ log is. let f = c.loop-number.invariant.front log is in (c.loop-number.number - 1, f.rest, f.front)
