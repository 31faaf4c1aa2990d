use Rattle.std.proofs.Common.{refl, arith}
use Rattle.su_change.specs.Item.{item_bytes}
use Rattle.su_stored_desk.proofs.Public.{asks_nothing, asks_on}
use Rattle.su_view.proofs.ListLemmas.{shorter}
use Rattle.su_view.specs.Viewed.{desk_of}
use Rattle.su_view.proofs.ListLemmas.{none_taken, one_taken, refuses_next}
use Rattle.su_view.proofs.views.View.accept.Goals as goal

pub loop-rest-init : goal.loop-rest-init
loop-rest-init g c = (
  none_taken g.S.BlockSource.may_give c.args.self.now c.args.bytes.now,
  omega arith,
  asks_nothing g.met.S.BlockSource.follows_itself (desk_of c.args.self.now) (desk_of c.args.self.now) refl refl refl,
)

pub returns-in-Err-clause-refused : goal.returns-in-Err-clause-refused
returns-in-Err-clause-refused g c =
    let (taken, sum, asks) = c.loop-rest.invariant in
    refuses_next g.S.BlockSource.may_give g.S.BlockSource.failed g.S.BlockSource.follows c.args.self.now c.loop-rest.self c.accept_bytes.new.self c.args.bytes.now c.loop-rest.rest.now c.in-Some.first.now c.in-Some.others.now
    c.loop-rest.count c.in-Err.refusal taken asks.source.no_more asks.source.follows c.in-Err.ensures.asks.source.follows c.in-Err.ensures.err c.in-Err.ensures.asks.clear (omega (arith, sum)) c.in-Some.ensures c.in-Err.ensures.refused

pub loop-rest-preserved : goal.loop-rest-preserved
loop-rest-preserved g c =
    let (taken, sum, asks) = c.loop-rest.invariant in
    let ok = c.in_default-accept_bytes.ensures in
    let (committed, is, given, grows) = ok.took in
    let less = shorter c.loop-rest.rest.now c.in-Some.first.now c.in-Some.others.now c.in-Some.ensures in (
      one_taken g.S.BlockSource.may_give c.args.self.now c.loop-rest.self c.accept_bytes.new.self c.args.bytes.now c.loop-rest.rest.now c.in-Some.first.now c.in-Some.others.now
          c.loop-rest.count committed taken c.in-Some.ensures is (asks.source.no_more (item_bytes committed.change) given) grows ok.asks.clear,
      omega (arith, sum, less),
      asks_on g.met.S.BlockSource.follows_on (desk_of c.args.self.now) (desk_of c.loop-rest.self) (desk_of c.accept_bytes.new.self) asks ok.asks,
    )

pub returns-in-Err-clause-asks : goal.returns-in-Err-clause-asks
returns-in-Err-clause-asks g c =
    let (taken, sum, asks) = c.loop-rest.invariant in
    asks_on g.met.S.BlockSource.follows_on (desk_of c.args.self.now) (desk_of c.loop-rest.self) (desk_of c.accept_bytes.new.self) asks c.in-Err.ensures.asks
