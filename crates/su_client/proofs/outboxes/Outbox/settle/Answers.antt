use Rattle.std.proofs.Common.{◌∙◌, ap, arith, refl, subst, sym, ℕ, List}
use Rattle.su_client.specs.Following.{follows_itself, follows_on}
use Rattle.su_client.specs.Outbox.{contents}
use Rattle.su_client.proofs.Ahead.{ArePut, fewer_wait, first_put, none_put, on_err, some_put, some_wait}
use Rattle.su_client.proofs.outboxes.Outbox.settle.Goals as goal

pub loop-alloc-init : goal.loop-alloc-init
loop-alloc-init g c = (none_put (contents c.args.self.now.waiting.items) c.args.self.now.client.link, follows_itself c.args.self.now.client.link, λ s may. may, refl, refl)

pub loop-alloc-smaller : goal.loop-alloc-smaller
loop-alloc-smaller g c =
    let fewer = fewer_wait c.loop-alloc.self.waiting.items c.put_next.new.self.waiting.items c.loop-alloc.self.client.link c.put_next.new.self.client.link
    (some_wait c.loop-alloc.self.waiting.len c.loop-alloc.self.waiting.items c.is_empty.result c.loop-alloc.self.waiting.ok.0 c.is_empty.ensures c.loop-alloc-test.true)
    c.in_ok-put_next.ensures.put in
    omega (arith, fewer, c.loop-alloc.self.waiting.ok.0, c.put_next.new.self.waiting.ok.0)

pub loop-alloc-preserved : goal.loop-alloc-preserved
loop-alloc-preserved g c = (
  first_put (contents c.args.self.now.waiting.items) c.args.self.now.client.link c.loop-alloc.self.waiting.items c.put_next.new.self.waiting.items c.loop-alloc.self.client.link
      c.put_next.new.self.client.link c.loop-alloc.invariant.0
      (some_wait c.loop-alloc.self.waiting.len c.loop-alloc.self.waiting.items c.is_empty.result c.loop-alloc.self.waiting.ok.0 c.is_empty.ensures c.loop-alloc-test.true)
      c.in_ok-put_next.ensures.put,
  follows_on c.args.self.now.client.link c.loop-alloc.self.client.link c.put_next.new.self.client.link c.loop-alloc.invariant.1 c.put_next.ensures.follows,
  λ s may. c.loop-alloc.invariant.2 s (c.put_next.ensures.no_more s may),
  c.put_next.ensures.at_hand ∙ c.loop-alloc.invariant.3,
  c.put_next.ensures.failures ∙ c.loop-alloc.invariant.4,
)

pub returns-in_err-put_next-clause-follows : goal.returns-in_err-put_next-clause-follows
returns-in_err-put_next-clause-follows g c = follows_on c.args.self.now.client.link c.loop-alloc.self.client.link c.put_next.new.self.client.link c.loop-alloc.invariant.1 c.put_next.ensures.follows

pub returns-in_err-put_next-clause-err : goal.returns-in_err-put_next-clause-err
returns-in_err-put_next-clause-err g c =
    on_err c.from_residual.result
    (some_put (contents c.args.self.now.waiting.items) c.args.self.now.client.link (contents c.put_next.new.self.waiting.items) c.loop-alloc.self.client.link c.put_next.new.self.client.link
    (subst (λ (left : List (List ℕ)). ArePut (contents c.args.self.now.waiting.items) c.args.self.now.client.link left c.loop-alloc.self.client.link)
    (ap (λ w. contents w.items) (sym c.in_err-put_next.ensures.err)) c.loop-alloc.invariant.0)
    c.put_next.ensures.follows)
