use Rattle.std.proofs.Common.{◌≡◌, ◌∙◌, ap}
use Rattle.su_client.specs.Outbox.{contents}
use Rattle.su_client.proofs.Ahead.{left_all, left_none, on_err}
use Rattle.su_client.proofs.outboxes.Outbox.take_in.Goals.{then-self-gt-MOST_WAITING+in_ok-settle, else-self-gt-MOST_WAITING}
use Rattle.su_client.proofs.outboxes.Outbox.take_in.Goals as goal

pub returns-in_err-waits-clause-unput : goal.returns-in_err-waits-clause-unput
returns-in_err-waits-clause-unput g c =
    on_err c.from_residual-in_err-waits.result
    (elim c.if-self-gt-MOST_WAITING.branch [
      | then-self-gt-MOST_WAITING+in_ok-settle w ↦ left_none (contents c.args.self.now.waiting.items) c.args.self.now.client.link w.settle.new.self.client.link c.if-self-gt-MOST_WAITING.self.client.link (contents c.if-self-gt-MOST_WAITING.self.waiting.items) w.in_ok-settle.ensures.put
          (ap contents (ap (λ s. s.waiting.items) w.self-is ∙ w.in_ok-settle.ensures.waiting)) (ap (λ s. s.client.link) w.self-is)
      | else-self-gt-MOST_WAITING w ↦ left_all (contents c.args.self.now.waiting.items) c.args.self.now.client.link c.if-self-gt-MOST_WAITING.self.client.link (contents c.if-self-gt-MOST_WAITING.self.waiting.items)
          (ap contents (ap (λ s. s.waiting.items) w.self-is)) (ap (λ s. s.client.link) w.self-is)
    ])

pub returns-in_err-kept-clause-unput : goal.returns-in_err-kept-clause-unput
returns-in_err-kept-clause-unput g c =
    on_err c.from_residual-in_err-kept.result
    (elim c.if-self-gt-MOST_WAITING.branch [
      | then-self-gt-MOST_WAITING+in_ok-settle w ↦ left_none (contents c.args.self.now.waiting.items) c.args.self.now.client.link w.settle.new.self.client.link c.if-self-gt-MOST_WAITING.self.client.link (contents c.if-self-gt-MOST_WAITING.self.waiting.items) w.in_ok-settle.ensures.put
          (ap contents (ap (λ s. s.waiting.items) w.self-is ∙ w.in_ok-settle.ensures.waiting)) (ap (λ s. s.client.link) w.self-is)
      | else-self-gt-MOST_WAITING w ↦ left_all (contents c.args.self.now.waiting.items) c.args.self.now.client.link c.if-self-gt-MOST_WAITING.self.client.link (contents c.if-self-gt-MOST_WAITING.self.waiting.items)
          (ap contents (ap (λ s. s.waiting.items) w.self-is)) (ap (λ s. s.client.link) w.self-is)
    ])

pub returns-in_err-reserve-clause-unput : goal.returns-in_err-reserve-clause-unput
returns-in_err-reserve-clause-unput g c =
    on_err c.from_residual-in_err-reserve.result
    (elim c.if-self-gt-MOST_WAITING.branch [
      | then-self-gt-MOST_WAITING+in_ok-settle w ↦ left_none (contents c.args.self.now.waiting.items) c.args.self.now.client.link w.settle.new.self.client.link c.if-self-gt-MOST_WAITING.self.client.link (contents c.reserve.new.self.items) w.in_ok-settle.ensures.put
          (ap contents (c.reserve.ensures.items ∙ ap (λ s. s.waiting.items) w.self-is ∙ w.in_ok-settle.ensures.waiting)) (ap (λ s. s.client.link) w.self-is)
      | else-self-gt-MOST_WAITING w ↦ left_all (contents c.args.self.now.waiting.items) c.args.self.now.client.link c.if-self-gt-MOST_WAITING.self.client.link (contents c.reserve.new.self.items)
          (ap contents (c.reserve.ensures.items ∙ ap (λ s. s.waiting.items) w.self-is)) (ap (λ s. s.client.link) w.self-is)
    ])
