use Rattle.std.proofs.Common.{◌≡◌, ◌-◌, sym, ◌∙◌, ap, subst}
use Rattle.std.specs.Prelude.{Some, None}
use Rattle.su_shared_items.specs.Section.{pins_of, Recounts, one_fewer, is_last}
use Rattle.su_shared_items.proofs.Counting.{at_digest}
use Rattle.su_shared_items.proofs.Pinning.{recounts_updated, recounts_same, one_left, more_left, surely}
use Rattle.su_shared_items.proofs.pins.Pins.subtract.Goals as goal
use Rattle.su_shared_items.proofs.pins.Pins.subtract.Goals.{In_default}

none : (c : In_default) → pins_of c.args.self.now c.args.digest.now ≡ None
none c =
    sym (c.copied.ensures ∙ c.get.ensures.value
    ∙ at_digest c.as_bytes-key.result.now c.args.digest.now c.self.inside.counts.entries c.as_bytes-key.ensures
    ∙ ap (λ pins. pins_of pins c.args.digest.now) c.self.view_is) ∙ c.in_default.is

one : (c : goal.After-remove) → pins_of c.args.self.now c.args.digest.now ≡ Some c.in-Some.count
one c =
    sym (c.copied.ensures ∙ c.get.ensures.value
    ∙ at_digest c.as_bytes-key.result.now c.args.digest.now c.self.inside.counts.entries c.as_bytes-key.ensures
    ∙ ap (λ pins. pins_of pins c.args.digest.now) c.self.view_is) ∙ c.in-Some.is

more : (c : goal.After-insert) → pins_of c.args.self.now c.args.digest.now ≡ Some c.in-Some.count
more c =
    sym (c.copied.ensures ∙ c.get.ensures.value
    ∙ at_digest c.as_bytes-key.result.now c.args.digest.now c.self.inside.counts.entries c.as_bytes-key.ensures
    ∙ ap (λ pins. pins_of pins c.args.digest.now) c.self.view_is) ∙ c.in-Some.is

pub returns-in_default-clause-last : goal.returns-in_default-clause-last
returns-in_default-clause-last c = sym (ap is_last (none c))

pub returns-in_default-clause-fewer : goal.returns-in_default-clause-fewer
returns-in_default-clause-fewer c =
    subst (λ o. Recounts c.args.digest.now o c.args.self.now c.args.self.now) (none c ∙ sym (ap one_fewer (none c))) (recounts_same c.args.digest.now c.args.self.now)

pub returns-then-count-le1-clause-last : goal.returns-then-count-le1-clause-last
returns-then-count-le1-clause-last c =
    sym (one_left (pins_of c.args.self.now c.args.digest.now) c.in-Some.count (one c) c.if-count-le1.true).0

pub returns-then-count-le1-clause-fewer : goal.returns-then-count-le1-clause-fewer
returns-then-count-le1-clause-fewer c =
    let none = (one_left (pins_of c.args.self.now c.args.digest.now) c.in-Some.count (one c) c.if-count-le1.true).1 in
    subst (λ o. Recounts c.args.digest.now o c.args.self.now c.remove.new.self.entries) (sym none)
    (subst (λ old. Recounts c.args.digest.now None old c.remove.new.self.entries) c.self.view_is
    (recounts_updated c.as_bytes-key.result.now c.args.digest.now None c.self.inside.counts.entries c.remove.new.self.entries c.as_bytes-key.ensures c.remove.ensures.updates.0))

pub returns-clause-last : goal.returns-clause-last
returns-clause-last c =
    sym (more_left (pins_of c.args.self.now c.args.digest.now) c.in-Some.count (more c) c.if-count-le1.false).0

pub returns-clause-fewer : goal.returns-clause-fewer
returns-clause-fewer c =
    let left = (more_left (pins_of c.args.self.now c.args.digest.now) c.in-Some.count (more c) c.if-count-le1.false).1 in
    let updates = surely c.insert.result _ c.in-Some.count c.insert.ensures.updates c.insert.ensures.absent (sym (c.copied.ensures ∙ c.get.ensures.value) ∙ c.in-Some.is) in
    subst (λ o. Recounts c.args.digest.now o c.args.self.now c.insert.new.self.entries) (sym left)
    (subst (λ old. Recounts c.args.digest.now (Some (c.in-Some.count - 1)) old c.insert.new.self.entries) c.self.view_is
    (recounts_updated c.as_bytes-key.result.now c.args.digest.now (Some (c.in-Some.count - 1)) c.self.inside.counts.entries c.insert.new.self.entries c.as_bytes-key.ensures updates.0))
