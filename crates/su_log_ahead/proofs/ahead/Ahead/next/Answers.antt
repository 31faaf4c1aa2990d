use Rattle.std.proofs.Common.{◌≡◌, length, sym, subst, arith}
use Rattle.std.proofs.lemmas.List.{nil_from_length}
use Rattle.su_log_ahead.specs.Ahead.{IsLeft}
use Rattle.su_log_ahead.proofs.AheadLemmas.{ahead, left_behind, stopped}
use Rattle.su_log_ahead.proofs.ahead.Ahead.next.Goals as goal
use Rattle.su_log_ahead.proofs.ahead.Ahead.next.Goals.{then-is_used_up, else-is_used_up}

pub returns-in-Some-clause-next : goal.returns-in-Some-clause-next
returns-in-Some-clause-next g c = λ place input l.
    let here : IsLeft c.if-is_used_up.self place input = elim c.if-is_used_up.branch [ then-is_used_up w ↦ rw w.self-is (w.read_ahead.ensures.left place input l) | else-is_used_up w ↦ rw w.self-is l ] in
    let inside = c.self-2.inside in
    let there = subst (λ s. IsLeft s place input) (sym c.self-2.view_is) here in
    left_behind (ahead inside.records.items inside.stop inside.log.place (g.R.Read.remaining inside.log.reader)) c.in-Some.next c.pop_front.new.self.items place input c.in-Some.ensures.items there

pub returns-in-Some-take-clause-next : goal.returns-in-Some-take-clause-next
returns-in-Some-take-clause-next g c = λ place input l.
    let here : IsLeft c.if-is_used_up.self place input = elim c.if-is_used_up.branch [ then-is_used_up w ↦ rw w.self-is (w.read_ahead.ensures.left place input l) | else-is_used_up w ↦ rw w.self-is l ] in
    let inside = c.self-2.inside in
    let there = subst (λ s. IsLeft s place input) (sym c.self-2.view_is) here in
    let long : length inside.records.items ≡ 0 = omega (arith, c.in-None.ensures.cases.0, inside.records.ok) in
    stopped (ahead inside.records.items inside.stop inside.log.place (g.R.Read.remaining inside.log.reader)) c.in-Some-take.stop place input
    (nil_from_length _ long) (sym c.in-Some-take.ensures.value) there
