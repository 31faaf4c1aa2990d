use Rattle.std.proofs.Common.{◌≡◌, ◌∙◌, ◌+◌, ◌-◌, ◌∷◌, ◌++◌, [], Some, take, slice_get, sym, ap, arith}
use Rattle.std.proofs.lemmas.List.{take_more}
use Rattle.std.proofs.lemmas.Option.{get_or_from_slice_get, slice_get_within}
use Rattle.su_desk.specs.Desk.{with_entry}
use Rattle.su_desk.specs.Trial.{TrialState}
use Rattle.su_legal.specs.Legal.{history}
use Rattle.su_stored_desk.proofs.Public.{gives_never, quiet_is_clear}
use Rattle.su_view.proofs.views.View.desk_anew.Goals as goal

pub loop-before-preserved : goal.loop-before-preserved
loop-before-preserved g c =
    let all = history c.args.self.now.holding.held in
    let i = c.loop-before.before in
    let d = c.loop-before.desk.state.settled in
    let e = c.in_ok-author.field-0 in
    let index : i + 1 - 1 ≡ i = omega arith in
    let at : slice_get all i ≡ Some e = sym (ap (slice_get all) index) ∙ c.in_ok-author.ensures in
    let more = take_more all i e (slice_get_within all i e at) ∙ ap (λ x. take i all ++ x ∷ []) (get_or_from_slice_get all i e e at) in
    let clear = quiet_is_clear _ c.apply_as.new.self (gives_never _ (λ s item none. none) c.apply_as.new.self) in
    let done : c.apply_as.new.self.state.settled ≡ with_entry d e = (c.in_ok-apply_as.ensures.answered clear).1 in
    let settled : c.apply_as.new.self.state.settled ≡ record { roster = c.args.self.now.holding.roster; history = take (i + 1) all } =
    done ∙ ap (λ (t : TrialState). with_entry t.settled e) c.loop-before.invariant
    ∙ (λ j. record { roster = c.args.self.now.holding.roster; history = sym more j }) in
    (λ j. record { settled = settled j; ready = c.in_ok-apply_as.ensures.none_ready j })
