use Rattle.std.proofs.Common.{rules, ◌≡◌, ◌∙◌, ◌⊎◌, ⊎_elim, inl, inr, sym, ap, None, Some, ◌++◌, ◌∷◌, []}
use Rattle.su_op.specs.declared.operations.Op.{Op}
use Rattle.su_op.specs.declared.operations.Change.{Change}
use Rattle.su_op.specs.declared.operations.Change.TheVariants.{Do}
use Rattle.su_op.specs.Action.{action_by as one_by}
use Rattle.su_op.specs.Operation.{why as why_one, effect as effect_of_one}
use Rattle.su_op.specs.Batch.{action_by, why}
use Rattle.su_op.proofs.Public.{why_alone, effect_alone}
use Rattle.su_part_tree.specs.Loading.{IsLoadRefusal}
use Rattle.su_desk.specs.Answer.{format_refusal, refusal_of}
use Rattle.su_desk.specs.Desk.{DeskState, with_entry}
use Rattle.su_desk.specs.History.{entry_by}
use Rattle.su_desk.specs.Trial.{TrialState, tree_of, tree_with_ready}
use Rattle.su_desk.proofs.RehearsalLemmas.{effect_done, why_accepted, why_refused}
use Rattle.su_stored_desk.specs.Asked.{NoneMixed}
use Rattle.su_stored_desk.specs.Right.{state_of, IsSure}
use Rattle.su_stored_desk.proofs.Replies.{answer_refused}
use Rattle.su_stored_desk.proofs.StandingReady.{seen_so}
use Rattle.su_stored_desk.proofs.Clearness.{Known, known, known_made, known_refused, noted, trusted, was_sure, asks_seen, asks_unasked}
use Rattle.su_stored_desk.proofs.TrialLemmas.{refused_by}
use Rattle.su_stored_desk.proofs.trials.TrialDesk.try_next.Given.{Over}
use Rattle.su_stored_desk.proofs.trials.TrialDesk.try_next.Goals as goal

-- the operation stands ready behind what did
more : (g : Over) (c : goal.After-push_reserved g) → Known g.S.BlockSource.may_give c.attempt.new.self c.push_reserved.new.self.items c.and-self-inside.result.items
    (record { settled = c.args.self.now.state.settled; ready = c.args.self.now.state.ready ++ entry_by c.args.author c.args.format c.of-change.result ∷ [] })
more g c =
    let s = c.self.inside in
    let v = c.args.self.now.state in
    let m = g.S.BlockSource.may_give in
    known_made m s.desk c.attempt.new.self s.tried.items c.push_reserved.new.self.items s.asked.items c.and-self-inside.result.items v (entry_by c.args.author c.args.format c.of-change.result) c.in_ok-tried.tried
    (known m s.desk s.tried.items s.asked.items v (ap (λ t. t.state) c.self.view_is) c.self.invariant)
    (c.push_reserved.ensures.items ∙ ap (λ ts. ts ++ c.in_ok-tried.tried ∷ []) c.in_ok-reserve.ensures.items)
    (noted m s.desk c.source.result.now c.and-self-inside.result.items s.asked.items c.and-self-inside.ensures c.source.ensures)
    c.in_ok-tried.ensures.done c.attempt.ensures.numbers c.in_ok-tried.ensures.numbered c.attempt.ensures.right c.in_ok-tried.ensures.tried

-- where nothing was mixed up, the desk was right
sure_then : (g : Over) (c : goal.After-push_reserved g) → NoneMixed g.S.BlockSource.may_give c.attempt.new.self.roster c.and-self-inside.result.items → IsSure g.S.BlockSource.may_give c.self.inside.desk
sure_then g c clear =
    let s = c.self.inside in
    let v = c.args.self.now.state in
    let m = g.S.BlockSource.may_give in
    was_sure m s.desk c.attempt.new.self s.tried.items s.asked.items c.and-self-inside.result.items v
    (known m s.desk s.tried.items s.asked.items v (ap (λ t. t.state) c.self.view_is) c.self.invariant)
    (noted m s.desk c.source.result.now c.and-self-inside.result.items s.asked.items c.and-self-inside.ensures c.source.ensures)
    (ap (λ (x : DeskState). x.roster) c.in_ok-tried.ensures.done) clear

-- the change is the one operation
is_one : (ch : Change) (x y : Op) → ch ≡ Do (x ∷ []) → x ≡ y → ch ≡ Do (y ∷ [])
is_one ch x y made same = made ∙ ap (λ o. Do (o ∷ [])) same

-- the desk with what stands ready
whole : (g : Over) (c : goal.After-push_reserved g) → state_of c.self.inside.desk ≡ record { roster = c.args.self.now.state.settled.roster; history = c.args.self.now.state.settled.history ++ c.args.self.now.state.ready }
whole g c =
    let s = c.self.inside in
    let v = c.args.self.now.state in
    (known g.S.BlockSource.may_give s.desk s.tried.items s.asked.items v (ap (λ t. t.state) c.self.view_is) c.self.invariant).seen.whole

pub invariant_of-self-2 : goal.invariant_of-self-2
invariant_of-self-2 g c = trusted g.S.BlockSource.may_give _ _ _ _ (more g c)

-- the operation was accepted where it came
accepted : (g : Over) (c : goal.After-push_reserved g) → IsSure g.S.BlockSource.may_give c.self.inside.desk → why c.self.inside.desk.roster (tree_of (state_of c.self.inside.desk)) (action_by c.args.author c.args.format (c.args.operation.now ∷ [])) ≡ None
accepted g c sure =
    let s = c.self.inside in
    let same : c.in_ok-clone.field-0 ≡ c.args.operation.now = search rules in
    let one = is_one c.of-change.result c.in_ok-clone.field-0 c.args.operation.now c.of-change.ensures same in
    why_accepted (state_of s.desk) (action_by c.args.author c.args.format (c.args.operation.now ∷ []))
    (ap (λ ch. refusal_of s.desk.roster s.desk.entries.items (entry_by c.args.author c.args.format ch)) (sym one) ∙ c.in_ok-tried.ensures.accepted sure)

pub returns-clause-accepted : goal.returns-clause-accepted
returns-clause-accepted g c clear =
    let s = c.self.inside in
    ap (λ (d : DeskState). why_one d.roster (tree_of d) (one_by c.args.author c.args.format c.args.operation.now)) (sym (whole g c))
    ∙ sym (why_alone s.desk.roster (tree_of (state_of s.desk)) c.args.author c.args.format c.args.operation.now)
    ∙ accepted g c (sure_then g c clear)

pub returns-clause-effect : goal.returns-clause-effect
returns-clause-effect g c clear =
    let s = c.self.inside in
    let a = c.args.author in
    let f = c.args.format in
    let op = c.args.operation.now in
    let sure = sure_then g c clear in
    let same : c.in_ok-clone.field-0 ≡ op = search rules in
    let one = is_one c.of-change.result c.in_ok-clone.field-0 op c.of-change.ensures same in
    ap tree_with_ready (seen_so _ _ _ (more g c).seen)
    ∙ ap tree_of (sym (more g c).seen.whole)
    ∙ ap tree_of c.in_ok-tried.ensures.done
    ∙ ap (λ ch. tree_of (with_entry (state_of s.desk) (entry_by a f ch))) one
    ∙ effect_done (state_of s.desk) (action_by a f (op ∷ [])) sure.right.keeps.good (accepted g c sure)
    ∙ effect_alone s.desk.roster (tree_of (state_of s.desk)) a f op
    ∙ ap (λ (d : DeskState). effect_of_one d.roster (tree_of d) (one_by a f op)) (whole g c)

pub returns-clause-ready : goal.returns-clause-ready
returns-clause-ready g c =
    let v = c.args.self.now.state in
    let same : c.in_ok-clone.field-0 ≡ c.args.operation.now = search rules in
    let one = is_one c.of-change.result c.in_ok-clone.field-0 c.args.operation.now c.of-change.ensures same in
    ap (λ (t : TrialState). t.ready) (seen_so _ _ _ (more g c).seen)
    ∙ ap (λ ch. v.ready ++ entry_by c.args.author c.args.format ch ∷ []) one

pub returns-clause-settled : goal.returns-clause-settled
returns-clause-settled g c = ap (λ (t : TrialState). t.settled) (seen_so _ _ _ (more g c).seen)

pub returns-clause-asks : goal.returns-clause-asks
returns-clause-asks g c =
    let s = c.self.inside in
    let m = g.S.BlockSource.may_give in
    asks_seen m s.desk c.attempt.new.self s.tried.items c.push_reserved.new.self.items s.asked.items c.and-self-inside.result.items c.args.self.now c.self.view_is
    (noted m s.desk c.source.result.now c.and-self-inside.result.items s.asked.items c.and-self-inside.ensures c.source.ensures)
    (ap (λ (x : DeskState). x.roster) c.in_ok-tried.ensures.done) c.attempt.ensures.source

-- ---- it was refused

pub invariant_of-self-in_err-tried : goal.invariant_of-self-in_err-tried
invariant_of-self-in_err-tried g c =
    let s = c.self.inside in
    let v = c.args.self.now.state in
    let m = g.S.BlockSource.may_give in
    let k = known m s.desk s.tried.items s.asked.items v (ap (λ t. t.state) c.self.view_is) c.self.invariant in
    trusted m c.attempt.new.self c.reserve.new.self.items c.and-self-inside.result.items v
    (known_refused m s.desk c.attempt.new.self s.tried.items c.reserve.new.self.items s.asked.items c.and-self-inside.result.items v k c.in_ok-reserve.ensures.items
    (noted m s.desk c.source.result.now c.and-self-inside.result.items s.asked.items c.and-self-inside.ensures c.source.ensures)
    c.in_err-tried.ensures.err c.attempt.ensures.numbers c.attempt.ensures.right)

pub returns-in_err-tried-clause-refused : goal.returns-in_err-tried-clause-refused
returns-in_err-tried-clause-refused g c clear =
    let s = c.self.inside in
    let v = c.args.self.now.state in
    let m = g.S.BlockSource.may_give in
    let a = c.args.author in
    let f = c.args.format in
    let op = c.args.operation.now in
    let x = c.in_err-tried.field-0.0 in
    let k = known m s.desk s.tried.items s.asked.items v (ap (λ t. t.state) c.self.view_is) c.self.invariant in
    let sure = was_sure m s.desk c.attempt.new.self s.tried.items s.asked.items c.and-self-inside.result.items v k
    (noted m s.desk c.source.result.now c.and-self-inside.result.items s.asked.items c.and-self-inside.ensures c.source.ensures)
    (ap (λ (x : DeskState). x.roster) c.in_err-tried.ensures.err) clear in
    let same : c.in_ok-clone.field-0 ≡ op = search rules in
    let one = is_one c.of-change.result c.in_ok-clone.field-0 op c.of-change.ensures same in
    let fits : format_refusal s.desk.entries.items f (Do (op ∷ [])) ≡ None = ap (λ (d : DeskState). format_refusal d.history f (Do (op ∷ []))) k.seen.whole ∙ c.requires in
    refused_by (λ r. IsLoadRefusal r ⊎ (why_one v.settled.roster (tree_with_ready v) (one_by a f op) ≡ Some r)) c.from_residual-in_err-tried.result x c.from_residual-in_err-tried.ensures.1
    (⊎_elim (λ fails. inl fails.0)
    (λ refused. inr (
    ap (λ (d : DeskState). why_one d.roster (tree_of d) (one_by a f op)) (sym k.seen.whole)
    ∙ sym (why_alone s.desk.roster (tree_of (state_of s.desk)) a f op)
    ∙ why_refused (state_of s.desk) (action_by a f (op ∷ [])) x fits
    (answer_refused s.desk.roster s.desk.entries.items (entry_by a f (Do (op ∷ []))) x (ap (λ ch. refusal_of s.desk.roster s.desk.entries.items (entry_by a f ch)) (sym one) ∙ refused))))
    (c.in_err-tried.ensures.refused sure))

pub returns-in_err-tried-clause-asks : goal.returns-in_err-tried-clause-asks
returns-in_err-tried-clause-asks g c =
    let s = c.self.inside in
    let m = g.S.BlockSource.may_give in
    asks_seen m s.desk c.attempt.new.self s.tried.items c.reserve.new.self.items s.asked.items c.and-self-inside.result.items c.args.self.now c.self.view_is
    (noted m s.desk c.source.result.now c.and-self-inside.result.items s.asked.items c.and-self-inside.ensures c.source.ensures)
    (ap (λ (x : DeskState). x.roster) c.in_err-tried.ensures.err) c.attempt.ensures.source

pub returns-in_err-reserve-clause-asks : goal.returns-in_err-reserve-clause-asks
returns-in_err-reserve-clause-asks g c =
    let s = c.self.inside in
    asks_unasked g.S.BlockSource.may_give g.met.S.BlockSource.follows_itself s.desk s.tried.items c.reserve.new.self.items s.asked.items c.args.self.now c.self.view_is
