use Rattle.std.proofs.Common.{◌≡◌, ◌∙◌, ◌⊎◌, ⊎_elim, inl, inr, ◌++◌, ◌∷◌, [], Ok, Err, sym, ap, subst, refl}
use Rattle.std.specs.Prelude.{IfOk}
use Rattle.std.proofs.lemmas.Result.{IfOk-weaker, IfErr-weaker}
use Rattle.su_desk.specs.Answer.{answer}
use Rattle.su_desk.specs.History.{entry_by}
use Rattle.su_bytes.specs.Membership.{Membership}
use Rattle.su_desk.specs.Desk.{DeskState, with_entry}
use Rattle.su_desk.specs.Trial.{TrialState, Tells, ready_with}
use Rattle.su_part_tree.specs.Loading.{IsLoadRefusal}
use Rattle.su_stored_desk.specs.Asked.{NoneMixed}
use Rattle.su_stored_desk.specs.Right.{state_of, HasShape, IsSure}
use Rattle.su_stored_desk.proofs.Replies.{answer_done, answer_refused}
use Rattle.su_stored_desk.proofs.StandingReady.{alone, seen_so}
use Rattle.su_stored_desk.proofs.Clearness.{Known, known, known_made, known_refused, noted, trusted, was_sure, asks_seen, asks_unasked}
use Rattle.su_stored_desk.proofs.TrialLemmas.{on_ok, on_err, refused_by}
use Rattle.su_stored_desk.proofs.trials.TrialDesk.prepare_one.Given.{Over}
use Rattle.su_stored_desk.proofs.trials.TrialDesk.prepare_one.Goals as goal

-- the change stands ready
ready : (g : Over) (c : goal.After-push_reserved g) → Known g.S.BlockSource.may_give c.attempt.new.self c.push_reserved.new.self.items c.and-self-inside.result.items (ready_with c.args.self.now.state.settled (entry_by c.args.author c.args.format c.args.change))
ready g c =
    let s = c.self.inside in
    let v = c.args.self.now.state in
    let m = g.S.BlockSource.may_give in
    let k = known m s.desk s.tried.items s.asked.items v (ap (λ t. t.state) c.self.view_is) c.self.invariant in
    subst (λ es. Known m c.attempt.new.self c.push_reserved.new.self.items c.and-self-inside.result.items (record { settled = v.settled; ready = es ++ entry_by c.args.author c.args.format c.args.change ∷ [] })) c.requires.none_ready
    (known_made m s.desk c.attempt.new.self s.tried.items c.push_reserved.new.self.items s.asked.items c.and-self-inside.result.items v (entry_by c.args.author c.args.format c.args.change) c.in_ok-tried.tried k
    (c.push_reserved.ensures.items ∙ ap (λ ts. ts ++ c.in_ok-tried.tried ∷ []) c.in_ok-reserve.ensures.items)
    (noted m s.desk c.source.result.now c.and-self-inside.result.items s.asked.items c.and-self-inside.ensures c.source.ensures)
    c.in_ok-tried.ensures.done c.attempt.ensures.numbers c.in_ok-tried.ensures.numbered c.attempt.ensures.right c.in_ok-tried.ensures.tried)

-- nothing stood ready, and so the desk was what is settled
same : (g : Over) (c : goal.After-push_reserved g) → state_of c.self.inside.desk ≡ c.args.self.now.state.settled
same g c =
    let s = c.self.inside in
    let v = c.args.self.now.state in
    alone (state_of s.desk) s.tried.items v (known g.S.BlockSource.may_give s.desk s.tried.items s.asked.items v (ap (λ t. t.state) c.self.view_is) c.self.invariant).seen c.requires.none_ready

-- where nothing was mixed up, it was right
sure_then : (g : Over) (c : goal.After-push_reserved g) → NoneMixed g.S.BlockSource.may_give c.attempt.new.self.roster c.and-self-inside.result.items → IsSure g.S.BlockSource.may_give c.self.inside.desk
sure_then g c clear =
    let s = c.self.inside in
    let v = c.args.self.now.state in
    let m = g.S.BlockSource.may_give in
    was_sure m s.desk c.attempt.new.self s.tried.items s.asked.items c.and-self-inside.result.items v
    (known m s.desk s.tried.items s.asked.items v (ap (λ t. t.state) c.self.view_is) c.self.invariant)
    (noted m s.desk c.source.result.now c.and-self-inside.result.items s.asked.items c.and-self-inside.ensures c.source.ensures)
    (ap (λ (x : DeskState). x.roster) c.in_ok-tried.ensures.done) clear

pub invariant_of-self-2 : goal.invariant_of-self-2
invariant_of-self-2 g c = trusted g.S.BlockSource.may_give _ _ _ _ (ready g c)

pub returns-clause-ready : goal.returns-clause-ready
returns-clause-ready g c = on_ok c.tell-prepared.result (seen_so _ _ _ (ready g c).seen)

pub returns-clause-err : goal.returns-clause-err
returns-clause-err g c = on_err c.tell-prepared.result (ap (λ (v : TrialState). v.settled) (seen_so _ _ _ (ready g c).seen))

pub returns-clause-accepted : goal.returns-clause-accepted
returns-clause-accepted g c clear =
    let s = c.self.inside in
    let e = entry_by c.args.author c.args.format c.args.change in
    let sure = sure_then g c clear in
    IfOk-weaker c.tell-prepared.result _ _
    (λ prepared told.
    subst (λ (x : DeskState). answer x.roster x.history e ≡ Ok prepared.number) (same g c)
    (answer_done s.desk.roster s.desk.entries.items e (c.in_ok-tried.ensures.accepted sure)
    ∙ ap Ok (sym (told (state_of s.desk) e refl c.in_ok-tried.ensures.done (c.in_ok-tried.ensures.tried sure)).number)))
    (c.tell-prepared.ensures.told (c.attempt.ensures.right sure))

pub returns-clause-told : goal.returns-clause-told
returns-clause-told g c clear =
    let s = c.self.inside in
    let e = entry_by c.args.author c.args.format c.args.change in
    let sure = sure_then g c clear in
    IfOk-weaker c.tell-prepared.result _ _
    (λ prepared told.
    subst (λ (x : DeskState). Tells x e prepared) (same g c) (told (state_of s.desk) e refl c.in_ok-tried.ensures.done (c.in_ok-tried.ensures.tried sure)))
    (c.tell-prepared.ensures.told (c.attempt.ensures.right sure))

pub returns-clause-shape : goal.returns-clause-shape
returns-clause-shape g c =
    subst (λ (ro : Membership). IfOk c.tell-prepared.result (HasShape ro)) (ap (λ (x : DeskState). x.roster) (c.in_ok-tried.ensures.done ∙ ap (λ (x : DeskState). with_entry x (entry_by c.args.author c.args.format c.args.change)) (same g c)))
    (c.tell-prepared.ensures.shape (ready g c).numbers)

pub returns-clause-refused : goal.returns-clause-refused
returns-clause-refused g c clear =
    let d = c.args.self.now.state.settled in
    IfErr-weaker c.tell-prepared.result _ _ (λ e none. inl (inr (inr (inr (inl none))))) c.tell-prepared.ensures.refused

pub returns-clause-asks : goal.returns-clause-asks
returns-clause-asks g c =
    let s = c.self.inside in
    let m = g.S.BlockSource.may_give in
    asks_seen m s.desk c.attempt.new.self s.tried.items c.push_reserved.new.self.items s.asked.items c.and-self-inside.result.items c.args.self.now c.self.view_is
    (noted m s.desk c.source.result.now c.and-self-inside.result.items s.asked.items c.and-self-inside.ensures c.source.ensures)
    (ap (λ (x : DeskState). x.roster) c.in_ok-tried.ensures.done) c.attempt.ensures.source

-- ---- it was refused

pub invariant_of-self-in_err-tried : goal.invariant_of-self-in_err-tried
invariant_of-self-in_err-tried g c =
    let s = c.self.inside in
    let v = c.args.self.now.state in
    let m = g.S.BlockSource.may_give in
    let k = known m s.desk s.tried.items s.asked.items v (ap (λ t. t.state) c.self.view_is) c.self.invariant in
    trusted m c.attempt.new.self c.reserve.new.self.items c.and-self-inside.result.items v
    (known_refused m s.desk c.attempt.new.self s.tried.items c.reserve.new.self.items s.asked.items c.and-self-inside.result.items v k c.in_ok-reserve.ensures.items
    (noted m s.desk c.source.result.now c.and-self-inside.result.items s.asked.items c.and-self-inside.ensures c.source.ensures)
    c.in_err-tried.ensures.err c.attempt.ensures.numbers c.attempt.ensures.right)

pub returns-in_err-tried-clause-refused : goal.returns-in_err-tried-clause-refused
returns-in_err-tried-clause-refused g c clear =
    let s = c.self.inside in
    let v = c.args.self.now.state in
    let m = g.S.BlockSource.may_give in
    let e = entry_by c.args.author c.args.format c.args.change in
    let x = c.in_err-tried.field-0.0 in
    let k = known m s.desk s.tried.items s.asked.items v (ap (λ t. t.state) c.self.view_is) c.self.invariant in
    let sure = was_sure m s.desk c.attempt.new.self s.tried.items s.asked.items c.and-self-inside.result.items v k
    (noted m s.desk c.source.result.now c.and-self-inside.result.items s.asked.items c.and-self-inside.ensures c.source.ensures)
    (ap (λ (x : DeskState). x.roster) c.in_err-tried.ensures.err) clear in
    refused_by (λ r. IsLoadRefusal r ⊎ (answer v.settled.roster v.settled.history e ≡ Err r)) c.from_residual-in_err-tried.result x c.from_residual-in_err-tried.ensures.1
    (⊎_elim (λ fails. inl fails.0)
    (λ refused. inr (subst (λ (d : DeskState). answer d.roster d.history e ≡ Err x) (alone (state_of s.desk) s.tried.items v k.seen c.requires.none_ready) (answer_refused s.desk.roster s.desk.entries.items e x refused)))
    (c.in_err-tried.ensures.refused sure))

pub returns-in_err-tried-clause-asks : goal.returns-in_err-tried-clause-asks
returns-in_err-tried-clause-asks g c =
    let s = c.self.inside in
    let m = g.S.BlockSource.may_give in
    asks_seen m s.desk c.attempt.new.self s.tried.items c.reserve.new.self.items s.asked.items c.and-self-inside.result.items c.args.self.now c.self.view_is
    (noted m s.desk c.source.result.now c.and-self-inside.result.items s.asked.items c.and-self-inside.ensures c.source.ensures)
    (ap (λ (x : DeskState). x.roster) c.in_err-tried.ensures.err) c.attempt.ensures.source

pub returns-in_err-reserve-clause-asks : goal.returns-in_err-reserve-clause-asks
returns-in_err-reserve-clause-asks g c =
    let s = c.self.inside in
    asks_unasked g.S.BlockSource.may_give g.met.S.BlockSource.follows_itself s.desk s.tried.items c.reserve.new.self.items s.asked.items c.args.self.now c.self.view_is
