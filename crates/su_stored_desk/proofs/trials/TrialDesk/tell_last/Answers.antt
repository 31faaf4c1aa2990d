use Rattle.std.proofs.Common.{◌≡◌, ◌∙◌, List, [], ◌∷◌, get_or, sym, ap, subst}
use Rattle.std.proofs.lemmas.Result.{IfOk-weaker}
use Rattle.su_desk.specs.declared.entries.Entry.{Entry}
use Rattle.su_desk.specs.Desk.{DeskState}
use Rattle.su_desk.specs.Trial.{with_ready}
use Rattle.su_stored_desk.specs.declared.prepared.Tried.{Tried}
use Rattle.su_stored_desk.specs.Asked.{IsClear}
use Rattle.su_stored_desk.specs.Tried.{TakeAllBack, TakesBack}
use Rattle.su_stored_desk.proofs.Clearness.{known}
use Rattle.su_stored_desk.proofs.trials.TrialDesk.tell_last.Goals as goal

-- the first of what takes one entry back does it
only_back : (d : DeskState) (e : Entry) (ts : List Tried) (t : Tried) → TakeAllBack d (e ∷ []) ts → t ≡ get_or ts 0 t → TakesBack d e t
only_back d e [] t back is = absurd back
only_back d e (u ∷ ts) t (first, rest) is = subst (TakesBack d e) (sym is) first

same_entry : (d e : Entry) → d ∷ [] ≡ e ∷ [] → d ≡ e
same_entry d e is = cc

pub returns-clause-told : goal.returns-clause-told
returns-clause-told g c clear =
    let s = c.self.inside in
    let v = c.args.self.now.state in
    let m = g.S.BlockSource.may_give in
    let k = known m s.desk s.tried.items s.asked.items v (ap (λ t. t.state) c.self.view_is) c.self.invariant in
    let was = subst (IsClear m) (sym c.self.view_is) clear in
    IfOk-weaker c.tell.result _ _
    (λ p told e is. told v.settled e
    (ap (λ (x : Entry). x.author) (sym (same_entry c.requires.0 e (sym c.requires.2 ∙ is))) ∙ c.requires.1)
    (k.seen.whole ∙ ap (with_ready v.settled) is)
    (only_back v.settled e s.tried.items c.index.result.now (subst (λ es. TakeAllBack v.settled es s.tried.items) is (k.back was)) c.index.ensures))
    (c.tell.ensures.told (k.right was))
