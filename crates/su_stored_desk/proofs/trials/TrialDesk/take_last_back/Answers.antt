use Rattle.std.proofs.Common.{◌≡◌, ◌∙◌, ◌++◌, ◌∷◌, [], sym, ap, subst}
use Rattle.su_desk.specs.Desk.{DeskState}
use Rattle.su_desk.specs.Trial.{without_last}
use Rattle.su_stored_desk.specs.Asked.{NoneMixed}
use Rattle.su_stored_desk.proofs.StandingReady.{seen_so}
use Rattle.su_stored_desk.proofs.Clearness.{Known, known, trusted, asking, noted, sure, takes_last, known_less, known_kept, asks_seen, asks_unasked}
use Rattle.su_stored_desk.proofs.trials.TrialDesk.take_last_back.Given.{Over}
use Rattle.su_stored_desk.proofs.trials.TrialDesk.take_last_back.Goals as goal
use Rattle.su_stored_desk.proofs.trials.TrialDesk.take_last_back.Goals.{In_default-take_back}

-- what still stands ready
left : (g : Over) (c : In_default-take_back g) → Known g.S.BlockSource.may_give c.take_back.new.self c.pop.new.self.items c.and-self-inside.result.items (without_last c.args.self.now.state)
left g c =
    let s = c.self.inside in
    let v = c.args.self.now.state in
    let m = g.S.BlockSource.may_give in
    let k = subst (λ ts. Known m s.desk ts s.asked.items v) c.in-Some.ensures.items (known m s.desk s.tried.items s.asked.items v (ap (λ t. t.state) c.self.view_is) c.self.invariant) in
    let more = noted m s.desk c.source.result.now c.and-self-inside.result.items s.asked.items c.and-self-inside.ensures c.source.ensures in
    subst (λ l. Known m c.take_back.new.self c.pop.new.self.items l (without_last v)) (sym more)
    (known_less m s.desk c.take_back.new.self c.pop.new.self.items c.in-Some.tried s.asked.items v k c.in_default-take_back.ensures.ok c.take_back.ensures.numbers_kept c.take_back.ensures.right)

pub invariant_of-self-in_default-take_back : goal.invariant_of-self-in_default-take_back
invariant_of-self-in_default-take_back g c = trusted g.S.BlockSource.may_give c.take_back.new.self c.pop.new.self.items c.and-self-inside.result.items (without_last c.args.self.now.state) (left g c)

pub returns-clause-ok : goal.returns-clause-ok
returns-clause-ok g c = seen_so _ _ _ (left g c).seen

pub returns-clause-asks : goal.returns-clause-asks
returns-clause-asks g c =
    let s = c.self.inside in
    let m = g.S.BlockSource.may_give in
    asks_seen m s.desk c.take_back.new.self s.tried.items c.pop.new.self.items s.asked.items c.and-self-inside.result.items c.args.self.now c.self.view_is
    (noted m s.desk c.source.result.now c.and-self-inside.result.items s.asked.items c.and-self-inside.ensures c.source.ensures)
    (ap (λ (x : DeskState). x.roster) c.in_default-take_back.ensures.ok) c.take_back.ensures.source

-- or all of it
pub invariant_of-self-in-Err : goal.invariant_of-self-in-Err
invariant_of-self-in-Err g c =
    let s = c.self.inside in
    let v = c.args.self.now.state in
    let m = g.S.BlockSource.may_give in
    let k = subst (λ ts. Known m s.desk ts s.asked.items v) c.in-Some.ensures.items (known m s.desk s.tried.items s.asked.items v (ap (λ t. t.state) c.self.view_is) c.self.invariant) in
    let more = noted m s.desk c.source.result.now c.and-self-inside.result.items s.asked.items c.and-self-inside.ensures c.source.ensures in
    let again : c.push_reserved.new.self.items ≡ c.pop.new.self.items ++ c.in-Some.tried ∷ [] = c.push_reserved.ensures.items ∙ ap (λ t. c.pop.new.self.items ++ t ∷ []) c.in-Err.ensures.tried in
    trusted m c.take_back.new.self c.push_reserved.new.self.items c.and-self-inside.result.items v
    (subst (λ l. Known m c.take_back.new.self c.push_reserved.new.self.items l v) (sym more)
    (subst (λ ts. Known m c.take_back.new.self ts (s.asked.items ++ asking m s.desk ∷ []) v) (sym again)
    (known_kept m s.desk c.take_back.new.self c.pop.new.self.items c.in-Some.tried s.asked.items v k c.in-Err.ensures.err c.take_back.ensures.numbers_kept c.take_back.ensures.right)))

pub returns-in-Err-clause-refused : goal.returns-in-Err-clause-refused
returns-in-Err-clause-refused g c clear =
    let s = c.self.inside in
    let v = c.args.self.now.state in
    let m = g.S.BlockSource.may_give in
    let k = subst (λ ts. Known m s.desk ts s.asked.items v) c.in-Some.ensures.items (known m s.desk s.tried.items s.asked.items v (ap (λ t. t.state) c.self.view_is) c.self.invariant) in
    let more = noted m s.desk c.source.result.now c.and-self-inside.result.items s.asked.items c.and-self-inside.ensures c.source.ensures in
    let clear' = subst (λ l. NoneMixed m s.desk.roster l) more (subst (λ ro. NoneMixed m ro c.and-self-inside.result.items) (ap (λ (x : DeskState). x.roster) c.in-Err.ensures.err) clear) in
    (c.in-Err.ensures.refused (sure m s.desk (c.pop.new.self.items ++ c.in-Some.tried ∷ []) s.asked.items v k clear') (takes_last m s.desk c.pop.new.self.items c.in-Some.tried s.asked.items v k clear')).0

pub returns-in-Err-clause-asks : goal.returns-in-Err-clause-asks
returns-in-Err-clause-asks g c =
    let s = c.self.inside in
    let m = g.S.BlockSource.may_give in
    asks_seen m s.desk c.take_back.new.self s.tried.items c.push_reserved.new.self.items s.asked.items c.and-self-inside.result.items c.args.self.now c.self.view_is
    (noted m s.desk c.source.result.now c.and-self-inside.result.items s.asked.items c.and-self-inside.ensures c.source.ensures)
    (ap (λ (x : DeskState). x.roster) c.in-Err.ensures.err) c.take_back.ensures.source

-- nothing stood ready
pub returns-in_default-clause-asks : goal.returns-in_default-clause-asks
returns-in_default-clause-asks g c =
    let s = c.self.inside in
    asks_unasked g.S.BlockSource.may_give g.met.S.BlockSource.follows_itself s.desk s.tried.items c.pop.new.self.items s.asked.items c.args.self.now c.self.view_is
