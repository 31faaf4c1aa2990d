use Rattle.std.proofs.Common.{◌≡◌, ◌∙◌, ◌+◌, ◌∷◌, [], ℕ, List, Bool, false, map, drop, length, Some, None, subst, ap, refl, arith, rules}
use Rattle.std.proofs.lemmas.Bool.Decides.{nat_tests}
use Rattle.std.specs.Prelude.{slice_get}
use Rattle.std.specs.Global.{Vec}
use Rattle.su_keeper.specs.Kept.{KeptRecord}
use Rattle.su_engine_keeper.specs.Kept.{Keeps}
use Rattle.su_engine_keeper.proofs.KeeperLemmas.{grows, behind_first, first_is, none_among, none_left}
use Rattle.su_engine_keeper.proofs.keepers.EngineKeeper.keep_next.Goals as goal

pub returns-in-Some-clause-kept : goal.returns-in-Some-clause-kept
returns-in-Some-clause-kept g c = λ on records kept.
    let has : List ℕ → List ℕ → Type 0 = λ k v. g.E.Engine.has c.args.self.now.engine k v in
    let rest : List (Vec ℕ) = c.pop_front.new.self.items in
    let found : c.args.self.now.found.items ≡ c.in-Some.found ∷ rest = c.in-Some.ensures.items in
    let on_kept : Keeps has false c.args.self.now.count c.args.self.now.found.items records =
    subst (λ (h : Bool). Keeps has h c.args.self.now.count c.args.self.now.found.items records) on kept in
    let kept' : Keeps has false c.args.self.now.count (c.in-Some.found ∷ rest) records =
    subst (λ (fs : List (Vec ℕ)). Keeps has false c.args.self.now.count fs records) found on_kept in
    let same : c.in-Some.found.items ≡ c.args.commit.now = search rules in
    let bare : length c.args.items.now ≡ 0 = first_of (search rules, grind (arith, nat_tests)) in
    let next : c.in_ok-number.number ≡ c.args.self.now.count + 1 = first_of (omega arith, search rules) in
    let added : KeptRecord = record { commit = c.args.commit.now; items = map (λ item. item.items) c.args.items.now } in
    grows has has (λ k v h. h) c.args.self.now.is_halted c.args.self.now.count c.in_ok-number.number next (c.in-Some.found ∷ rest) rest records added kept'
    (first_is has c.args.self.now.count c.in-Some.found rest c.args.commit.now same (kept'.ahead refl))
    (λ item among. absurd (none_among c.args.items.now item bare among))
    (behind_first has c.args.self.now.count c.in-Some.found rest (kept'.ahead refl))

pub returns-clause-kept : goal.returns-clause-kept
returns-clause-kept g c = λ on records kept.
    let has : List ℕ → List ℕ → Type 0 = λ k v. g.E.Engine.has c.args.self.now.engine k v in
    let has' : List ℕ → List ℕ → Type 0 = λ k v. g.E.Engine.has c.put_next.new.self.engine k v in
    let on_kept : Keeps has false c.args.self.now.count c.args.self.now.found.items records =
    subst (λ (h : Bool). Keeps has h c.args.self.now.count c.args.self.now.found.items records) on kept in
    let was : c.args.self.now.found.items ≡ c.pop_front.new.self.items = c.in-None.ensures.items in
    let left : c.pop_front.new.self.items ≡ drop 1 c.args.self.now.found.items = c.in-None.ensures.rest in
    let none : c.pop_front.new.self.items ≡ [] = none_left c.pop_front.new.self.items (left ∙ ap (drop 1) was) in
    let nothing : c.put_next.new.self.found.items ≡ [] = first_of (cc, search rules) in
    let next : c.in_ok-number.number ≡ c.args.self.now.count + 1 = first_of (omega arith, search rules) in
    let added : KeptRecord = record { commit = c.args.commit.now; items = map (λ item. item.items) c.args.items.now } in
    grows has has' c.put_next.ensures.held c.put_next.new.self.is_halted c.args.self.now.count c.in_ok-number.number next c.args.self.now.found.items c.put_next.new.self.found.items records added on_kept
    c.in_ok-put_next.ensures.made.0 c.in_ok-put_next.ensures.made.1
    (λ i r at. let bad : None ≡ Some r = subst (λ (fs : List (Vec ℕ)). slice_get fs i ≡ Some r) nothing at in absurd cc)
