use Rattle.std.proofs.Common.{◌≡◌, ◌⊎◌, None, Ok, Err, IfOk, refl}
use Rattle.std.specs.Prelude.{IfErr}
use Rattle.su_part_tree.specs.Loading.{IsLoadRefusal}
use Rattle.su_draft.specs.Walk.{found}
use Rattle.su_view.proofs.AskLemmas.{asks_seen, on_list, still_settled}
use Rattle.su_view.proofs.KeepingLemmas.{keeping_desk}
use Rattle.su_view.proofs.views.View.find.Goals as goal

pub invariant_of-self : goal.invariant_of-self
invariant_of-self g c = keeping_desk g.S.BlockSource.may_give c.self.inside.keeping (record c.self.inside.keeping { desk = c.find.new.desk }) c.self.invariant refl (still_settled c.find.result c.self.inside.keeping.desk.state c.find.new.desk.state c.find.ensures.none_ready c.find.ensures.err) (c.find.ensures.asks.clear)

pub returns-clause-asks : goal.returns-clause-asks
returns-clause-asks g c = asks_seen c.self.inside.keeping c.args.self.now c.find.new.desk c.self.view_is c.find.ensures.asks

pub returns-clause-found : goal.returns-clause-found
returns-clause-found g c clear = on_list c.self.inside.keeping c.self.invariant c.args.self.now c.self.view_is
    (λ ro T u. IfOk c.find.result (λ file. found T c.args.path.now ≡ Ok file)) (c.find.ensures.found clear)

pub returns-clause-refused : goal.returns-clause-refused
returns-clause-refused g c clear = on_list c.self.inside.keeping c.self.invariant c.args.self.now c.self.view_is
    (λ ro T u. IfErr c.find.result (λ e. IsLoadRefusal e ⊎ (found T c.args.path.now ≡ Err e))) (c.find.ensures.refused clear)
