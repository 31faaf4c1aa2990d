use Rattle.std.proofs.Common.{◌≡◌, ◌∙◌, refl, ap}
use Rattle.su_desk.specs.Trial.{TrialState}
use Rattle.su_table.specs.Query.{contents_within}
use Rattle.su_stored_desk.specs.Asked.{Asks, TrialOn}
use Rattle.su_stored_desk.proofs.Public.{asks_on}
use Rattle.su_view.proofs.AskLemmas.{asks_seen, read_ok, read_refused}
use Rattle.su_view.proofs.KeepingLemmas.{keeping_desk}
use Rattle.su_view.proofs.views.View.read_at.Given.{Over}
use Rattle.su_view.proofs.views.View.read_at.Goals as goal

pub invariant_of-self : goal.invariant_of-self
invariant_of-self g c = keeping_desk g.S.BlockSource.may_give c.self.inside.keeping (record c.self.inside.keeping { desk = c.take_back.new.self }) c.self.invariant refl (c.in_err-take_back.ensures.err) (c.take_back.ensures.asks.clear)

-- what is settled is the same
settled : (g : Over) (c : goal.After-read_at g) → c.read_at.new.reader.state.settled ≡ c.self.inside.keeping.desk.state.settled
settled g c = ap (λ (t : TrialState). t.settled) (c.read_at.ensures.works_out.comes.state ∙ ap (λ (t : TrialOn g.row.S.Denot). t.state) c.note_asked.ensures.same ∙ c.in_ok-take_back.ensures.ok)

asks : (g : Over) (c : goal.After-read_at g) → Asks g.S.BlockSource.may_give g.S.BlockSource.follows c.self.inside.keeping.desk c.read_at.new.reader
asks g c =
    asks_on g.met.S.BlockSource.follows_on c.self.inside.keeping.desk c.note_asked.new.self c.read_at.new.reader
    (asks_on g.met.S.BlockSource.follows_on c.self.inside.keeping.desk c.take_back.new.self c.note_asked.new.self c.take_back.ensures.asks c.note_asked.ensures.asks)
    c.read_at.ensures.works_out.comes.asks

pub invariant_of-self-2 : goal.invariant_of-self-2
invariant_of-self-2 g c = keeping_desk g.S.BlockSource.may_give c.self.inside.keeping (record c.self.inside.keeping { desk = c.read_at.new.reader }) c.self.invariant refl (settled g c) ((asks g c).clear)

pub returns-in_err-take_back-clause-asks : goal.returns-in_err-take_back-clause-asks
returns-in_err-take_back-clause-asks g c = asks_seen c.self.inside.keeping c.args.self.now c.take_back.new.self c.self.view_is c.take_back.ensures.asks

pub returns-clause-asks : goal.returns-clause-asks
returns-clause-asks g c = asks_seen c.self.inside.keeping c.args.self.now c.read_at.new.reader c.self.view_is (asks g c)

pub returns-clause-ok : goal.returns-clause-ok
returns-clause-ok g c clear =
    read_ok c.self.inside.keeping c.self.invariant c.args.self.now c.self.view_is g.S.BlockSource.failed (λ v. v.items) (λ T. contents_within T c.args.file c.args.off c.args.len) c.take_back.new.self c.note_asked.new.self c.read_at.new.reader c.read_at.result
    c.in_ok-take_back.ensures.ok c.note_asked.ensures.shows c.read_at.ensures.works_out clear

pub returns-clause-refused : goal.returns-clause-refused
returns-clause-refused g c clear =
    read_refused c.self.inside.keeping c.self.invariant c.args.self.now c.self.view_is g.S.BlockSource.failed (λ v. v.items) (λ T. contents_within T c.args.file c.args.off c.args.len) c.take_back.new.self c.note_asked.new.self c.read_at.new.reader c.read_at.result
    c.in_ok-take_back.ensures.ok c.note_asked.ensures.shows c.read_at.ensures.works_out clear
