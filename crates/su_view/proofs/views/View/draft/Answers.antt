use Rattle.std.proofs.Common.{◌≡◌, ◌⊎◌, ⊎_elim, inl, inr, Err, Ok, refl, subst}
use Rattle.su_bytes.specs.Order.{RefusedBy}
use Rattle.su_desk.specs.Answer.{answer}
use Rattle.su_desk.specs.Trial.{Tells}
use Rattle.su_legal.specs.Legal.{history}
use Rattle.su_view.specs.Making.{drafting_order, own_entry}
use Rattle.su_view.proofs.JoinLemmas.{accepted_answer}
use Rattle.su_view.specs.Drafting.{FitsTree}
use Rattle.su_view.specs.Keeping.{holding_of}
use Rattle.su_view.specs.Viewed.{FailsToLoad, ViewOn}
use Rattle.su_view.specs.declared.views.drafts.Draft.{Draft}
use Rattle.su_view.proofs.AskLemmas.{asks_seen}
use Rattle.su_view.proofs.MakeLemmas.{apart_loaded, apart_within, draft_answered, draft_refused, entry_so, fits_so, item_refused}
use Rattle.su_view.proofs.views.View.draft.Goals as goal

pub returns-in-Err-clause-refused : goal.returns-in-Err-clause-refused
returns-in-Err-clause-refused g c clear =
    let k = c.self.inside.keeping in
    let so = entry_so g.S.BlockSource.may_give c.self.inside.keeping c.self.invariant c.args.change c.made_format-format.result c.made_format-format.ensures.value in
    subst (λ (x : ViewOn g.row.S.Denot). FailsToLoad c.loaded_or_within.result ⊎ RefusedBy (drafting_order x.holding c.args.change) c.loaded_or_within.result) c.self.view_is
    (draft_refused g.S.BlockSource.may_give k c.self.invariant c.args.change c.in-Err.refusal
    (⊎_elim (λ load. inl load) (λ is. inr (subst (λ e. answer k.desk.state.settled.roster k.desk.state.settled.history e ≡ Err c.in-Err.refusal) so is)) (c.in-Err.ensures.refused clear))
    c.loaded_or_within.result c.loaded_or_within.ensures)

pub returns-in-Err-clause-asks : goal.returns-in-Err-clause-asks
returns-in-Err-clause-asks g c = asks_seen c.self.inside.keeping c.args.self.now c.prepare_as.new.self c.self.view_is c.prepare_as.ensures.asks

pub returns-in-Err-item-clause-refused : goal.returns-in-Err-item-clause-refused
returns-in-Err-item-clause-refused g c clear =
    let k = c.self.inside.keeping in
    let w = holding_of k in
    let so = entry_so g.S.BlockSource.may_give c.self.inside.keeping c.self.invariant c.args.change c.made_format-format.result c.made_format-format.ensures.value in
    let p = c.in-Ok.prepared in
    let answered = subst (λ e. answer k.desk.state.settled.roster k.desk.state.settled.history e ≡ Ok p.number) so (c.in-Ok.ensures.accepted clear) in
    let accepted = accepted_answer w.roster (history w.held) (own_entry w c.args.change) p.number (draft_answered g.S.BlockSource.may_give k c.self.invariant c.args.change (Ok p.number) answered) in
    subst (λ (x : ViewOn g.row.S.Denot). FailsToLoad c.within.result ⊎ RefusedBy (drafting_order x.holding c.args.change) c.within.result) c.self.view_is
    (item_refused w c.args.change c.in-Err-item.refusal accepted c.in-Err-item.ensures.refused c.within.result c.within.ensures)

pub returns-in-Err-item-clause-asks : goal.returns-in-Err-item-clause-asks
returns-in-Err-item-clause-asks g c = asks_seen c.self.inside.keeping c.args.self.now c.prepare_as.new.self c.self.view_is c.prepare_as.ensures.asks

pub returns-clause-fits : goal.returns-clause-fits
returns-clause-fits g c clear =
    let k = c.self.inside.keeping in
    let so = entry_so g.S.BlockSource.may_give c.self.inside.keeping c.self.invariant c.args.change c.made_format-format.result c.made_format-format.ensures.value in
    let p = c.in-Ok.prepared in
    let d : Draft = record { format = c.made_format-format.result; prepared = p; item = c.in-Ok-item.item; next_key = c.named_key-next_key.result } in
    subst (λ (x : ViewOn g.row.S.Denot). FitsTree x.holding c.args.change d) c.self.view_is
    (fits_so g.S.BlockSource.may_give k c.self.invariant c.args.change d p p.number refl
    (subst (λ e. answer k.desk.state.settled.roster k.desk.state.settled.history e ≡ Ok p.number) so (c.in-Ok.ensures.accepted clear))
    (subst (λ e. Tells k.desk.state.settled e p) so (c.in-Ok.ensures.told clear)))

pub returns-clause-asks : goal.returns-clause-asks
returns-clause-asks g c = asks_seen c.self.inside.keeping c.args.self.now c.prepare_as.new.self c.self.view_is c.prepare_as.ensures.asks

pub returns-in-Err-clause-apart : goal.returns-in-Err-clause-apart
returns-in-Err-clause-apart g c = apart_loaded c.in-Err.refusal c.loaded_or_within.result c.loaded_or_within.ensures

pub returns-in-Err-item-clause-apart : goal.returns-in-Err-item-clause-apart
returns-in-Err-item-clause-apart g c = apart_within c.in-Err-item.refusal c.within.result c.within.ensures
