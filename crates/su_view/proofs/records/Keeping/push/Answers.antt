use Rattle.std.proofs.Common.{◌≡◌, ◌∷◌, ◌++◌, [], sym, ap, ◌∙◌, subst}
use Rattle.std.specs.Option.{option_or}
use Rattle.sha2.specs.Sha256.{sha256}
use Rattle.su_op.specs.declared.operations.Change.{Change}
use Rattle.su_desk.specs.Desk.{with_entry}
use Rattle.su_desk.specs.Trial.{with_ready}
use Rattle.su_version.specs.Chain.{MayBeNext}
use Rattle.su_chain.specs.ChainEnd.{IsEndOf}
use Rattle.su_legal.specs.Legal.{entry_made}
use Rattle.su_stored_desk.specs.Asked.{TrialOn}
use Rattle.su_view.specs.Keeping.{held_in, JoinsNext}
use Rattle.su_view.proofs.KeepingLemmas.{held_more, next_kept, keeping_more}
use Rattle.su_view.proofs.records.Keeping.push.Given.{Over}
use Rattle.su_view.proofs.records.Keeping.push.Goals as goal

pub new-requires : goal.new-requires
new-requires g c = c.requires.digest ∙ ap sha256 c.requires.joins.1.bytes_are

settled_is : (g : Over) (c : goal.After-push_reserved-2 g) (change : Change) → JoinsNext g.S.BlockSource.may_give c.args.self.now c.args.commit change c.args.spelling.commit.items c.args.spelling.item.items
    → c.settle.new.self.state.settled ≡ with_entry c.args.self.now.desk.state.settled (entry_made c.args.commit change)
settled_is g c change next =
    ap (λ (t : TrialOn g.row.S.Denot). t.state.settled) c.settle.ensures.settled ∙ ap (with_ready c.args.self.now.desk.state.settled) next.ready

pub returns-clause-pushed : goal.returns-clause-pushed
returns-clause-pushed g c change next =
    let k = c.args.self.now in
    let more = held_more g.S.BlockSource.may_give k c.args.commit change c.requires.kept c.args.spelling next in
    let records = c.push_reserved-2.ensures.items ∙ ap (λ r. k.records.items ++ r ∷ []) c.new.ensures in
    (λ i. record {
      roster = (settled_is g c change next i).roster;
      user = k.user;
      held = held_in (records i) (settled_is g c change next i).history;
      itemless = k.itemless;
    })
    ∙ (λ i. record { roster = k.desk.state.settled.roster; user = k.user; held = more i; itemless = k.itemless })

pub returns-clause-kept : goal.returns-clause-kept
returns-clause-kept g c =
    let k = c.args.self.now in
    let m = g.S.BlockSource.may_give in
    let (change, next) = c.requires.joins in
    let commit = next_kept m k c.args.commit change c.requires.kept c.args.spelling next in
    let records = c.push_reserved-2.ensures.items ∙ ap (λ r. k.records.items ++ r ∷ []) c.new.ensures in
    let end = subst (λ ro. IsEndOf ro (k.records.items ++ c.args.commit ∷ []) c.push.new.self) c.roster.ensures
    (c.push.ensures k.records.items
    (subst (λ ro. IsEndOf ro k.records.items k.end) (sym c.roster.ensures) c.requires.kept.end_is)
    (subst (λ ro. MayBeNext ro k.records.items c.args.commit) (sym c.roster.ensures) commit)) in
    keeping_more m k c.args.commit change c.requires.kept c.args.spelling next _ (λ i. k.user) records (λ i. k.itemless) c.push_reserved.ensures.items (settled_is g c change next)
    (ap (λ (t : TrialOn g.row.S.Denot). t.asked) c.settle.ensures.settled) end c.args.own c.requires.own_is (c.or.ensures ∙ ap (option_or c.args.own) c.take.ensures.value)
