use Rattle.std.specs.Prelude.{All, Contains}
use Rattle.std.proofs.Common.{◌≡◌, ◌∙◌, ◌<◌, ◌-◌, ℕ, List, length, get_or, Result, IfErr, OnOk, arith, sym, ap, subst}
use Rattle.su_bytes.specs.declared.formats.TheConstants.{NEWEST_FORMAT}
use Rattle.su_bytes.specs.declared.refusals.Refusal.{Refusal}
use Rattle.su_desk.specs.Desk.{DeskState, with_entry}
use Rattle.su_desk.specs.History.{entry_at, live}
use Rattle.su_desk.specs.Trial.{tree_of}
use Rattle.su_part_tree.specs.Loading.{IsLoadRefusal}
use Rattle.su_reasons.specs.Reasons.{author_in, undo_of}
use Rattle.su_reasons.proofs.LiveEntries.{live_has}
use Rattle.su_reasons.proofs.Ways.{fewer_live, none_new, refused_by, undo_accepted, undo_answered}
use Rattle.su_reasons.proofs.finding.undo.Goals as goal

-- whose the entry of that number is
author_at : (authors : List ℕ) (n index a : ℕ) → index ≡ n - 1 → a ≡ get_or authors index a → a ≡ get_or authors (n - 1) a
author_at authors n index a is at = at ∙ ap (λ i. get_or authors i a) is

pub returns-in_default-clause-refused : goal.returns-in_default-clause-refused
returns-in_default-clause-refused g c clear =
    let d = c.args.desk.now.state.settled in
    let l = c.requires.is_live clear in
    let least = (live_has d.history l.operation l.is_there).least in
    let number = l.number in
    let among = c.requires.among clear in
    absurd (omega (arith, least, number, among, c.saturating_sub-index.ensures, c.in_default.ensures.lookup.3))

pub returns-in_err-apply-clause-refused : goal.returns-in_err-apply-clause-refused
returns-in_err-apply-clause-refused g c clear =
    let d = c.args.desk.now.state.settled in
    let was = c.apply.ensures.asks.clear clear in
    refused_by IsLoadRefusal c.from_residual.result c.in_err-apply.field-0.0 c.from_residual.ensures.1
    (subst (λ (r : Result ℕ Refusal). IfErr r IsLoadRefusal) c.in_err-apply.was
    (undo_answered d c.apply.new.self.state.settled (tree_of d) (c.history-history.ensures.headline was) c.args.authors.now (c.requires.known was).0 c.args.number (c.requires.is_live was) c.in-Some.author.now c.apply.result (c.requires.known was).1 (c.requires.among was)
    (author_at c.args.authors.now c.args.number c.saturating_sub-index.result c.in-Some.author.now c.saturating_sub-index.ensures c.in-Some.ensures.lookup.1) (c.requires.free was) (c.apply.ensures.answered clear)).1)

pub returns-clause-undone : goal.returns-clause-undone
returns-clause-undone g c clear =
    let d = c.args.desk.now.state.settled in
    let was = c.apply.ensures.asks.clear clear in
    subst (λ (r : Result ℕ Refusal). OnOk r (c.apply.new.self.state.settled ≡ with_entry d (undo_of d.history c.args.number))) c.in_ok-apply.was
    (undo_answered d c.apply.new.self.state.settled (tree_of d) (c.history-history.ensures.headline was) c.args.authors.now (c.requires.known was).0 c.args.number (c.requires.is_live was) c.in-Some.author.now c.apply.result (c.requires.known was).1 (c.requires.among was)
    (author_at c.args.authors.now c.args.number c.saturating_sub-index.result c.in-Some.author.now c.saturating_sub-index.ensures c.in-Some.ensures.lookup.1) (c.requires.free was) (c.apply.ensures.answered clear)).0

pub returns-clause-accepted : goal.returns-clause-accepted
returns-clause-accepted g c clear =
    let d = c.args.desk.now.state.settled in
    let was = c.apply.ensures.asks.clear clear in
    undo_accepted d.roster d.history (tree_of d) (c.history-history.ensures.headline was) c.args.number (c.requires.is_live was) (c.requires.free was)

pub returns-clause-fewer : goal.returns-clause-fewer
returns-clause-fewer g c clear =
    let d = c.args.desk.now.state.settled in
    let was = c.apply.ensures.asks.clear clear in
    subst (λ (x : DeskState). length (live x.history) < length (live d.history)) (sym (returns-clause-undone g c clear))
    (fewer_live d.roster d.history (tree_of d) (c.history-history.ensures.headline was) c.args.number (c.requires.is_live was) (author_in (entry_at d.history c.args.number)) NEWEST_FORMAT)

pub returns-clause-none_new : goal.returns-clause-none_new
returns-clause-none_new g c clear =
    let d = c.args.desk.now.state.settled in
    let was = c.apply.ensures.asks.clear clear in
    subst (λ (x : DeskState). All (Contains (live d.history)) (live x.history)) (sym (returns-clause-undone g c clear))
    (none_new d.roster d.history (tree_of d) (c.history-history.ensures.headline was) c.args.number (c.requires.is_live was) (author_in (entry_at d.history c.args.number)) NEWEST_FORMAT)
