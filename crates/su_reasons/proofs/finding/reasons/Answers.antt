use Rattle.std.proofs.Common.{◌≡◌, ◌∙◌, ◌≤◌, ℕ, List, length, Option, None, MatchOption, arith, refl, ap, subst}
use Rattle.std.proofs.lemmas.List.{length-map}
use Rattle.su_desk.specs.declared.entries.Entry.{Entry}
use Rattle.su_desk.specs.Blocker.{blocker}
use Rattle.su_reasons.specs.Reasons.{IsInTheWay}
use Rattle.su_reasons.proofs.Ways.{all_undone, are_reasons, is_live, known_authors, known_reason, never_more, none_yet, one_more}
use Rattle.su_stored_desk.proofs.Public.{asks_nothing, asks_on}
use Rattle.su_reasons.proofs.finding.reasons.Goals as goal

pub loop-undone-init : goal.loop-undone-init
loop-undone-init g c = record {
  undone = λ clear. none_yet c.args.desk.now.state.settled c.args.number c.new-undone.result.items c.new-undone.ensures.items (c.in_ok-blocker.ensures.live clear);
  none_ready = c.requires.none_ready;
  asks = asks_nothing g.met.S.BlockSource.follows_itself c.args.desk.now c.args.desk.now refl refl refl;
}

pub undo-requires-clause-known : goal.undo-requires-clause-known
undo-requires-clause-known g c clear =
    let d = c.args.desk.now.state.settled in
    known_authors d.roster d.history c.args.number c.loop-undone.undone.items c.loop-undone.desk.state.settled c.args.authors.now (c.loop-undone.invariant.undone clear).has c.requires.known

pub undo-requires-clause-among : goal.undo-requires-clause-among
undo-requires-clause-among g c clear =
    let d = c.args.desk.now.state.settled in
    let e = c.loop-undone.desk.state.settled in
    let found = subst (λ (o : Option ℕ). MatchOption o (blocker e.roster e.history c.args.number ≡ None) (λ m. IsInTheWay e.roster e.history c.args.number m × (blocker e.roster e.history m ≡ None))) c.in-Some.is (c.in_ok-first.ensures.found clear) in
    known_reason d.roster d.history c.args.number c.loop-undone.undone.items e c.in-Some.first c.args.authors.now (c.loop-undone.invariant.undone clear).has found.0 c.requires.known

pub undo-requires-clause-is_live : goal.undo-requires-clause-is_live
undo-requires-clause-is_live g c clear =
    let e = c.loop-undone.desk.state.settled in
    let found = subst (λ (o : Option ℕ). MatchOption o (blocker e.roster e.history c.args.number ≡ None) (λ m. IsInTheWay e.roster e.history c.args.number m × (blocker e.roster e.history m ≡ None))) c.in-Some.is (c.in_ok-first.ensures.found clear) in
    is_live e.roster e.history c.args.number c.in-Some.first found.0

pub undo-requires-clause-free : goal.undo-requires-clause-free
undo-requires-clause-free g c clear =
    let e = c.loop-undone.desk.state.settled in
    let found = subst (λ (o : Option ℕ). MatchOption o (blocker e.roster e.history c.args.number ≡ None) (λ m. IsInTheWay e.roster e.history c.args.number m × (blocker e.roster e.history m ≡ None))) c.in-Some.is (c.in_ok-first.ensures.found clear) in
    found.1

pub loop-undone-preserved : goal.loop-undone-preserved
loop-undone-preserved g c = record {
  undone = λ done.
      let clear = c.in_ok-undo.ensures.asks.clear done in
      let e = c.loop-undone.desk.state.settled in
      let found = subst (λ (o : Option ℕ). MatchOption o (blocker e.roster e.history c.args.number ≡ None) (λ m. IsInTheWay e.roster e.history c.args.number m × (blocker e.roster e.history m ≡ None))) c.in-Some.is (c.in_ok-first.ensures.found clear) in
      one_more c.args.desk.now.state.settled c.args.number c.loop-undone.undone.items c.push.new.self.items e c.undo.new.desk.state.settled c.in-Some.first (c.loop-undone.invariant.undone clear) c.in_ok-push.ensures.items found.0
      (c.in_ok-undo.ensures.undone done) (c.in_ok-undo.ensures.accepted done) (c.in_ok-undo.ensures.fewer done) (c.in_ok-undo.ensures.none_new done);
  none_ready = c.in_ok-undo.ensures.still_none_ready;
  asks = asks_on g.met.S.BlockSource.follows_on c.args.desk.now c.loop-undone.desk c.undo.new.desk c.loop-undone.invariant.asks c.in_ok-undo.ensures.asks;
}

-- no more are undone than there are
pub returns-then-len-authors-clause-refused : goal.returns-then-len-authors-clause-refused
returns-then-len-authors-clause-refused g c clear =
    let d = c.args.desk.now.state.settled in
    let e = c.loop-undone.desk.state.settled in
    let found = subst (λ (o : Option ℕ). MatchOption o (blocker e.roster e.history c.args.number ≡ None) (λ m. IsInTheWay e.roster e.history c.args.number m × (blocker e.roster e.history m ≡ None))) c.in-Some.is (c.in_ok-first.ensures.found clear) in
    let long = ap (λ (xs : List ℕ). length xs) c.requires.known ∙ length-map d.history (λ (x : Entry). x.author) in
    let all : length d.history ≤ length c.loop-undone.undone.items = omega (arith, long, c.if-len-authors.true, c.len.ensures, c.loop-undone.undone.ok.0) in
    absurd (never_more d c.args.number c.loop-undone.undone.items e c.in-Some.first (c.loop-undone.invariant.undone clear) found.0 all)

pub returns-in_err-undo-clause-asks : goal.returns-in_err-undo-clause-asks
returns-in_err-undo-clause-asks g c = asks_on g.met.S.BlockSource.follows_on c.args.desk.now c.loop-undone.desk c.undo.new.desk c.loop-undone.invariant.asks c.undo.ensures.asks

pub returns-in_err-push-clause-asks : goal.returns-in_err-push-clause-asks
returns-in_err-push-clause-asks g c = asks_on g.met.S.BlockSource.follows_on c.args.desk.now c.loop-undone.desk c.undo.new.desk c.loop-undone.invariant.asks c.undo.ensures.asks

pub returns-clause-reasons : goal.returns-clause-reasons
returns-clause-reasons g c clear =
    let e = c.loop-undone.desk.state.settled in
    let free = subst (λ (o : Option ℕ). MatchOption o (blocker e.roster e.history c.args.number ≡ None) (λ m. IsInTheWay e.roster e.history c.args.number m × (blocker e.roster e.history m ≡ None))) c.in_default.is (c.in_ok-first.ensures.found clear) in
    are_reasons c.args.desk.now.state.settled c.args.number c.loop-undone.undone.items e (c.loop-undone.invariant.undone clear) free

pub returns-clause-undone : goal.returns-clause-undone
returns-clause-undone g c clear = all_undone c.args.desk.now.state.settled c.args.number c.loop-undone.undone.items c.loop-undone.desk.state.settled (c.loop-undone.invariant.undone clear)
