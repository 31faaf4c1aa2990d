use Rattle.std.proofs.Common.{◌≡◌, ◌≤◌, ◌++◌, List, None, length, arith, ap, ◌∙◌, sym, subst}
use Rattle.std.proofs.lemmas.List.{length_push}
use Rattle.su_version.specs.Commit.{Commit}
use Rattle.su_used_keys.specs.UsedKeys.{HasRoom}
use Rattle.su_chain.specs.ChainEnd.{IsEndOf}
use Rattle.su_chain.specs.declared.ends.ChainEnd.{ChainEnd}
use Rattle.su_book.specs.declared.steps.Step.{Step}
use Rattle.su_book.specs.Machine.{IsRun, turn_after, records_of, holder_of, stored_by}
use Rattle.su_book.specs.Kept.{AreLast, book_of}
use Rattle.su_book.proofs.Runs.{run_push, records_push, holder_push, stores_next, stores_nothing, within_further}
use Rattle.su_book.proofs.keeping.Keeping.push.Goals as goal

pub returns-clause-kept : goal.returns-clause-kept
returns-clause-kept c =
    let k = c.args.self.now in
    let s = c.args.step in
    let b = book_of k in
    let kept = c.requires.kept in
    let next = stores_next b s.seat s.act c.requires.follows in
    let items = c.push.ensures in
    let records : records_of (c.push.new.self) ≡ records_of k.journal ++ stored_by s.act =
    ap records_of items ∙ records_push k.journal s in
    record {
      limit = kept.limit;
      run = subst (λ (l : List Step). IsRun (record b { journal = l })) (sym items) (run_push b s kept.run c.requires.follows);
      holder = c.turn_after-self.ensures ∙ sym (holder_push k.journal s) ∙ ap holder_of (sym items);
      end_is = subst (λ (l : List Commit). IsEndOf k.roster l c.add_record.new.end) (sym records) (c.add_record.ensures.end (records_of k.journal) kept.end_is next);
      within = subst (λ (l : List Commit). length l ≤ k.capacity) (sym records) (within_further b s.seat s.act c.requires.follows kept.within);
      last_is = subst (λ (l : List Commit). AreLast l c.set_last.new.last.items) (sym records) (c.set_last.ensures k.roster (records_of k.journal) kept.last_is next);
      room = λ some. let more = c.requires.more (λ none. some (c.turn_after-self.ensures ∙ none)) in omega (arith, ap length items, length_push k.journal s);
      key_room = λ some.
          let turn : turn_after s.seat s.act ≡ None → ⊥ = λ none. some (c.turn_after-self.ensures ∙ none) in
          subst (λ (e : ChainEnd). HasRoom e.used) (sym (c.add_record.ensures.same (stores_nothing s.seat s.act turn))) (c.requires.key_room turn);
    }
