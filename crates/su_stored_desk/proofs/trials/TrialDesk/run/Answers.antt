use Rattle.std.proofs.Common.{◌∙◌, ℕ, List, ◌++◌, ◌∷◌, [], refl, sym, ap, subst, take, arith}
use Rattle.std.proofs.lemmas.List.{take_more}
use Rattle.su_bytes.specs.declared.formats.TheConstants.{NEWEST_FORMAT}
use Rattle.su_op.specs.declared.operations.Change.{Change}
use Rattle.su_desk.specs.declared.entries.DeskReply.{DeskReply}
use Rattle.su_desk.specs.Desk.{DeskState, result_of}
use Rattle.su_desk.specs.History.{entry_by}
use Rattle.su_stored_desk.specs.Asked.{Answers, Runs}
use Rattle.su_stored_desk.proofs.Public.{asks_on}
use Rattle.su_stored_desk.proofs.trials.TrialDesk.run.Goals as goal

-- one change more
runs_further : (d mid d' : DeskState) (cs : List (ℕ × Change)) (rs : List DeskReply) (c : ℕ × Change) (r : DeskReply) → Runs d cs rs mid → Answers mid (entry_by c.0 NEWEST_FORMAT c.1) (result_of r) d' → Runs d (cs ++ c ∷ []) (rs ++ r ∷ []) d'
runs_further d mid d' [] [] c r e a = (d', subst (λ s. Answers s (entry_by c.0 NEWEST_FORMAT c.1) (result_of r) d') e a, refl)
runs_further d mid d' (x ∷ cs) (y ∷ rs) c r (s, first, rest) a = (s, first, runs_further s mid d' cs rs c r rest a)
runs_further d mid d' [] (y ∷ rs) c r h a = absurd h
runs_further d mid d' (x ∷ cs) [] c r h a = absurd h

pub loop-change-preserved : goal.loop-change-preserved
loop-change-preserved g c =
    let l = c.loop-change in
    let all = c.args.changes.now in
    let d = c.args.self.now.state.settled in
    let after = c.reply-reply.new.self.state.settled in
    let more = take_more all l.change-index c.change-item.result c.loop-change-test.true ∙ ap (λ x. take l.change-index all ++ x ∷ []) (sym c.change-item.is) in
    record {
      ran = λ clear. subst (λ cs. Runs d cs c.push_reserved.new.self.items after) (sym more)
          (subst (λ rs. Runs d (take l.change-index all ++ c.change-item.result ∷ []) rs after) (sym c.push_reserved.ensures.items)
          (runs_further d l.self.state.settled after (take l.change-index all) l.replies.items c.change-item.result c.reply-reply.result (l.invariant.ran (c.reply-reply.ensures.asks.clear clear)) (c.reply-reply.ensures.answered clear)));
      room = omega (arith, l.invariant.room, c.push_reserved.ensures.len, c.push_reserved.ensures.capacity, c.loop-change-test.true);
      asks = asks_on g.met.S.BlockSource.follows_on c.args.self.now l.self c.reply-reply.new.self l.invariant.asks c.reply-reply.ensures.asks;
    }
