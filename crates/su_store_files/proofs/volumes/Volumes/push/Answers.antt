use Rattle.std.proofs.Common.{◌≤◌, [], ◌∷◌, ◌++◌, sym, subst, ◌∙◌, arith}
use Rattle.su_store_files.proofs.VolumeLemmas.{joined_more}
use Rattle.su_store_files.proofs.volumes.Volumes.push.Goals as goal

pub returns-in-Ok-clause-held : goal.returns-in-Ok-clause-held
returns-in-Ok-clause-held g c anew records held =
    let was = c.args.self.now in
    let V = g.V.Volume in
    let none : V.count was.current ≤ was.kept = omega (arith, c.requires.shut) in
    let all = g.met.V.Volume.keeps_all_counted was.current was.kept held.own none (held.counted c.requires.running) in
    let moved = subst (λ p. V.keeps p held.own) (sym c.replace.ensures.value) all in
    let counted = subst (λ p. V.counts p 0 []) (sym c.replace.ensures.after) anew in
    record {
      lists = held.lists ++ held.own ∷ [];
      own = [];
      more = held.more;
      split = held.split ∙ sym (joined_more held.lists held.own);
      running = held.running;
      past = c.in-Ok.ensures.kept held.lists held.own held.past moved;
      begun = g.met.V.Volume.begins_with_counted _ 0 [] counted;
      counted = λ _. counted;
      later = held.later;
    }
