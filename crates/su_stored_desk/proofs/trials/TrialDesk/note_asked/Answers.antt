use Rattle.std.proofs.Common.{◌≡◌, ◌∙◌, refl, sym, ap, subst}
use Rattle.su_table.specs.Tree.{Tree}
use Rattle.su_part.specs.Bytes.{NoneClash}
use Rattle.su_part_forest.specs.Loading.{HashedFor}
use Rattle.su_desk.specs.Desk.{DeskState}
use Rattle.su_desk.specs.Trial.{tree_of, tree_with_ready}
use Rattle.su_stored_desk.specs.Asked.{ShowsReady, TrialOn}
use Rattle.su_stored_desk.proofs.Clearness.{Known, known, trusted, asking, noted, less_clear, more_clear, known_asked, asks_seen}
use Rattle.su_stored_desk.proofs.Public.{becomes_itself}
use Rattle.su_stored_desk.proofs.trials.TrialDesk.note_asked.Goals as goal

pub invariant_of-self : goal.invariant_of-self
invariant_of-self g c =
    let s = c.self.inside in
    let v = c.args.self.now.state in
    let m = g.S.BlockSource.may_give in
    let k = known m s.desk s.tried.items s.asked.items v (ap (λ t. t.state) c.self.view_is) c.self.invariant in
    let more = noted m s.desk c.source.result.now c.and-self-inside.result.items s.asked.items c.and-self-inside.ensures c.source.ensures in
    trusted m s.desk s.tried.items c.and-self-inside.result.items v
    (subst (λ l. Known m s.desk s.tried.items l v) (sym more) (known_asked m s.desk s.desk s.tried.items s.asked.items v k refl (λ has. has) (λ sure. sure.right)))

pub returns-clause-shows : goal.returns-clause-shows
returns-clause-shows g c clear =
    let s = c.self.inside in
    let v = c.args.self.now.state in
    let m = g.S.BlockSource.may_give in
    let k = known m s.desk s.tried.items s.asked.items v (ap (λ t. t.state) c.self.view_is) c.self.invariant in
    let more = noted m s.desk c.source.result.now c.and-self-inside.result.items s.asked.items c.and-self-inside.ensures c.source.ensures in
    record {
      clear = clear;
      unmixed = subst (λ (x : DeskState). NoneClash (HashedFor (tree_of x)) (m s.desk.stored.source)) k.seen.whole (less_clear m s.desk.roster s.desk.roster c.and-self-inside.result.items s.asked.items (asking m s.desk) refl more clear).1;
      tree = ap (λ (t : TrialOn g.row.S.Denot). tree_with_ready t.state) (sym c.self.view_is);
    }

pub returns-clause-still : goal.returns-clause-still
returns-clause-still g c T shown =
    let s = c.self.inside in
    let v = c.args.self.now.state in
    let m = g.S.BlockSource.may_give in
    let k = known m s.desk s.tried.items s.asked.items v (ap (λ t. t.state) c.self.view_is) c.self.invariant in
    let more = noted m s.desk c.source.result.now c.and-self-inside.result.items s.asked.items c.and-self-inside.ensures c.source.ensures in
    let was = subst (λ (t : TrialOn g.row.S.Denot). ShowsReady m t T) (sym c.self.view_is) shown in
    let here : T ≡ tree_of (record { roster = s.desk.roster; history = s.desk.entries.items }) = shown.tree ∙ ap tree_of (sym k.seen.whole) in
    record {
      clear = more_clear m s.desk.roster s.desk.roster c.and-self-inside.result.items s.asked.items (asking m s.desk) refl more was.clear (subst (λ (U : Tree). NoneClash (HashedFor U) (m s.desk.stored.source)) here was.unmixed);
      unmixed = was.unmixed;
      tree = was.tree;
    }

pub returns-clause-asks : goal.returns-clause-asks
returns-clause-asks g c =
    let s = c.self.inside in
    let m = g.S.BlockSource.may_give in
    let more = noted m s.desk c.source.result.now c.and-self-inside.result.items s.asked.items c.and-self-inside.ensures c.source.ensures in
    asks_seen m s.desk s.desk s.tried.items s.tried.items s.asked.items c.and-self-inside.result.items c.args.self.now c.self.view_is more refl (becomes_itself g.met.S.BlockSource.follows_itself s.desk.stored.source)
