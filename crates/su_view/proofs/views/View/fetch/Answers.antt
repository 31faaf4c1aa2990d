use Rattle.std.proofs.Common.{refl, subst}
use Rattle.su_stored_desk.proofs.Public.{asks_no_more, asks_on}
use Rattle.su_view.specs.Viewed.{desk_of}
use Rattle.su_view.proofs.AskLemmas.{asks_seen}
use Rattle.su_view.proofs.views.View.fetch.Goals as goal

pub returns-in-Err-clause-asks : goal.returns-in-Err-clause-asks
returns-in-Err-clause-asks g c =
    let k = c.self.inside.keeping in
    let got = c.get.new.self in
    asks_seen k c.args.self.now (record k.desk { source = got }) c.self.view_is
    (asks_no_more k.desk (record k.desk { source = got }) refl refl (record {
      follows = subst (λ (s : g.row.S.Denot). g.S.BlockSource.follows s got) c.source_mut.ensures.value c.get.ensures.follows;
      no_more = λ i gives. subst (λ (s : g.row.S.Denot). g.S.BlockSource.may_give s i) c.source_mut.ensures.value (c.get.ensures.no_more i gives);
    }))

pub returns-clause-asks : goal.returns-clause-asks
returns-clause-asks g c =
    let k = c.self.inside.keeping in
    let got = c.get.new.self in
    asks_on g.met.S.BlockSource.follows_on (desk_of c.args.self.now) _ (desk_of c.copy_and_join.new.self)
    (asks_seen k c.args.self.now (record k.desk { source = got }) c.self.view_is
    (asks_no_more k.desk (record k.desk { source = got }) refl refl (record {
      follows = subst (λ (s : g.row.S.Denot). g.S.BlockSource.follows s got) c.source_mut.ensures.value c.get.ensures.follows;
      no_more = λ i gives. subst (λ (s : g.row.S.Denot). g.S.BlockSource.may_give s i) c.source_mut.ensures.value (c.get.ensures.no_more i gives);
    })))
    c.copy_and_join.ensures.asks
