use Rattle.std.proofs.Common.{◌≡◌, ◌∙◌, ◌⊎◌, true, false, Ok, refl, inr, sym, ap, subst}
use Rattle.su_bytes.specs.declared.refusals.Refusal.TheVariants.{WrongKey}
use Rattle.su_desk.specs.History.{entry_by}
use Rattle.su_desk.specs.Trial.{TrialState}
use Rattle.su_legal.specs.Legal.{commits_of}
use Rattle.su_stored_desk.specs.Asked.{Asks, TrialOn}
use Rattle.su_stored_desk.proofs.Public.{asks_nothing, asks_on}
use Rattle.su_version.specs.Chain.{MayBeNext}
use Rattle.su_version.specs.Version.{Version}
use Rattle.su_view.specs.Joining.{AscendFrom, IsRefusedWith, IsOtherHandle}
use Rattle.su_view.specs.declared.refusals.ViewRefusal.TheVariants.{Plain, WrongHandle}
use Rattle.su_view.proofs.JoinLemmas.{made_as, carried_ascend, other_key, other_handle}
use Rattle.su_view.specs.Keeping.{holding_of, JoinsNext}
use Rattle.su_view.specs.Viewed.{FailsToLoad, ViewOn}
use Rattle.su_view.specs.declared.records.Keeping.{Keeping}
use Rattle.su_view.proofs.AskLemmas.{asks_seen, asks_within}
use Rattle.su_view.proofs.JoinLemmas.{answered, told_handle, told_groups, shape_ascends, prepared_so, not_prepared_on, joined_so, grown_next}
use Rattle.su_view.proofs.views.View.join.Given.{Over}
use Rattle.su_view.proofs.views.View.join.Goals as goal

pub returns-in-Err-prepare_as-clause-refused : goal.returns-in-Err-prepare_as-clause-refused
returns-in-Err-prepare_as-clause-refused g c clear =
    let k = c.self.inside.keeping in
    let m = g.S.BlockSource.may_give in
    let made = made_as c.args.commit _ _ _ c.in-Ok.change c.version-version.ensures.value c.format.ensures c.author.ensures.value in
    let found = c.in-Ok.ensures.found in
    let spelled = sym c.as_slice.ensures.value ∙ found.2 in
    subst (λ (v : ViewOn g.row.S.Denot). FailsToLoad c.loaded_or_within.result ⊎ IsRefusedWith v.holding c.args.commit c.args.item.items c.loaded_or_within.result) c.self.view_is
    (not_prepared_on (holding_of k) c.args.commit c.in-Ok.change c.args.item.items found.0 found.1 spelled c.in-Err-prepare_as.refusal c.loaded_or_within.result
    (prepared_so m k c.self.invariant (entry_by c.author.result c.format.result c.in-Ok.change) c.args.commit c.in-Ok.change made c.in-Err-prepare_as.refusal (c.in-Err-prepare_as.ensures.refused clear))
    c.loaded_or_within.ensures)

pub returns-in-Err-prepare_as-clause-asks : goal.returns-in-Err-prepare_as-clause-asks
returns-in-Err-prepare_as-clause-asks g c = asks_seen c.self.inside.keeping c.args.self.now c.prepare_as.new.self c.self.view_is c.prepare_as.ensures.asks

pub returns-then-not-is_same_key-clause-refused : goal.returns-then-not-is_same_key-clause-refused
returns-then-not-is_same_key-clause-refused g c clear =
    let k = c.self.inside.keeping in
    let m = g.S.BlockSource.may_give in
    let made = made_as c.args.commit _ _ _ c.in-Ok.change c.version-version.ensures.value c.format.ensures c.author.ensures.value in
    let found = c.in-Ok.ensures.found in
    let spelled = sym c.as_slice.ensures.value ∙ found.2 in
    let p = c.in-Ok-prepare_as.prepared in
    inr (subst (λ (v : ViewOn g.row.S.Denot). IsRefusedWith v.holding c.args.commit c.args.item.items (Plain WrongKey)) c.self.view_is
    (other_key (holding_of k) c.args.commit c.in-Ok.change c.args.item.items found.0 found.1 spelled p.number
    (answered m k c.self.invariant (entry_by c.author.result c.format.result c.in-Ok.change) c.args.commit c.in-Ok.change made (Ok p.number) (c.in-Ok-prepare_as.ensures.accepted clear))
    (λ same. absurd (let bad : true ≡ false = sym (c.is_same_key.ensures.1 (c.next_key.ensures ∙ ap (λ (v : Version). v.next_key) c.version-version.ensures.value ∙ same ∙ sym c.named_key-named.ensures)) ∙ c.if-not-is_same_key.true in cc))))

pub returns-then-not-is_same_key-clause-asks : goal.returns-then-not-is_same_key-clause-asks
returns-then-not-is_same_key-clause-asks g c = asks_seen c.self.inside.keeping c.args.self.now c.prepare_as.new.self c.self.view_is c.prepare_as.ensures.asks

pub returns-in-Some-clause-refused : goal.returns-in-Some-clause-refused
returns-in-Some-clause-refused g c clear =
    let k = c.self.inside.keeping in
    let m = g.S.BlockSource.may_give in
    let made = made_as c.args.commit _ _ _ c.in-Ok.change c.version-version.ensures.value c.format.ensures c.author.ensures.value in
    let found = c.in-Ok.ensures.found in
    let spelled = sym c.as_slice.ensures.value ∙ found.2 in
    let kept = c.self.invariant in
    let told = c.in-Ok-prepare_as.ensures.told clear in
    let p = c.in-Ok-prepare_as.prepared in
    let other = c.in-Some.ensures.other 0
    (subst (λ (v : Version). AscendFrom 0 v.groups) (sym c.version-version.ensures.value) (carried_ascend 0 c.args.commit.version.groups c.requires.next.spelled.version.groups))
    (shape_ascends k.desk.state.settled.roster kept.roster p c.in-Ok-prepare_as.ensures.shape) in
    inr (subst (λ (v : ViewOn g.row.S.Denot). IsRefusedWith v.holding c.args.commit c.args.item.items (WrongHandle c.in-Some.principal)) c.self.view_is
    (other_handle (holding_of k) c.args.commit c.in-Ok.change c.args.item.items found.0 found.1 spelled
    p.number p.author_handle p.groups.items c.in-Some.principal
    (answered m k kept (entry_by c.author.result c.format.result c.in-Ok.change) c.args.commit c.in-Ok.change made (Ok p.number) (c.in-Ok-prepare_as.ensures.accepted clear))
    (told_handle m k kept (entry_by c.author.result c.format.result c.in-Ok.change) c.args.commit c.in-Ok.change made p told)
    (told_groups m k kept (entry_by c.author.result c.format.result c.in-Ok.change) c.args.commit c.in-Ok.change made p told)
    (sym (c.next_key.ensures ∙ ap (λ (v : Version). v.next_key) c.version-version.ensures.value) ∙ c.is_same_key.ensures.0 c.if-not-is_same_key.false ∙ c.named_key-named.ensures)
    (subst (λ (v : Version). IsOtherHandle v p.author_handle p.groups.items c.in-Some.principal) c.version-version.ensures.value other)))

pub returns-in-Some-clause-asks : goal.returns-in-Some-clause-asks
returns-in-Some-clause-asks g c = asks_seen c.self.inside.keeping c.args.self.now c.prepare_as.new.self c.self.view_is c.prepare_as.ensures.asks

pub returns-then-is_err-clause-asks : goal.returns-then-is_err-clause-asks
returns-then-is_err-clause-asks g c =
    asks_within c.self.inside.keeping c.reserve.new.self c.args.self.now c.self.view_is
    (subst (λ (d : TrialOn g.row.S.Denot). Asks g.S.BlockSource.may_give g.S.BlockSource.follows c.self.inside.keeping.desk d) (sym (ap (λ (x : Keeping g.row.S.Denot). x.desk) c.reserve.ensures.same)) c.prepare_as.ensures.asks)

-- the change stands ready, and the commit joins with it
next_with : (g : Over) (c : goal.After-push-arg-1 g) → JoinsNext g.S.BlockSource.may_give c.reserve.new.self c.args.commit c.in-Ok.change c.args.bytes.items c.args.item.items
next_with g c =
    let k = c.self.inside.keeping in
    let m = g.S.BlockSource.may_give in
    let made = made_as c.args.commit _ _ _ c.in-Ok.change c.version-version.ensures.value c.format.ensures c.author.ensures.value in
    let found = c.in-Ok.ensures.found in
    let spelled = sym c.as_slice.ensures.value ∙ found.2 in
    let same = c.in_default.ensures.same refl in
    joined_so m k c.self.invariant (entry_by c.author.result c.format.result c.in-Ok.change) c.args.commit c.in-Ok.change made c.in-Ok-prepare_as.prepared c.args.bytes.items c.args.item.items c.prepare_as.new.self
    found.0 found.1 spelled
    (subst (λ (v : ViewOn g.row.S.Denot). MayBeNext v.holding.roster (commits_of v.holding.held) c.args.commit) (sym c.self.view_is) c.requires.next)
    c.requires.named c.in-Ok-prepare_as.ensures.accepted c.in-Ok-prepare_as.ensures.told
    (sym (c.next_key.ensures ∙ ap (λ (v : Version). v.next_key) c.version-version.ensures.value) ∙ c.is_same_key.ensures.0 c.if-not-is_same_key.false ∙ c.named_key-named.ensures)
    (sym (ap (λ (v : Version). v.handle) c.version-version.ensures.value) ∙ same.0)
    (sym (ap (λ (v : Version). v.groups) c.version-version.ensures.value) ∙ same.1)
    c.requires.bytes c.in-Ok-prepare_as.ensures.ready c.reserve.new.self c.reserve.ensures.records (ap (λ (x : Keeping g.row.S.Denot). x.desk) c.reserve.ensures.same)

pub push-requires-clause-joins : goal.push-requires-clause-joins
push-requires-clause-joins g c = (c.in-Ok.change, next_with g c)

pub returns-clause-took : goal.returns-clause-took
returns-clause-took g c =
    let k = c.self.inside.keeping in
    let m = g.S.BlockSource.may_give in
    let made = made_as c.args.commit _ _ _ c.in-Ok.change c.version-version.ensures.value c.format.ensures c.author.ensures.value in
    let found = c.in-Ok.ensures.found in
    let spelled = sym c.as_slice.ensures.value ∙ found.2 in
    let same = c.in_default.ensures.same refl in
    let desk = ap (λ (x : Keeping g.row.S.Denot). x.desk) c.reserve.ensures.same in
    let next = joined_so m k c.self.invariant (entry_by c.author.result c.format.result c.in-Ok.change) c.args.commit c.in-Ok.change made c.in-Ok-prepare_as.prepared c.args.bytes.items c.args.item.items c.prepare_as.new.self
    found.0 found.1 spelled
    (subst (λ (v : ViewOn g.row.S.Denot). MayBeNext v.holding.roster (commits_of v.holding.held) c.args.commit) (sym c.self.view_is) c.requires.next)
    c.requires.named c.in-Ok-prepare_as.ensures.accepted c.in-Ok-prepare_as.ensures.told
    (sym (c.next_key.ensures ∙ ap (λ (v : Version). v.next_key) c.version-version.ensures.value) ∙ c.is_same_key.ensures.0 c.if-not-is_same_key.false ∙ c.named_key-named.ensures)
    (sym (ap (λ (v : Version). v.handle) c.version-version.ensures.value) ∙ same.0)
    (sym (ap (λ (v : Version). v.groups) c.version-version.ensures.value) ∙ same.1)
    c.requires.bytes c.in-Ok-prepare_as.ensures.ready c.reserve.new.self c.reserve.ensures.records desk in (
      c.in-Ok.change,
      spelled,
      grown_next m k c.reserve.new.self c.push.new.self c.args.self.now c.args.commit c.in-Ok.change c.args.bytes.items c.args.item.items c.self.view_is
          (ap (λ (x : Keeping g.row.S.Denot). x.user) c.reserve.ensures.same) c.reserve.ensures.records (ap (λ (x : Keeping g.row.S.Denot). x.itemless) c.reserve.ensures.same)
          (ap (λ (d : TrialOn g.row.S.Denot). d.state.settled) desk ∙ ap (λ (t : TrialState). t.settled) c.in-Ok-prepare_as.ensures.ready)
          next (c.push.ensures.pushed c.in-Ok.change next) (ap (λ (d : TrialOn g.row.S.Denot). d.asked) c.push.ensures.desk),
    )

pub returns-clause-asks : goal.returns-clause-asks
returns-clause-asks g c =
    let desk = ap (λ (x : Keeping g.row.S.Denot). x.desk) c.reserve.ensures.same in
    let asked = subst (λ (d : TrialOn g.row.S.Denot). Asks g.S.BlockSource.may_give g.S.BlockSource.follows c.self.inside.keeping.desk d) (sym desk) c.prepare_as.ensures.asks in
    asks_within c.self.inside.keeping c.push.new.self c.args.self.now c.self.view_is
    (asks_on g.met.S.BlockSource.follows_on c.self.inside.keeping.desk c.reserve.new.self.desk c.push.new.self.desk asked
    (asks_nothing g.met.S.BlockSource.follows_itself c.reserve.new.self.desk c.push.new.self.desk
    (ap (λ (d : TrialOn g.row.S.Denot). d.state.settled.roster) c.push.ensures.desk)
    (ap (λ (d : TrialOn g.row.S.Denot). d.source) c.push.ensures.desk) (ap (λ (d : TrialOn g.row.S.Denot). d.asked) c.push.ensures.desk)))
