use Rattle.std.proofs.Common.{rules, ◌≡◌, ◌∙◌, ◌⊎◌, ⊎_elim, inl, inr, Some, Ok, Err, IfOk, refl, sym, ap, subst}
use Rattle.std.specs.Prelude.{IfErr, Contains}
use Rattle.std.proofs.lemmas.Result.{err_from_is_err_and}
use Rattle.su_bytes.specs.Order.{Passes}
use Rattle.sha2.specs.Sha256.{sha256}
use Rattle.su_change.specs.Item.{change_digest}
use Rattle.su_change.proofs.Public.{has_spelling, too_long_for_one}
use Rattle.su_legal.specs.Legal.{commits_of, MayJoin}
use Rattle.su_lms.specs.PrivateKey.{key_of, leaf_count}
use Rattle.su_lms.specs.Signature.{IsSigned}
use Rattle.su_version.specs.Chain.{IsNewLeaf, IsSignedBy, last_leaf}
use Rattle.su_version.specs.Commit.{Commit}
use Rattle.su_version.specs.Version.{Version, version_bytes}
use Rattle.su_view.specs.Holding.{HoldingState}
use Rattle.su_view.specs.Making.{making_order, next_version, own_key}
use Rattle.su_view.specs.declared.refusals.ViewRefusal.{ViewRefusal}
use Rattle.su_view.specs.declared.refusals.ViewRefusal.TheVariants.{Plain}
use Rattle.su_view.proofs.MakeLemmas.{made_joins}
use Rattle.su_view.specs.Drafting.{FitsTree, IsDraft, IsUnmade}
use Rattle.su_view.specs.Viewed.{FailsToLoad, IsClear, ViewOn}
use Rattle.su_view.proofs.JoinLemmas.{no_memory}
use Rattle.su_view.proofs.views.View.make.Given.{Over}
use Rattle.su_view.proofs.views.View.make.Goals.{in-Ok-sign, in-Err-sign}
use Rattle.su_view.proofs.views.View.make.Goals as goal

pub returns-then-not-is_own_key-clause-refused : goal.returns-then-not-is_own_key-clause-refused
returns-then-not-is_own_key-clause-refused g c clear =
    let other : own_key c.args.self.now.holding ≡ Some (key_of c.args.key.now.key) → ⊥ = search rules in
    inr (c.args.self.now.source, g.met.S.BlockSource.follows_itself c.args.self.now.source, g.met.S.BlockSource.follows_itself c.args.self.now.source, inl (inl (refl, other)))

pub returns-in_err-draft-clause-refused : goal.returns-in_err-draft-clause-refused
returns-in_err-draft-clause-refused g c clear =
    let p = err_from_is_err_and c.from_residual.result c.from_residual.ensures.1 in
    let own : own_key c.args.self.now.holding ≡ Some (key_of c.args.key.now.key) = search rules in
    rw (p.1, p.2) (⊎_elim (λ load. inl load)
    (λ why. inr (c.draft.new.self.source, c.draft.ensures.asks.source.follows, g.met.S.BlockSource.follows_itself c.draft.new.self.source, inl (inr (own, why))))
    (c.in_err-draft.ensures.refused clear))

pub returns-in_err-draft-clause-fault : goal.returns-in_err-draft-clause-fault
returns-in_err-draft-clause-fault g c =
    let p = err_from_is_err_and c.from_residual.result c.from_residual.ensures.1 in
    rw (p.1, p.2) (λ is. absurd (c.in_err-draft.ensures.apart is))

pub returns-in_err-draft-clause-missed : goal.returns-in_err-draft-clause-missed
returns-in_err-draft-clause-missed g c =
    let p = err_from_is_err_and c.from_residual.result c.from_residual.ensures.1 in
    rw (p.1, p.2) (λ is. absurd (c.in_err-draft.ensures.apart is))

pub returns-clause-follows : goal.returns-clause-follows
returns-clause-follows g c =
    let same = c.source_mut.ensures.value ∙ ap (λ (x : ViewOn g.row.S.Denot). x.source) c.self.view_is in
    g.met.S.BlockSource.follows_on c.args.self.now.source c.draft.new.self.source c.put.new.self c.draft.ensures.asks.source.follows
    (subst (λ (s : g.row.S.Denot). g.S.BlockSource.follows s c.put.new.self) same c.put.ensures.follows)

-- what is told of the draft fits the tree
fits : (g : Over) (c : goal.Joined-sign g) → IsClear g.S.BlockSource.may_give c.draft.new.self → FitsTree c.args.self.now.holding c.args.change c.in_ok-draft.draft
fits g c clear = c.in_ok-draft.ensures.fits clear

pub returns-clause-joins : goal.returns-clause-joins
returns-clause-joins g c clear =
    let v = c.args.self.now.holding in
    let draft = c.in_ok-draft.ensures.drafted in
    let legal = c.is_own_key.ensures.legal (c.draft.ensures.asks.clear (subst (IsClear g.S.BlockSource.may_give) c.self.view_is clear)) in
    let P : Commit → Type 0 = λ d. IsNewLeaf (last_leaf v.user (commits_of v.held)) c.args.key.now.next → MayJoin v.roster v.held (record { commit = d; change = c.args.change }) in
    let own : own_key v ≡ Some (key_of c.args.key.now.key) = search rules in
    let held = ap (λ (x : ViewOn g.row.S.Denot). x.holding) c.self.view_is ∙ c.draft.ensures.holding in
    let fit = fits g c (subst (IsClear g.S.BlockSource.may_give) c.self.view_is clear) in
    let named : c.in-Ok.digest ≡ change_digest c.args.change = c.in-Ok.ensures.digest ∙ ap sha256 (c.as_slice-item.ensures.value ∙ draft.spelled) in
    let next : c.in-Ok-next_version.version ≡ next_version v c.args.change =
    c.in-Ok-next_version.ensures.value clear c.args.change (subst (λ (h : HoldingState). IsDraft h c.args.change c.in_ok-draft.draft) (sym held) draft)
    (subst (λ (h : HoldingState). FitsTree h c.args.change c.in_ok-draft.draft) (sym held) fit) named
    ∙ ap (λ (h : HoldingState). next_version h c.args.change) held in
    elim c.match-sign.branch [
      | in-Ok-sign w ↦ subst (λ r. IfOk r P) (sym w.result-is)
          (made_joins v c.args.change c.args.key.now.next w.in-Ok-sign.commit legal c.is_own_key.ensures.member w.in-Ok-sign.ensures.commit (record {
            accepted = fit.accepted;
            version = w.in-Ok-sign.ensures.version ∙ next;
            signed = subst (λ k. IsSignedBy k w.in-Ok-sign.commit) (sym own)
                (subst (λ (s : Version). IsSigned (key_of c.args.key.now.key) (version_bytes s) w.in-Ok-sign.commit.signature) (sym w.in-Ok-sign.ensures.version) w.in-Ok-sign.ensures.signature);
            leaf_is = w.in-Ok-sign.ensures.leaf;
          }) draft.is_change draft.has_item)
      | in-Err-sign w ↦ subst (λ r. IfOk r P) (sym w.result-is) tt
    ]

pub returns-clause-refused : goal.returns-clause-refused
returns-clause-refused g c clear =
    let v = c.args.self.now.holding in
    let change = c.args.change in
    let draft = c.in_ok-draft.ensures.drafted in
    let key = key_of c.args.key.now.key in
    let own : own_key v ≡ Some key = search rules in
    let fit = fits g c (subst (IsClear g.S.BlockSource.may_give) c.self.view_is clear) in
    let passes : Passes (making_order key v change) = (own, (fit.accepted, (has_spelling change draft.has_item, ((λ long. too_long_for_one change long draft.has_item), tt)))) in
    let goes : g.S.BlockSource.follows c.args.self.now.source c.put.new.self =
    g.met.S.BlockSource.follows_on c.args.self.now.source c.draft.new.self.source c.put.new.self c.draft.ensures.asks.source.follows
    (subst (λ (s : g.row.S.Denot). g.S.BlockSource.follows s c.put.new.self)
    (c.source_mut.ensures.value ∙ ap (λ (x : ViewOn g.row.S.Denot). x.source) c.self.view_is) c.put.ensures.follows) in
    let P : ViewRefusal → Type 0 = λ e. FailsToLoad e ⊎ IsUnmade g.S.BlockSource.failed g.S.BlockSource.follows key (c.args.key.now.next ≡ leaf_count c.args.key.now.key) v change c.args.self.now.source c.put.new.self e in
    elim c.match-sign.branch [
      | in-Ok-sign w ↦ subst (λ r. IfErr r P) (sym w.result-is) tt
      | in-Err-sign w ↦ subst (λ r. IfErr r P) (sym w.result-is)
          (⊎_elim (λ none. inl (no_memory (Plain w.in-Err-sign.refusal) (ap Plain none)))
          (λ spent. inr (
            c.put.new.self,
            goes,
            g.met.S.BlockSource.follows_itself c.put.new.self,
            inr (passes, inr (⊎_elim (λ (is, all). inl (ap Plain is, all)) (λ (is, few). inr (ap Plain is, few)) spent)),
          ))
          w.in-Err-sign.ensures.refused)
    ]

pub returns-in-Err-clause-only : goal.returns-in-Err-clause-only
returns-in-Err-clause-only g c a was = c.draft.ensures.asks.only a (subst (λ (x : ViewOn g.row.S.Denot). Contains x.asked a) c.self.view_is was)

pub returns-in-Err-next_version-clause-only : goal.returns-in-Err-next_version-clause-only
returns-in-Err-next_version-clause-only g c a was = c.draft.ensures.asks.only a (subst (λ (x : ViewOn g.row.S.Denot). Contains x.asked a) c.self.view_is was)

pub returns-clause-only : goal.returns-clause-only
returns-clause-only g c a was = c.draft.ensures.asks.only a (subst (λ (x : ViewOn g.row.S.Denot). Contains x.asked a) c.self.view_is was)
