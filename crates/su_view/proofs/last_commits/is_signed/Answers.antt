use Rattle.std.proofs.Common.{◌≡◌, true, false, refl, sym, ap, ◌∙◌, inl}
use Rattle.su_version.specs.Version.{Version}
use Rattle.su_view.proofs.ShownLemmas.{shown_signed}
use Rattle.su_view.proofs.last_commits.is_signed.Goals as goal

pub returns-then-branch-clause-value : goal.returns-then-branch-clause-value
returns-then-branch-clause-value g c = (λ _. inl (c.in_ok-is_held.ensures.held.0 c.if-branch.true), λ _. refl)

pub returns-clause-value : goal.returns-clause-value
returns-clause-value g c =
    shown_signed g.S.BlockSource.may_give c.args.keeping.now c.requires c.args.commit.now
    (λ held. absurd (let bad : true ≡ false = sym (c.in_ok-is_held.ensures.held.1 held) ∙ c.if-branch.false in cc))
    c.author.result (c.author.ensures.value ∙ ap (λ (v : Version). v.author) c.version.ensures.value) c.key-key.result c.in_ok-verdict.verdict.key c.key-key.ensures
    c.in_ok-verdict.ensures.key c.in_ok-verdict.verdict.is_signed c.in_ok-verdict.ensures.value
