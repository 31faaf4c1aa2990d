use Rattle.std.proofs.Common.{◌≡◌, true, refl, sym, ap, ◌∙◌, subst}
use Rattle.std.specs.List.{list_any}
use Rattle.sha2.specs.Sha256.{sha256}
use Rattle.su_version.specs.Commit.{commit_bytes}
use Rattle.su_view.specs.KeptCommit.{has_digest}
use Rattle.su_view.proofs.ShownLemmas.{any_held, held_any}
use Rattle.su_view.proofs.last_commits.is_held.Goals as goal

pub returns-then-has_at-clause-held : goal.returns-then-has_at-clause-held
returns-then-has_at-clause-held g c = (
  λ _. any_held g.S.BlockSource.may_give c.args.keeping.now c.requires c.args.commit.now c.digest_of-digest.result (c.digest_of-digest.ensures ∙ ap sha256 (c.as_slice.ensures.value ∙ c.in_ok-bytes.ensures.value))
      (subst (λ rs. list_any (has_digest c.digest_of-digest.result) rs ≡ true) c.as_slice-records.ensures.value (c.has_at.ensures c.if-has_at.true)),
  λ _. refl,
)

pub returns-clause-held : goal.returns-clause-held
returns-clause-held g c =
    let is : c.digest_of-digest.result ≡ sha256 (commit_bytes c.args.commit.now) = c.digest_of-digest.ensures ∙ ap sha256 (c.as_slice.ensures.value ∙ c.in_ok-bytes.ensures.value) in
    let some = c.has_digest.ensures ∙ ap (list_any (has_digest c.digest_of-digest.result)) c.as_slice-records.ensures.value in (
      λ yes. any_held g.S.BlockSource.may_give c.args.keeping.now c.requires c.args.commit.now c.digest_of-digest.result is (sym some ∙ yes),
      λ held. some ∙ held_any g.S.BlockSource.may_give c.args.keeping.now c.requires c.args.commit.now c.digest_of-digest.result is held,
    )
