use Rattle.std.proofs.Common.{◌≡◌, ◌⊎◌, ◌∷◌, [], Ok, Err, Result, refl, sym, ◌∙◌, subst, inl, inr}
use Rattle.std.proofs.lemmas.Result.{err_from_is_err_and}
use Rattle.su_bytes.specs.declared.refusals.Refusal.{Refusal}
use Rattle.su_bytes.specs.declared.refusals.Refusal.TheVariants.{NoMemory}
use Rattle.su_version.specs.Commit.{Commit}
use Rattle.su_view.specs.Joining.{HasFailed, IsRefusedCommit}
use Rattle.su_view.specs.Viewed.{FailsToLoad, Grows}
use Rattle.su_view.proofs.views.View.accept_own.Goals as goal

-- what was read is what was written
same_commit : (r : Result Commit Refusal) (c d : Commit) → r ≡ Ok d → (r ≡ Ok c) ⊎ (r ≡ Err NoMemory) → d ≡ c
same_commit r c d is (inl ok) = let both : Ok d ≡ Ok c = sym is ∙ ok in cc
same_commit r c d is (inr none) = absurd (let clash : Ok d ≡ Err NoMemory = sym is ∙ none in cc)

pub returns-in_err-accept_commit-clause-refused : goal.returns-in_err-accept_commit-clause-refused
returns-in_err-accept_commit-clause-refused g c clear =
    let p = err_from_is_err_and c.from_residual.result c.from_residual.ensures.1 in
    let same = same_commit (Ok c.in-Ok-decode.copy) c.args.commit.now c.in-Ok-decode.copy refl (c.in-Ok-decode.ensures.only c.args.commit.now c.version-version.ensures.commit (c.as_slice.ensures.value ∙ c.in-Ok.ensures.value)) in
    rw (p.1, p.2) (subst (λ (d : Commit). FailsToLoad c.in_err-accept_commit.field-0.0
    ⊎ HasFailed (g.S.BlockSource.failed c.args.self.now.source) (g.S.BlockSource.failed c.accept_commit.new.self.source) d.version.change c.in_err-accept_commit.field-0.0
    ⊎ IsRefusedCommit (g.S.BlockSource.may_give c.args.self.now.source) c.args.self.now.holding d c.in_err-accept_commit.field-0.0) same (c.in_err-accept_commit.ensures.refused clear))

pub returns-clause-took : goal.returns-clause-took
returns-clause-took g c =
    let same = same_commit (Ok c.in-Ok-decode.copy) c.args.commit.now c.in-Ok-decode.copy refl (c.in-Ok-decode.ensures.only c.args.commit.now c.version-version.ensures.commit (c.as_slice.ensures.value ∙ c.in-Ok.ensures.value)) in
    let (change, given, grows) = c.in_ok-accept_commit.ensures.took in
    (change, given, subst (λ (d : Commit). Grows g.S.BlockSource.may_give c.args.self.now (record { commit = d; change = change } ∷ []) c.accept_commit.new.self) same grows)
