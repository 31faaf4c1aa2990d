-- A record that may be next isn't refused as one that may not.
use Rattle.std.proofs.Common.{◌≡◌, ◌∙◌, ℕ, ◌⊎◌, inl, inr, List, [], sym, subst, append-nil, refl}
use Rattle.su_bytes.proofs.Public.{EachSays, never_both, refused_says}
use Rattle.su_op.specs.declared.operations.Change.{Change}
use Rattle.su_block.specs.declared.failures.Failures.{Failures}
use Rattle.su_format.specs.Format.{whole}
use Rattle.su_format.proofs.Public.{whole_lawful, spelling_told}
use Rattle.su_version.specs.Commit.{Commit, IsCommit, commit_bytes, commit_format}
use Rattle.su_version.specs.Chain.{tip, next_order, MayBeNext}
use Rattle.su_version.proofs.Public.{commit_of, commit_lawful}
use Rattle.su_legal.specs.Legal.{commits_of}
use Rattle.su_view.specs.Holding.{HoldingState}
use Rattle.su_view.specs.Joining.{IsNoCommit, HasFailed, fitting_order, IsRefusedCommit}
use Rattle.su_view.specs.Listing.{IsRefusedBytes}
use Rattle.su_view.specs.declared.refusals.ViewRefusal.{ViewRefusal}
use Rattle.su_wire.specs.Meeting.{IsOfTheChange}

not_malformed : (c : Commit) (e : ViewRefusal) → IsCommit c → IsNoCommit (commit_bytes c) e → ⊥
unfolding whole
not_malformed c e is none =
    (whole_lawful commit_format commit_lawful).apart (commit_bytes c) c [] none.fails.behind (commit_of.begins (commit_bytes c) c [] is (sym (append-nil (commit_bytes c))), refl) none.fails.fails

one_commit : (c d : Commit) → IsCommit c → IsCommit d → commit_bytes c ≡ commit_bytes d → d ≡ c
one_commit c d ic id e =
    sym (spelling_told commit_lawful commit_of c d [] [] ic id (append-nil (commit_bytes c) ∙ e ∙ sym (append-nil (commit_bytes d)))).0

fitting_says : (v : HoldingState) (c : Commit) (change : Change) → EachSays IsOfTheChange (fitting_order v c change)
fitting_says v c change = (
  (λ e refused. subst IsOfTheChange (sym refused.1) tt),
  ((λ e refused. subst IsOfTheChange (sym refused) (inr refl)), ((λ e refused. subst IsOfTheChange (sym refused.1) tt), tt)),
)

module _ (MayGive : List ℕ → Type 0) (failed now : Failures) (v : HoldingState) (c : Commit) (e : ViewRefusal) (next : MayBeNext v.roster (commits_of v.held) c) where
  pub taken : HasFailed failed now c.version.change e ⊎ IsRefusedCommit MayGive v c e → IsOfTheChange e
  taken (inl f) = subst IsOfTheChange (sym f.refusal) (inl f.failure)
  taken (inr (inl n)) = absurd (never_both (next_order v.roster (tip v.roster (commits_of v.held) c.version.author) c) n.why next.follows n.not_next)
  taken (inr (inr (bytes, may, named, _, inl n))) = subst IsOfTheChange (sym n.refusal) tt
  taken (inr (inr (bytes, may, named, _, inr u))) = refused_says IsOfTheChange (fitting_order v c u.change) (fitting_says v c u.change) e u.unfit

  pub shown : IsRefusedBytes MayGive failed now v (commit_bytes c) e → IsOfTheChange e
  shown (inl none) = absurd (not_malformed c e next.spelled none)
  shown (inr (d, is, same, why)) =
      taken (subst (λ (x : Commit). HasFailed failed now x.version.change e ⊎ IsRefusedCommit MayGive v x e) (one_commit c d next.spelled is same) why)
