-- A head belongs to one legal list.
use Rattle.std.proofs.Common.{◌≡◌, ℕ, ◌-◌, ◌⊎◌, List, [], ◌∷◌, ◌++◌, take, Some, sym, ap, ◌∙◌, subst, inl, inr}
use Rattle.std.specs.List.{Contains}
use Rattle.std.proofs.lemmas.List.Elements.{Contains-append_left}
use Rattle.su_bytes.specs.Membership.{Membership}
use Rattle.su_bytes.specs.RosterBytes.{roster_bytes, roster_digest}
use Rattle.su_change.specs.Item.{item_bytes, change_digest}
use Rattle.su_version.specs.Commit.{Commit, commit_bytes, commit_digest}
use Rattle.su_version.proofs.Public.{roster_is_no_commit, next_prev}
use Rattle.su_legal.specs.Legal.{Committed, head_of, MayJoin, Legal}
use Rattle.su_legal.proofs.Public.{from_the_end, is_in_middle, legal_front, legal_next, head_none, head_last}
use Rattle.su_fork.specs.Numbered.{at}
use Rattle.su_fork.specs.Premises.{NoCollision}
use Rattle.su_fork.proofs.Places.{split, Ends, last_of}
use Rattle.su_fork.proofs.Spelling.{commit_told, change_told}

-- a commit and the list before it
pub record Placed (ro : Membership) (before : List Committed) (c : Committed) : Type 0 where
  pub legal : Legal ro before
  pub joins : MayJoin ro before c

pub placed : (ro : Membership) (cs : List Committed) (n : ℕ) (c : Committed) → Legal ro cs → at cs n ≡ Some c → Placed ro (take (n - 1) cs) c
placed ro cs n c l e =
    let s = split cs n c e in
    let whole : Legal ro (take (n - 1) cs ++ c ∷ s.rest) = subst (Legal ro) s.whole l in
    record { legal = legal_front ro (take (n - 1) cs) (c ∷ s.rest) whole; joins = legal_next ro (take (n - 1) cs) s.rest c whole }

-- the byte strings of a list that are hashed are among these
pub record Within (strings : List (List ℕ)) (cs : List Committed) : Type 0 where
  pub commits : (c : Committed) → Contains cs c → Contains strings (commit_bytes c.commit)
  pub changes : (c : Committed) → Contains cs c → Contains strings (item_bytes c.change)

pub within_front : (strings : List (List ℕ)) (xs ys : List Committed) → Within strings (xs ++ ys) → Within strings xs
within_front strings xs ys w = record {
  commits = λ c i. w.commits c (Contains-append_left xs ys c i);
  changes = λ c i. w.changes c (Contains-append_left xs ys c i);
}

-- commits of one digest are one
same_commit : (strings : List (List ℕ)) (ro : Membership) (xs ys : List Committed) (c d : Committed) → NoCollision strings
    → Contains strings (commit_bytes c.commit) → Contains strings (commit_bytes d.commit) → MayJoin ro xs c → MayJoin ro ys d
    → commit_digest c.commit ≡ commit_digest d.commit → c.commit ≡ d.commit
same_commit strings ro xs ys c d apart hc hd fc fd e =
    commit_told c.commit d.commit fc.next.spelled fd.next.spelled (apart.same (commit_bytes c.commit) (commit_bytes d.commit) hc hd e)

-- and so are their changes
pub same_committed : (strings : List (List ℕ)) (ro : Membership) (xs ys : List Committed) (c d : Committed) → NoCollision strings
    → Contains strings (item_bytes c.change) → Contains strings (item_bytes d.change) → MayJoin ro xs c → MayJoin ro ys d
    → c.commit ≡ d.commit → c ≡ d
same_committed strings ro xs ys c d apart hc hd fc fd e =
    let digest : change_digest c.change ≡ change_digest d.change = sym fc.fits.named ∙ ap (λ (x : Commit). x.version.change) e ∙ fd.fits.named in
    let change : c.change ≡ d.change = change_told c.change d.change (fc.fits.is_change, fc.fits.has_item) (fd.fits.is_change, fd.fits.has_item) (apart.same (item_bytes c.change) (item_bytes d.change) hc hd digest) in
    λ i. record { commit = e i; change = change i }

-- ---- one head, one list

module _ (strings : List (List ℕ)) (ro : Membership) (apart : NoCollision strings) (roster : Contains strings (roster_bytes ro)) where
  SameHead : List Committed → Type 0
  SameHead xs = Legal ro xs → Within strings xs → (ys : List Committed) → Legal ro ys → Within strings ys → head_of ro xs ≡ head_of ro ys → xs ≡ ys

  pub same_head : (xs : List Committed) → Legal ro xs → Within strings xs → (ys : List Committed) → Legal ro ys → Within strings ys → head_of ro xs ≡ head_of ro ys → xs ≡ ys
  unfolding SameHead
  same_head = from_the_end SameHead first step
    where
      no_end : (ys : List Committed) (c : Committed) → Within strings (ys ++ c ∷ []) → roster_digest ro ≡ commit_digest c.commit → ⊥
      no_end ys c w e = roster_is_no_commit ro c.commit (apart.same (roster_bytes ro) (commit_bytes c.commit) roster (w.commits c (is_in_middle ys [] c)) e)

      first : SameHead []
      first l w ys m v e = go (last_of ys)
        where
          go : (ys ≡ []) ⊎ Ends ys → [] ≡ ys
          go (inl is) = sym is
          go (inr end) =
              absurd (no_end end.front end.last (subst (Within strings) end.whole v)
              (sym (head_none ro) ∙ e ∙ ap (head_of ro) end.whole ∙ head_last ro end.front end.last))

      step : (xs : List Committed) (c : Committed) → SameHead xs → SameHead (xs ++ c ∷ [])
      step xs c same l w ys m v e = go (last_of ys)
        where
          go : (ys ≡ []) ⊎ Ends ys → xs ++ c ∷ [] ≡ ys
          go (inl is) = absurd (no_end xs c w (sym (head_none ro) ∙ ap (head_of ro) (sym is) ∙ sym e ∙ head_last ro xs c))
          go (inr end) =
              let m2 = subst (Legal ro) end.whole m in
              let v2 = subst (Within strings) end.whole v in
              let fc = legal_next ro xs [] c l in
              let fd = legal_next ro end.front [] end.last m2 in
              let digest : commit_digest c.commit ≡ commit_digest end.last.commit = sym (head_last ro xs c) ∙ e ∙ ap (head_of ro) end.whole ∙ head_last ro end.front end.last in
              let commit = same_commit strings ro xs end.front c end.last apart (w.commits c (is_in_middle xs [] c)) (v2.commits end.last (is_in_middle end.front [] end.last)) fc fd digest in
              let both = same_committed strings ro xs end.front c end.last apart (w.changes c (is_in_middle xs [] c)) (v2.changes end.last (is_in_middle end.front [] end.last)) fc fd commit in
              let before = same (legal_front ro xs (c ∷ []) l) (within_front strings xs (c ∷ []) w) end.front (legal_front ro end.front (end.last ∷ []) m2) (within_front strings end.front (end.last ∷ []) v2)
              (sym (next_prev ro _ c.commit fc.next) ∙ ap (λ (x : Commit). x.version.prev) commit ∙ next_prev ro _ end.last.commit fd.next) in
              (λ i. before i ++ both i ∷ []) ∙ sym end.whole
