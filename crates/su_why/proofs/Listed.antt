-- What a list has at a place, and what is read of it.
use Rattle.std.proofs.Common.{◌≡◌, ℕ, zero, suc, ◌+◌, ◌-◌, false, cond, List, [], ◌∷◌, ◌++◌, nat_eq, Some, None, option_map, Result, Ok, Err, sym, ap, ◌∙◌, subst, arith, slice_get, inl, inr, ◌⊎◌}
use Rattle.std.specs.List.{AllByRecursion}
use Rattle.std.proofs.lemmas.Option.{slice_get-map}
use Rattle.su_bytes.specs.Membership.{Membership}
use Rattle.su_bytes.specs.declared.refusals.Refusal.{Refusal}
use Rattle.su_bytes.specs.declared.refusals.Refusal.TheVariants.{NoMemory}
use Rattle.su_change.specs.Item.{IsChange, HasItem}
use Rattle.su_version.specs.Commit.{Commit, IsCommit}
use Rattle.su_version.specs.Chain.{ChainAfter}
use Rattle.su_legal.specs.Legal.{Committed, commits_of, entry_of, history}
use Rattle.su_view.specs.Entry.{committed_at}
use Rattle.su_view.specs.Holding.{HasSpelledChange}

-- what can be spelled of a commit with its change
pub record IsSpelled (c : Committed) : Type 0 where
  pub is_commit : IsCommit c.commit
  pub is_change : IsChange c.change
  pub has_item : HasItem c.change

pub spelled_at : (ro : Membership) (before : List Commit) (cs : List Committed) → ChainAfter ro before (commits_of cs) → AllByRecursion HasSpelledChange cs → (i : ℕ) (c : Committed) → slice_get cs i ≡ Some c → IsSpelled c
spelled_at ro before [] chain changes i c at = absurd (let bad : None ≡ Some c = at in cc)
spelled_at ro before (x ∷ cs) (next, chain) (change, changes) zero c at =
    let same : x ≡ c = cc in
    subst IsSpelled same (record { is_commit = next.spelled; is_change = change.0; has_item = change.1 })
spelled_at ro before (x ∷ cs) (next, chain) (change, changes) (suc i) c at = spelled_at ro (before ++ x.commit ∷ []) cs chain changes i c at

-- the commit behind so many
pub behind : (cs : List Committed) (i : ℕ) (c : Committed) → committed_at cs (i + 1) ≡ Some c → slice_get cs i ≡ Some c
behind cs i c e =
    let some : nat_eq (i + 1) 0 ≡ false = grind arith in
    let index : i + 1 - 1 ≡ i = omega arith in
    sym (ap (λ k. slice_get cs k) index) ∙ sym (ap (λ b. cond b None (slice_get cs (i + 1 - 1))) some) ∙ e

pub entry_there : (cs : List Committed) (i : ℕ) (c : Committed) → slice_get cs i ≡ Some c → slice_get (history cs) i ≡ Some (entry_of c)
entry_there cs i c at = slice_get-map entry_of cs i ∙ ap (option_map entry_of) at

-- ---- what is read

pub refused_so : {X : Type 0} (r : Result X Refusal) (c : X) (e : Refusal) → r ≡ Err e → (r ≡ Ok c) ⊎ (r ≡ Err NoMemory) → e ≡ NoMemory
refused_so r c e is (inl ok) = absurd (let bad : Err e ≡ Ok c = sym is ∙ ok in cc)
refused_so r c e is (inr none) = let both : Err e ≡ Err NoMemory = sym is ∙ none in cc

pub read_so : {X : Type 0} (r : Result X Refusal) (c x : X) → r ≡ Ok x → (r ≡ Ok c) ⊎ (r ≡ Err NoMemory) → x ≡ c
read_so r c x is (inl ok) = let both : Ok x ≡ Ok c = sym is ∙ ok in cc
read_so r c x is (inr none) = absurd (let bad : Ok x ≡ Err NoMemory = sym is ∙ none in cc)
