-- The log of one commit more.
use Rattle.std.proofs.Common.{◌≡◌, ℕ, suc, ◌+◌, ◌-◌, ◌<◌, ◌≤◌, ◌⊎◌, inl, inr, cond, Bool, false, List, [], ◌∷◌, ◌++◌, length, take, drop, get_or, nat_eq, Some, None, sym, ap, ◌∙◌, subst, arith}
use Rattle.std.specs.Prelude.{slice_get}
use Rattle.std.proofs.Math.Seq.{take-suc}
use Rattle.std.proofs.Math.Dec.{eqb-suc-zero}
use Rattle.std.proofs.lemmas.Grind.{flat_map-append}
use Rattle.std.proofs.lemmas.List.{flat_map_more, append_cancel_left, take-append-drop, take_all}
use Rattle.std.proofs.lemmas.Option.{slice_get_cases}
use Rattle.su_legal.specs.Legal.{Committed}
use Rattle.su_view.specs.Entry.{committed_at}
use Rattle.su_client_work.specs.SavedLog.{saved_log, entry_bytes}

-- the commit after the first n of them has number n + 1
committed_next : (cs : List Committed) (n : ℕ) (c : Committed) → slice_get cs n ≡ Some c → committed_at cs (n + 1) ≡ Some c
committed_next cs n c is =
    let some : nat_eq (n + 1) 0 ≡ false = subst (λ (m : ℕ). nat_eq m 0 ≡ false) (omega arith) (eqb-suc-zero n) in
    let back : n + 1 - 1 ≡ n = omega arith in
    ap (λ (b : Bool). cond b None (slice_get cs (n + 1 - 1))) some ∙ ap (slice_get cs) back ∙ is

pub saved_more : (cs : List Committed) (n : ℕ) (before after : List ℕ) → n < length cs → before ≡ saved_log (take n cs)
    → ((c : Committed) → committed_at cs (n + 1) ≡ Some c → after ≡ before ++ entry_bytes c) → after ≡ saved_log (take (n + 1) cs)
saved_more cs n before after within is more = at (slice_get_cases cs n).1
  where
    at : ((c : Committed) × (n < length cs) × (slice_get cs n ≡ Some c) × (get_or cs n c ≡ c)) ⊎ ((length cs ≤ n) × (slice_get cs n ≡ None)) → after ≡ saved_log (take (n + 1) cs)
    at (inl (c, inside, there, same)) =
        let one : suc n ≡ n + 1 = omega arith in
        more c (committed_next cs n c there)
        ∙ ap (λ (l : List ℕ). l ++ entry_bytes c) is
        ∙ flat_map_more entry_bytes [] (take n cs) c
        ∙ ap saved_log (sym (subst (λ (m : ℕ). take m cs ≡ take n cs ++ c ∷ []) one (take-suc cs n c inside ∙ ap (λ (d : Committed). take n cs ++ d ∷ []) same)))
    at (inr (past, none)) = absurd (omega (arith, within, past))

-- what comes behind the log of the commits that are left out, once all are saved
pub saved_rest : (cs : List Committed) (from n : ℕ) (log : List ℕ) → length cs ≤ n → saved_log (take from cs) ++ log ≡ saved_log (take n cs) → log ≡ saved_log (drop from cs)
saved_rest cs from n log all is =
    append_cancel_left (saved_log (take from cs)) log (saved_log (drop from cs))
    (is ∙ ap saved_log (take_all n cs all) ∙ ap saved_log (sym (take-append-drop from cs)) ∙ flat_map-append entry_bytes (take from cs) (drop from cs))

-- an item that isn't there was left
pub missing_left : (cs : List Committed) (n from itemless : ℕ) → from ≤ n → n < length cs → (committed_at cs (n + 1) ≡ None) ⊎ (n + 1 ≤ itemless) → from < itemless
missing_left cs n from itemless low within (inr left) = omega (arith, low, left)
missing_left cs n from itemless low within (inl none) = at (slice_get_cases cs n).1
  where
    at : ((c : Committed) × (n < length cs) × (slice_get cs n ≡ Some c) × (get_or cs n c ≡ c)) ⊎ ((length cs ≤ n) × (slice_get cs n ≡ None)) → from < itemless
    at (inl (c, inside, there, same)) = absurd (let some = committed_next cs n c there in let bad : Some c ≡ None = sym some ∙ none in cc)
    at (inr (past, gone)) = absurd (omega (arith, within, past))
