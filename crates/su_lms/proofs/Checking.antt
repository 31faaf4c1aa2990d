-- Signatures that are verified group by group.
use Rattle.std.proofs.Common.{◌≡◌, ℕ, ◌+◌, ◌-◌, ◌≤◌, ◌<◌, List, length, get_or, take, drop, sym, ◌∙◌, subst, inl, inr, arith}
use Rattle.std.proofs.lemmas.Bool.{cases_lt}
use Rattle.std.proofs.lemmas.List.{get_or-take, get_or-drop}
use Rattle.su_lms.specs.Check.{IsChecked}
use Rattle.su_lms.specs.declared.checks.Check.{Check}
use Rattle.su_lms.proofs.Parts.{get_or_before, get_or_inside, get_or_behind}
use borrow.Rule.Slice.PartMut.{put_mid}

module _ (first count : ℕ) (start before part : List Check) (long : length part ≡ count) (inside : first + count ≤ length before) where
  -- those of the groups before and of the next one are verified
  pub verified_on : ((k : ℕ) (d : Check) → k < first → k < length start → IsChecked (get_or start k d) (get_or before k d))
      → ((k : ℕ) (d : Check) → first ≤ k → get_or before k d ≡ get_or start k d)
      → ((k : ℕ) (d : Check) → k < count → IsChecked (get_or (take count (drop first before)) k d) (get_or part k d))
      → (k : ℕ) (d : Check) → k < first + count → k < length start → IsChecked (get_or start k d) (get_or (put_mid first count before part) k d)
  verified_on each others made k d low within =
      elim (cases_lt k first) [
        | inl less ↦ subst (IsChecked (get_or start k d)) (sym (get_or_before first count before part long inside d k less)) (each k d less within)
        | inr at ↦
            let place : first + (k - first) ≡ k = omega arith in
            let was : get_or (take count (drop first before)) (k - first) d ≡ get_or start (first + (k - first)) d =
            get_or-take count (drop first before) (k - first) d (omega arith) ∙ get_or-drop first before (k - first) d ∙ others (first + (k - first)) d (omega arith) in
            subst (λ (n : ℕ). IsChecked (get_or start n d) (get_or (put_mid first count before part) n d)) place
            (subst (IsChecked (get_or start (first + (k - first)) d)) (sym (get_or_inside first count before part long inside d (k - first) (omega arith)))
            (subst (λ (check : Check). IsChecked check (get_or part (k - first) d)) was (made (k - first) d (omega arith))))
      ]

  -- those behind are as they were
  pub same_behind : ((k : ℕ) (d : Check) → first ≤ k → get_or before k d ≡ get_or start k d)
      → (k : ℕ) (d : Check) → first + count ≤ k → get_or (put_mid first count before part) k d ≡ get_or start k d
  same_behind others k d high = get_or_behind first count before part long inside d k high ∙ others k d (omega arith)
