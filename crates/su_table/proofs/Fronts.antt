-- Fronts of blocks, as numbers come into a table and leave it.
use Rattle.std.proofs.Common.{◌≡◌, ◌≢◌, ◌∙◌, sym, ap, refl, subst, ℕ, ◌+◌, ◌-◌, ◌*◌, ◌/◌, ◌%◌, ◌<◌, ◌≤◌, Bool, true, false, not, cond, is_some, nat_eq, List, [], ◌∷◌, ◌++◌, zero, suc, length, set, get_or, Option, Some, None, arith}
use Rattle.std.specs.Ordering.{nat_cmp, eq_by_cmp}
use Rattle.std.specs.Cmp.{nat_cmp_total}
use Rattle.std.specs.FinMap.{nat_cmp-IsAntisymmetric}
use Rattle.std.specs.FinMap.Entries as by
use Rattle.std.proofs.lemmas.Bool.{eqb-true}
use Rattle.std.proofs.lemmas.Bool.Decides.{nat_tests}
use Rattle.std.proofs.lemmas.List.{get_or-set_same, get_or-set_other}
use Rattle.std.proofs.lemmas.Nat.{div-add-mod'}
use Rattle.su_table.specs.Free.{IsLeast, has_none, HasAll, AreFronts}
use Rattle.su_table.specs.Table.{with_pair}

-- the least number that passes two tests that agree
pub least_alike : (f g : ℕ → Bool) (from : ℕ) → ((n : ℕ) → f n ≡ g n) → (found : Option ℕ) → IsLeast f from found → IsLeast g from found
least_alike f g from same (Some n) (after, is, passes, others) = (after, is, sym (same n) ∙ passes, λ m a b. sym (same m) ∙ others m a b)
least_alike f g from same None none = λ m a b. sym (same m) ∙ none m a b

-- what holds of each front that is kept, after one was set
at_each : (P : ℕ → ℕ → Type 0) (fs : List ℕ) (b f c : ℕ) → b < length fs → P b f → (c ≢ b → P c (get_or fs c 0)) → P c (get_or (set fs b f) c 0)
at_each P fs b f c within new old = elim (nat_eq c b) as (λ x. nat_eq c b ≡ x → P c (get_or (set fs b f) c 0)) [
  | true ↦ λ e. subst (λ i. P i (get_or (set fs b f) i 0)) (sym (eqb-true c b e)) (subst (P b) (sym (get_or-set_same fs b f 0 within)) new)
  | false ↦ λ e. let other : c ≢ b = grind (arith, nat_tests) in subst (P c) (sym (get_or-set_other fs b c f 0 other)) (old other)
] refl

get_or-push_default : (fs : List ℕ) (c : ℕ) → get_or fs c 0 ≡ get_or (fs ++ 0 ∷ []) c 0
get_or-push_default [] zero = refl
get_or-push_default [] (suc c) = refl
get_or-push_default (f ∷ fs) zero = refl
get_or-push_default (f ∷ fs) (suc c) = get_or-push_default fs c

module _ {V : Type 0} (ps : List (ℕ × V)) where
  there_still : (n : ℕ) (v : V) (k : ℕ) → has_none ps k ≡ false → has_none (with_pair n (Some v) ps) k ≡ false
  there_still n v k there =
      ap (λ o. not (is_some o)) (by.find-put nat_cmp nat_cmp_total k n v ps)
      ∙ elim (eq_by_cmp nat_cmp k n) as (λ b. not (is_some (cond b (Some v) (by.find nat_cmp k ps))) ≡ false) [ true ↦ refl | false ↦ there ]

  there_without : (n k : ℕ) → k ≢ n → has_none ps k ≡ false → has_none (with_pair n None ps) k ≡ false
  there_without n k other there =
      let kept : ℕ → Bool = λ x. not (eq_by_cmp nat_cmp n x) in
      let stays : kept k ≡ true = grind (arith, nat_tests) in
      ap (λ o. not (is_some o)) (by.find-where_key nat_cmp kept k (λ x e. ap kept (sym (nat_cmp-IsAntisymmetric k x e))) ps ∙ ap (λ b. cond b (by.find nat_cmp k ps) None) stays)
      ∙ there

  -- a number comes
  pub fronts_stay : (fs : List ℕ) (n : ℕ) (v : V) → AreFronts ps fs → AreFronts (with_pair n (Some v) ps) fs
  fronts_stay fs n v are = record {
    within = are.within;
    there = λ block k from to. there_still n v k (are.there block k from to);
  }

  -- of a block more nothing is known
  pub front_more : (fs : List ℕ) → AreFronts ps fs → AreFronts ps (fs ++ 0 ∷ [])
  front_more fs are = record {
    within = λ c. subst (λ x. x ≤ 1024) (get_or-push_default fs c) (are.within c);
    there = λ c. subst (λ x. HasAll ps (c * 1024 + 1) (c * 1024 + 1 + x)) (get_or-push_default fs c) (are.there c);
  }

  -- more numbers of a block are known
  pub front_set : (fs : List ℕ) (b f : ℕ) → b < length fs → AreFronts ps fs → f ≤ 1024 → HasAll ps (b * 1024 + 1) (b * 1024 + 1 + f) → AreFronts ps (set fs b f)
  front_set fs b f within are small has = record {
    within = λ c. at_each (λ i x. x ≤ 1024) fs b f c within small (λ other. are.within c);
    there = λ c. at_each (λ i x. HasAll ps (i * 1024 + 1) (i * 1024 + 1 + x)) fs b f c within has (λ other. are.there c);
  }

  -- a number leaves, and the front of its block ends before it
  pub front_cut : (fs : List ℕ) (n f : ℕ) → 1 ≤ n → (n - 1) / 1024 < length fs → f ≤ get_or fs ((n - 1) / 1024) 0 → f ≤ (n - 1) % 1024
      → AreFronts ps fs → AreFronts (with_pair n None ps) (set fs ((n - 1) / 1024) f)
  front_cut fs n f positive within less before are =
      let b = (n - 1) / 1024 in
      let whole = div-add-mod' (n - 1) 1024 in
      let mod_small : (n - 1) % 1024 < 1024 = omega (arith) in
      record {
        within = λ c. at_each (λ i x. x ≤ 1024) fs b f c within (let w = are.within b in omega (arith, w, less)) (λ other. are.within c);
        there = λ c. at_each (λ i x. HasAll (with_pair n None ps) (i * 1024 + 1) (i * 1024 + 1 + x)) fs b f c within
            (λ k from to. there_without n k (λ is. omega (arith, is, to, before, whole, positive)) (are.there b k from (omega (arith, to, less))))
            (λ other k from to. there_without n k (λ is. other (let w = are.within c in omega (arith, is, from, to, w, whole, mod_small, positive))) (are.there c k from to));
      }

  -- a number leaves a block of which nothing is kept
  pub front_none : (fs : List ℕ) (n : ℕ) → 1 ≤ n → get_or fs ((n - 1) / 1024) 0 ≡ 0 → AreFronts ps fs → AreFronts (with_pair n None ps) fs
  front_none fs n positive none are =
      let b = (n - 1) / 1024 in
      let whole = div-add-mod' (n - 1) 1024 in
      let mod_small : (n - 1) % 1024 < 1024 = omega (arith) in
      record {
        within = are.within;
        there = λ c k from to. there_without n k
            (λ is. let w = are.within c in
            let here : c ≡ b = omega (arith, is, from, to, w, whole, mod_small, positive) in
            omega (arith, from, to, ap (λ i. get_or fs i 0) here, none))
            (are.there c k from to);
      }
