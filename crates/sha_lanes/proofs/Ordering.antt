-- Orders of runs, and runs that are put back where an order says.
use Rattle.std.proofs.Common.{◌≡◌, ◌⊎◌, ℕ, ◌+◌, ◌-◌, ◌%◌, ◌^◌, ◌<◌, min, List, length, set, get_or, slice_index, ◌≢◌, ap, sym, ◌∙◌, subst, inl, inr, arith}
use Rattle.std.specs.List.{All}
use Rattle.std.specs.List.Sorted.{IsPermutation}
use Rattle.std.proofs.lemmas.Bool.{cases_lt}
use Rattle.std.proofs.lemmas.List.{get_or_default, get_or-set_same, get_or-set_other}
use Rattle.std.proofs.lemmas.List.Elements.{All-get_or, All-from_get_or, Contains-get_or}
use Rattle.std.proofs.lemmas.List.Sorted.{All-permutation, Contains-permutation}
use Rattle.sha_lanes.specs.declared.runs.ChainRun.{ChainRun}
use Rattle.sha_lanes.specs.Run.{HasRun, IsOrder, idle, place_in, run_at}

-- numbers with each place as their low 16 bits are an order when they are sorted
pub is_order : (keys order : List ℕ) → IsPermutation keys order → length order ≡ length keys → ((p : ℕ) → p < length keys → slice_index keys p % 2 ^ 16 ≡ p) → IsOrder order
is_order keys order moved size each =
    let P : ℕ → Type 0 = λ key. key % 2 ^ 16 < length keys in
    let all : All P order = All-permutation P keys order moved (All-from_get_or P keys 0 (λ p low. omega (arith, each p low))) in
    record {
      inside = λ p low. omega (arith, size, All-get_or P order p 0 low all);
      all = λ k low.
          let inside : k < length keys = omega arith in
          let there = Contains-permutation keys order (slice_index keys k) moved (Contains-get_or keys k 0 inside) in
          let same : slice_index order there.0 ≡ slice_index keys k = get_or_default order there.0 0 (slice_index keys k) there.1 ∙ there.2 in
          (there.0, there.1, ap (λ key. key % 2 ^ 16) same ∙ each k inside);
    }

-- a place of an order is one
pub place_inside : (order : List ℕ) (at : ℕ) → IsOrder order → 0 < length order → place_in order at < length order
place_inside order at is some = is.inside (min at (length order - 1)) (omega arith)

-- what has run is what stood at the place in the order
pub has_run_at : (runs : List ChainRun) (order : List ℕ) (first l at p : ℕ) (read after : ChainRun) → IsOrder order → 0 < length order → length order ≡ length runs → p ≡ place_in order at → at ≡ first + l → read ≡ get_or runs p read → HasRun read after → HasRun (run_at runs (place_in order (first + l))) after
has_run_at runs order first l at p read after is some size place here reads ran =
    let place' : p ≡ place_in order (first + l) = place ∙ ap (place_in order) here in
    let inside : p < length runs = omega (arith, place', place_inside order (first + l) is some) in
    subst (λ (n : ℕ). HasRun (run_at runs n) after) place' (subst (λ (run : ChainRun). HasRun run after) (reads ∙ get_or_default runs p read idle inside) ran)

-- a run that has ended, put back
pub put_back : (first now : List ChainRun) (p : ℕ) (x : ChainRun) → p < length now → HasRun (run_at first p) x → ((k : ℕ) → (run_at now k ≡ run_at first k) ⊎ HasRun (run_at first k) (run_at now k)) → (k : ℕ) → (run_at (set now p x) k ≡ run_at first k) ⊎ HasRun (run_at first k) (run_at (set now p x) k)
put_back first now p x inside ran on k =
    let other : k ≢ p → (run_at (set now p x) k ≡ run_at first k) ⊎ HasRun (run_at first k) (run_at (set now p x) k) =
    λ apart. subst (λ (run : ChainRun). (run ≡ run_at first k) ⊎ HasRun (run_at first k) run) (sym (get_or-set_other now p k x idle apart)) (on k) in
    elim (cases_lt k p) [
      | inl less ↦ other (λ same. omega (arith, same, less))
      | inr more ↦ elim (cases_lt p k) [
        | inl above ↦ other (λ same. omega (arith, same, above))
        | inr below ↦
            let same : p ≡ k = omega arith in
            let here : HasRun (run_at first p) (run_at (set now p x) p) = subst (HasRun (run_at first p)) (sym (get_or-set_same now p x idle inside)) ran in
            inr (subst (λ (n : ℕ). HasRun (run_at first n) (run_at (set now p x) n)) same here)
      ]
    ]

-- what has ended stays so
pub put_ended : (now : List ChainRun) (p : ℕ) (x : ChainRun) → p < length now → x.left ≡ 0 → (q : ℕ) → (q ≡ p) ⊎ ((run_at now q).left ≡ 0) → (run_at (set now p x) q).left ≡ 0
put_ended now p x inside none q which =
    let here : (run_at (set now p x) p).left ≡ 0 = ap (λ (run : ChainRun). run.left) (get_or-set_same now p x idle inside) ∙ none in
    let other : q ≢ p → (run_at now q).left ≡ 0 → (run_at (set now p x) q).left ≡ 0 = λ apart was. ap (λ (run : ChainRun). run.left) (get_or-set_other now p q x idle apart) ∙ was in
    elim which [
      | inl same ↦ subst (λ (n : ℕ). (run_at (set now p x) n).left ≡ 0) (sym same) here
      | inr was ↦ elim (cases_lt q p) [
        | inl less ↦ other (λ same. omega (arith, same, less)) was
        | inr more ↦ elim (cases_lt p q) [
          | inl above ↦ other (λ same. omega (arith, same, above)) was
          | inr below ↦
              let same : q ≡ p = omega arith in
              subst (λ (n : ℕ). (run_at (set now p x) n).left ≡ 0) (sym same) here
        ]
      ]
    ]
