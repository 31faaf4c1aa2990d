-- What proofs of the crates above may cite: lists of live operations, by the place of one among them.
use Rattle.std.proofs.Common.{◌≡◌, ℕ, ◌<◌, true, false, cond, nat_eq, List, [], ◌∷◌, ◌++◌, Some, refl, ◌∙◌, ap, arith}
use Rattle.std.proofs.lemmas.Bool.{eq-eqb, ne_eqb, lt-ltb, le-ltb}
use Rattle.std.specs.List.{AllByRecursion}
use Rattle.su_live.specs.declared.operations.LiveOperation.{LiveOperation}
use Rattle.su_live.specs.Live.{find_live, insert_live, join_live, last_reader, live_blocker, without, with_inverse}
pub use Rattle.su_live.proofs.LiveLemmas.{IsThere, is_there, not_missing, found_number, found_all, no_inverse_put, without_none}

module _ {I : Type 0} where
  -- all have lower numbers than n, or greater ones
  abbrev pub AllBelow : ℕ → List (LiveOperation I) → Type 0
  AllBelow n ks = AllByRecursion (λ (k : LiveOperation I). k.number < n) ks

  abbrev pub AllAbove : ℕ → List (LiveOperation I) → Type 0
  AllAbove n ks = AllByRecursion (λ (k : LiveOperation I). n < k.number) ks

  lower : (n : ℕ) (j : LiveOperation I) → j.number < n → nat_eq j.number n ≡ false
  lower n j lt = ne_eqb j.number n (λ same. omega arith)

  here : (n : ℕ) (k : LiveOperation I) → k.number ≡ n → nat_eq k.number n ≡ true
  here n k same = eq-eqb k.number n same

  pub find_live-there : (n : ℕ) (before : List (LiveOperation I)) (k : LiveOperation I) (after : List (LiveOperation I)) → AllBelow n before → k.number ≡ n → find_live n (before ++ k ∷ after) ≡ Some k
  find_live-there n [] k after below same = ap (λ b. cond b (Some k) (find_live n after)) (here n k same)
  find_live-there n (j ∷ js) k after below same =
      ap (λ b. cond b (Some j) (find_live n (js ++ k ∷ after))) (lower n j below.0) ∙ find_live-there n js k after below.1 same

  pub without-there : (n : ℕ) (before : List (LiveOperation I)) (k : LiveOperation I) (after : List (LiveOperation I)) → AllBelow n before → k.number ≡ n → without n (before ++ k ∷ after) ≡ before ++ after
  without-there n [] k after below same = ap (λ b. cond b after (k ∷ without n after)) (here n k same)
  without-there n (j ∷ js) k after below same =
      ap (λ b. cond b (js ++ k ∷ after) (j ∷ without n (js ++ k ∷ after))) (lower n j below.0) ∙ ap (λ is. j ∷ is) (without-there n js k after below.1 same)

  pub live_blocker-there : (n : ℕ) (before : List (LiveOperation I)) (k : LiveOperation I) (after : List (LiveOperation I)) → AllBelow n before → k.number ≡ n
      → live_blocker n (before ++ k ∷ after) ≡ last_reader k.footprint.writes.items after
  live_blocker-there n [] k after below same = ap (λ b. cond b (last_reader k.footprint.writes.items after) (live_blocker n after)) (here n k same)
  live_blocker-there n (j ∷ js) k after below same =
      ap (λ b. cond b (last_reader j.footprint.writes.items (js ++ k ∷ after)) (live_blocker n (js ++ k ∷ after))) (lower n j below.0) ∙ live_blocker-there n js k after below.1 same

  insert-first : (k : LiveOperation I) (after : List (LiveOperation I)) → AllAbove k.number after → insert_live k after ≡ k ∷ after
  insert-first k [] above = refl
  insert-first k (j ∷ js) above = ap (λ b. cond b (k ∷ j ∷ js) (j ∷ insert_live k js)) (lt-ltb k.number j.number above.0)

  -- where its number belongs
  pub insert_live-between : (k : LiveOperation I) (before after : List (LiveOperation I)) → AllBelow k.number before → AllAbove k.number after → insert_live k (before ++ after) ≡ before ++ k ∷ after
  insert_live-between k [] after below above = insert-first k after above
  insert_live-between k (j ∷ js) after below above =
      let lt : j.number < k.number = below.0 in
      ap (λ b. cond b (k ∷ j ∷ (js ++ after)) (j ∷ insert_live k (js ++ after))) (le-ltb k.number j.number (omega arith))
      ∙ ap (λ is. j ∷ is) (insert_live-between k js after below.1 above)

  -- behind all others
  pub insert_live-last : (k : LiveOperation I) (ks : List (LiveOperation I)) → AllBelow k.number ks → insert_live k ks ≡ ks ++ k ∷ []
  insert_live-last k [] below = refl
  insert_live-last k (j ∷ js) below =
      let lt : j.number < k.number = below.0 in
      ap (λ b. cond b (k ∷ j ∷ js) (j ∷ insert_live k js)) (le-ltb k.number j.number (omega arith)) ∙ ap (λ is. j ∷ is) (insert_live-last k js below.1)

  pub join_live-there : (k f : LiveOperation I) (before after : List (LiveOperation I)) → AllBelow k.number before → f.number ≡ k.number → join_live k (before ++ f ∷ after) ≡ before ++ k ∷ []
  join_live-there k f [] after below same = ap (λ b. cond b (k ∷ []) (f ∷ join_live k after)) (here k.number f same)
  join_live-there k f (j ∷ js) after below same =
      ap (λ b. cond b (k ∷ []) (j ∷ join_live k (js ++ f ∷ after))) (lower k.number j below.0) ∙ ap (λ is. j ∷ is) (join_live-there k f js after below.1 same)

  pub with_inverse-there : (n : ℕ) (i : I) (before : List (LiveOperation I)) (k : LiveOperation I) (after : List (LiveOperation I)) → AllBelow n before → k.number ≡ n
      → with_inverse n i (before ++ k ∷ after) ≡ before ++ record k { inverse = i } ∷ after
  with_inverse-there n i [] k after below same = ap (λ b. cond b (record k { inverse = i } ∷ after) (k ∷ with_inverse n i after)) (here n k same)
  with_inverse-there n i (j ∷ js) k after below same =
      ap (λ b. cond b (record j { inverse = i } ∷ (js ++ k ∷ after)) (j ∷ with_inverse n i (js ++ k ∷ after))) (lower n j below.0)
      ∙ ap (λ is. j ∷ is) (with_inverse-there n i js k after below.1 same)
