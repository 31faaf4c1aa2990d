-- The plain tree of what is loaded has at each place what is loaded there.
use Rattle.std.proofs.Common.{◌≡◌, ◌∙◌, ℕ, ◌+◌, ◌<◌, zero, suc, Bool, true, false, cond, List, [], ◌∷◌, ◌++◌, Option, Some, None, refl, sym, ap, arith}
use Rattle.std.specs.Prelude.{slice_get}
use Rattle.std.specs.Option.{option_map, option_and_then}
use Rattle.std.specs.Map.{lookup}
use Rattle.std.specs.BTreeMap.{is_at}
use Rattle.std.specs.Ordering.{nat_cmp, eq_by_cmp}
use Rattle.std.specs.FinMap.{find, get, get-from_entries}
use Rattle.std.proofs.lemmas.Bool.Decides.{nat_tests}
use Rattle.su_bytes.specs.Place.{Place, place_cmp}
use Rattle.su_node.proofs.Public.{eq_by_cmp-same}
use Rattle.su_table.proofs.Public.{place_cmp_exact, place_cmp_total}
use Rattle.su_part.specs.Seen.{seen_inode, loaded_inodes}
use Rattle.su_part_forest.specs.declared.forests.PartForest.{PartForest}
use Rattle.su_part_forest.specs.Forest.{loaded_inode, user_part, group_part}
use Rattle.su_part_forest.specs.Seen.{placed, all_placed, loaded_pointers, seen}

-- the first of two that is there
either : {Y : Type 0} → Option Y → Option Y → Option Y
either None o = o
either (Some y) o = Some y

either_none : {Y : Type 0} (o : Option Y) → either o None ≡ o
unfolding either
either_none None = refl
either_none (Some y) = refl

-- two places of one principal tie where their numbers do, and places of two principals don't
same_principal : (u n m : ℕ) → eq_by_cmp place_cmp (u, n) (u, m) ≡ eq_by_cmp nat_cmp n m
same_principal u n m = grind (arith, nat_tests)

pub other_principal : (v u n m : ℕ) → ¬ (v ≡ u) → eq_by_cmp place_cmp (v, n) (u, m) ≡ false
other_principal v u n m other = go (eq_by_cmp place_cmp (v, n) (u, m)) refl
  where
    go : (b : Bool) → eq_by_cmp place_cmp (v, n) (u, m) ≡ b → eq_by_cmp place_cmp (v, n) (u, m) ≡ false
    go true e = absurd (other (ap (λ (p : Place). p.0) (eq_by_cmp-same place_cmp_exact (v, n) (u, m) e)))
    go false e = e

-- a scan from the front is std's look-up
find_lookup : {X : Type 0} (n : ℕ) (es : List (ℕ × X)) → find nat_cmp n es ≡ lookup (is_at (nat_cmp n)) es
find_lookup n [] = refl
find_lookup n (e ∷ es) = ap (cond (is_at (nat_cmp n) e.0) (Some e.1)) (find_lookup n es)

module _ {X Y : Type 0} (value : X → Y) where
  find_here : (u n : ℕ) (es : List (ℕ × X)) (rest : List (Place × Y)) → find place_cmp (u, n) (placed value u es ++ rest) ≡ either (option_map value (find nat_cmp n es)) (find place_cmp (u, n) rest)
  unfolding either
  find_here u n [] rest = refl
  find_here u n (e ∷ es) rest =
      ap (λ b. cond b (Some (value e.1)) (find place_cmp (u, n) (placed value u es ++ rest))) (same_principal u n e.0)
      ∙ go (eq_by_cmp nat_cmp n e.0) (find_here u n es rest)
    where
      go : (b : Bool) → find place_cmp (u, n) (placed value u es ++ rest) ≡ either (option_map value (find nat_cmp n es)) (find place_cmp (u, n) rest)
          → cond b (Some (value e.1)) (find place_cmp (u, n) (placed value u es ++ rest)) ≡ either (option_map value (cond b (Some e.1) (find nat_cmp n es))) (find place_cmp (u, n) rest)
      go true later = refl
      go false later = later

  find_beside : (v u n : ℕ) → ¬ (v ≡ u) → (es : List (ℕ × X)) (rest : List (Place × Y)) → find place_cmp (v, n) (placed value u es ++ rest) ≡ find place_cmp (v, n) rest
  find_beside v u n other [] rest = refl
  find_beside v u n other (e ∷ es) rest =
      ap (λ b. cond b (Some (value e.1)) (find place_cmp (v, n) (placed value u es ++ rest))) (other_principal v u n e.0 other) ∙ find_beside v u n other es rest

module _ {P X Y : Type 0} (values : P → List (ℕ × X)) (value : X → Y) where
  none_before : (v n from : ℕ) (ps : List P) → v < from → find place_cmp (v, n) (all_placed values value from ps) ≡ None
  none_before v n from [] below = refl
  none_before v n from (p ∷ ps) below = find_beside value v from n (λ e. omega (arith, e, below)) (values p) (all_placed values value (from + 1) ps) ∙ none_before v n (from + 1) ps (omega (arith, below))

  found_from : (v n from k : ℕ) (ps : List P) → v ≡ from + k → find place_cmp (v, n) (all_placed values value from ps) ≡ option_and_then (λ p. option_map value (lookup (is_at (nat_cmp n)) (values p))) (slice_get ps k)
  unfolding either
  found_from v n from k [] is = refl
  found_from v n from zero (p ∷ ps) is =
      let here : v ≡ from = omega (arith, is) in
      rw here (find_here value from n (values p) (all_placed values value (from + 1) ps)
      ∙ ap (either (option_map value (find nat_cmp n (values p)))) (none_before from n (from + 1) ps (omega arith))
      ∙ either_none (option_map value (find nat_cmp n (values p))) ∙ ap (option_map value) (find_lookup n (values p)))
  found_from v n from (suc k) (p ∷ ps) is =
      find_beside value v from n (λ e. omega (arith, e, is)) (values p) (all_placed values value (from + 1) ps) ∙ found_from v n (from + 1) k ps (omega (arith, is))

and_then_map : {P X Y : Type 0} (value : X → Y) (of : P → Option X) (o : Option P) → option_and_then (λ p. option_map value (of p)) o ≡ option_map value (option_and_then of o)
and_then_map value of None = refl
and_then_map value of (Some p) = refl

no_change : {X : Type 0} (o : Option X) → option_map (λ x. x) o ≡ o
no_change None = refl
no_change (Some x) = refl

-- the inode that is seen at a place is what is loaded there
pub seen_inodes : (f : PartForest) (p : Place) → get (seen f).inodes p ≡ option_map seen_inode (loaded_inode p f)
unfolding seen
seen_inodes f p =
    get-from_entries place_cmp_total (all_placed loaded_inodes seen_inode 0 f.users.items) p
    ∙ found_from loaded_inodes seen_inode p.0 p.1 0 p.0 f.users.items (omega arith)
    ∙ and_then_map seen_inode (λ q. lookup (is_at (nat_cmp p.1)) (loaded_inodes q)) (user_part p.0 f)

-- the pointer that is seen of a group file is what is loaded there
pub seen_pointers : (f : PartForest) (g : Place) → get (seen f).pointers g ≡ option_and_then (λ p. find nat_cmp g.1 (loaded_pointers p)) (group_part g.0 f)
unfolding seen
seen_pointers f g =
    get-from_entries place_cmp_total (all_placed loaded_pointers (λ place. place) 0 f.groups.items) g
    ∙ found_from loaded_pointers (λ place. place) g.0 g.1 0 g.0 f.groups.items (omega arith)
    ∙ ap (λ (of : _ → Option Place). option_and_then of (group_part g.0 f)) (λ i p. (no_change (lookup (is_at (nat_cmp g.1)) (loaded_pointers p)) ∙ sym (find_lookup g.1 (loaded_pointers p))) i)
