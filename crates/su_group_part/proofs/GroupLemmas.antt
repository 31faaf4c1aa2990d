-- What a group's part tells of the group's i-table, and what edits of a pointer make of the table.
use Rattle.std.proofs.Common.{◌≡◌, ◌∙◌, ◌⊎◌, inl, inr, ℕ, ◌≤◌, Bool, true, false, cond, IsTrue, List, [], ◌∷◌, Option, None, Some, nat_eq, ap, refl, sym, subst, arith}
use Rattle.std.specs.Option.{option_map}
use Rattle.std.specs.Ordering.{nat_cmp, eq_by_cmp}
use Rattle.std.specs.FinMap.{find, get, entries, get-entries}
use Rattle.std.proofs.lemmas.Bool.{false≢true}
use Rattle.std.proofs.lemmas.Bool.Decides.{nat_tests}
use Rattle.su_bytes.specs.Place.{Place, is_place}
use Rattle.su_tree.specs.Number.{number_bits, is_u32}
use Rattle.su_tree.specs.Laws.Numbers as number
use Rattle.su_hash_tree.specs.declared.nodes.Node.{Node, Stub, Empty, Leaf, Split'}
use Rattle.su_hash_tree.specs.Edits.{value_at, with_value, without_key}
use Rattle.su_hash_tree.specs.Stands.{reached}
use Rattle.su_hash_tree.proofs.Compared.{find_by_order, keys_meant, put_by_order, without_by_order}
use Rattle.su_hash_tree.proofs.Standing.{stands_map}
use Rattle.std.specs.List.{AllByRecursion as Each}
use Rattle.su_part_tree.specs.declared.parts.PartTree.{PartTree}
use Rattle.su_part_tree.specs.Loading.{IsLoaded}
use Rattle.su_part_tree.specs.Part.{StandsFor, IsKnown, reaches}
use Rattle.su_table.specs.Cell.{Cell.Pointer, place_value, val}
use Rattle.su_table.specs.Edit.{Edit.Pointers, edit}
use Rattle.su_table.specs.Handle.{group_table}
use Rattle.su_table.specs.Query.{is_nothing}
use Rattle.su_table.specs.Table.{with_pair}
use Rattle.su_table.specs.Tree.{Tree}
use Rattle.su_table.proofs.TableEdits.{find-pairs_of, edits_change_one_table}
use Rattle.su_group_part.specs.Part.{place_sort}

nat_cmp-same : (n m : ℕ) → eq_by_cmp nat_cmp n m ≡ true → n ≡ m
nat_cmp-same n m tie = grind (arith, nat_tests, tie)

pub small_number : (n : ℕ) → n ≤ 1000000 → IsTrue (is_u32 n)
small_number n h = grind (arith, nat_tests, h)

eq_itself : (n : ℕ) → nat_eq n n ≡ true
eq_itself n = grind (arith, nat_tests)

same_place : (o : Option Place) → option_map (λ (p : Place). p) o ≡ o
same_place None = refl
same_place (Some p) = refl

module _ (g n : ℕ) (T : Tree) (t : PartTree ℕ Place) (h : StandsFor place_sort t (group_table T g)) (small : IsTrue (is_u32 n)) where
  -- what an i-table has at a number
  pub table_value : value_at number_bits n (group_table T g) ≡ get T.pointers (g, n)
  unfolding group_table
  table_value =
      find_by_order is_u32 number_bits nat_cmp number.ordered n (group_table T g) small (keys_meant is_u32 is_place (group_table T g) (stands_map place_sort t.root (group_table T g) h).good)
      ∙ find-pairs_of (λ (p : Place). p) g n (entries T.pointers) ∙ same_place _ ∙ sym (get-entries T.pointers (g, n))

  -- the cell of the pointer has it
  pub cell_value : (o : Option Place) → o ≡ value_at number_bits n (group_table T g) → place_value o ≡ val T (Pointer (g, n))
  unfolding val
  cell_value o e = ap place_value (e ∙ table_value)

  pub cell_nothing : value_at number_bits n (group_table T g) ≡ None → is_nothing (val T (Pointer (g, n))) ≡ true
  unfolding val
  cell_nothing e = ap (λ o. is_nothing (place_value o)) (sym table_value ∙ e)

  -- what is known of the pointer is known of the table
  pub known_there : IsTrue (reaches number_bits n t) ⊎ (get T.pointers (g, n) ≡ None) → IsKnown number_bits n t (group_table T g)
  known_there (inl has) = inl has
  known_there (inr none) = inr (table_value ∙ none)

  -- the table of a tree in which the pointer leads there
  pub table_put : (place : Place) → with_value number_bits n place (group_table T g) ≡ group_table (edit T (Pointers (g, n) (Some place))) g
  table_put place =
      put_by_order is_u32 number_bits nat_cmp number.ordered n place (group_table T g) small (keys_meant is_u32 is_place (group_table T g) (stands_map place_sort t.root (group_table T g) h).good)
      ∙ sym (edits_change_one_table.of_group T (g, n) (Some place) g ∙ ap (λ b. cond b (with_pair n (Some place) (group_table T g)) (group_table T g)) (eq_itself g))

  -- the table of a tree in which it is gone
  pub table_removed : without_key number_bits n (group_table T g) ≡ group_table (edit T (Pointers (g, n) None)) g
  table_removed =
      without_by_order is_u32 number_bits nat_cmp number.ordered n (group_table T g) small (keys_meant is_u32 is_place (group_table T g) (stands_map place_sort t.root (group_table T g) h).good)
      ∙ sym (edits_change_one_table.of_group T (g, n) None g ∙ ap (λ b. cond b (with_pair n None (group_table T g)) (group_table T g)) (eq_itself g))

-- what is known of a pointer stays known where another one, or that one, is removed
no_key : {V : Type 0} (n : ℕ) (es : List (ℕ × V)) → Each (λ e. IsTrue (is_u32 e.0)) es → is_u32 n ≡ false → find nat_cmp n es ≡ None
no_key n [] all large = refl
no_key n (e ∷ es) all large = go (eq_by_cmp nat_cmp n e.0) refl (no_key n es all.1 large)
  where
    go : (b : Bool) → eq_by_cmp nat_cmp n e.0 ≡ b → find nat_cmp n es ≡ None → cond b (Some e.1) (find nat_cmp n es) ≡ None
    go false other later = later
    go true tie later = absurd (let z : true ≡ false = sym all.0 ∙ ap is_u32 (sym (nat_cmp-same n e.0 tie)) ∙ large in cc)

past_range : (g m : ℕ) (V : Tree) (t : PartTree ℕ Place) → StandsFor place_sort t (group_table V g) → is_u32 m ≡ false → get V.pointers (g, m) ≡ None
unfolding group_table
past_range g m V t h large =
    sym (find-pairs_of (λ (p : Place). p) g m (entries V.pointers) ∙ same_place _ ∙ sym (get-entries V.pointers (g, m)))
    ∙ no_key m (group_table V g) (keys_meant is_u32 is_place (group_table V g) (stands_map place_sort t.root (group_table V g) h).good) large

pub pointer_stays : (g n m : ℕ) (T : Tree) (t v : PartTree ℕ Place) → StandsFor place_sort t (group_table T g) → IsTrue (is_u32 n) → StandsFor place_sort v (without_key number_bits n (group_table T g))
    → (IsKnown number_bits m t (group_table T g) → IsKnown number_bits m v (without_key number_bits n (group_table T g)))
    → IsTrue (reaches number_bits m t) ⊎ (get T.pointers (g, m) ≡ None) → IsTrue (reaches number_bits m v) ⊎ (get (edit T (Pointers (g, n) None)).pointers (g, m) ≡ None)
pointer_stays g n m T t v h small stands stays known = go (is_u32 m) refl
  where
    same : without_key number_bits n (group_table T g) ≡ group_table (edit T (Pointers (g, n) None)) g
    same = table_removed g n T t h small

    after : StandsFor place_sort v (group_table (edit T (Pointers (g, n) None)) g)
    after = subst (StandsFor place_sort v) same stands

    turned : is_u32 m ≡ true → IsKnown number_bits m v (without_key number_bits n (group_table T g)) → IsTrue (reaches number_bits m v) ⊎ (get (edit T (Pointers (g, n) None)).pointers (g, m) ≡ None)
    turned e (inl r) = inl r
    turned e (inr none) = inr (sym (table_value g m (edit T (Pointers (g, n) None)) v after e) ∙ sym (ap (value_at number_bits m) same) ∙ none)

    go : (b : Bool) → is_u32 m ≡ b → IsTrue (reaches number_bits m v) ⊎ (get (edit T (Pointers (g, n) None)).pointers (g, m) ≡ None)
    go true e = turned e (stays (known_there g m T t h e known))
    go false e = inr (past_range g m (edit T (Pointers (g, n) None)) v after e)

-- where a key's path is loaded, the root is
pub root_loaded : {K V : Type 0} (bits : K → List Bool) (k : K) (n : Node K V) → IsTrue (reached bits k n) → IsLoaded n
root_loaded bits k (Stub d) h = absurd (false≢true h)
root_loaded bits k (Empty d) h = tt
root_loaded bits k (Leaf x v d) h = tt
root_loaded bits k (Split' p a l b r d) h = tt
