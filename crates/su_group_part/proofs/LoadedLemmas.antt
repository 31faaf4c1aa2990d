-- Pointers that are loaded, and groups that have none.
use Rattle.std.proofs.Common.{◌≡◌, ◌∙◌, ℕ, true, cond, IsTrue, List, [], ◌∷◌, Option, None, Some, ◌&&◌, refl, sym, ap, arith}
use Rattle.std.specs.Option.{option_map}
use Rattle.std.specs.Ordering.{nat_cmp, eq_by_cmp}
use Rattle.std.specs.FinMap.{find, get, entries, get-entries}
use Rattle.std.proofs.lemmas.Bool.Decides.{nat_tests}
use Rattle.su_bytes.specs.Place.{Place, is_place}
use Rattle.su_tree.specs.Number.{number_bits, is_u32}
use Rattle.su_tree.specs.Laws.Numbers as number
use Rattle.su_hash_tree.specs.Edits.{value_at}
use Rattle.su_hash_tree.proofs.Compared.{find_by_order, keys_meant}
use Rattle.su_hash_tree.proofs.Standing.{stands_map}
use Rattle.su_part_tree.specs.declared.parts.PartTree.{PartTree}
use Rattle.su_part_tree.specs.Part.{StandsFor, loaded}
use Rattle.su_part_tree.proofs.Seeing.{pairs_each}
use Rattle.su_table.specs.Handle.{group_table}
use Rattle.su_table.specs.Tree.{Tree}
use Rattle.su_table.proofs.TableEdits.{find-pairs_of}
use Rattle.su_group_part.specs.Part.{place_sort}

-- what is loaded at a number, by the numbers' order
pub loaded_value : (n : ℕ) (t : PartTree ℕ Place) (m : List (ℕ × Place)) → StandsFor place_sort t m → IsTrue (is_u32 n) → value_at number_bits n (loaded t) ≡ find nat_cmp n (loaded t)
loaded_value n t m h small =
    find_by_order is_u32 number_bits nat_cmp number.ordered n (loaded t) small
    (keys_meant is_u32 is_place (loaded t) (pairs_each place_sort (λ (e : ℕ × Place). IsTrue (is_u32 e.0 && is_place e.1)) t.root m h (stands_map place_sort t.root m h).good))

-- a list in which no number is found is empty
nothing_found : {X : Type 0} (es : List (ℕ × X)) → ((n : ℕ) → find nat_cmp n es ≡ None) → es ≡ []
nothing_found [] none = refl
nothing_found (e ∷ es) none =
    let here : eq_by_cmp nat_cmp e.0 e.0 ≡ true = grind (arith, nat_tests) in
    absurd (let z : Some e.1 ≡ None = sym (ap (λ b. cond b (Some e.1) (find nat_cmp e.0 es)) here) ∙ none e.0 in cc)

none_map : (o : Option Place) → o ≡ None → option_map (λ (p : Place). p) o ≡ None
none_map o e = ap (option_map (λ (p : Place). p)) e

-- the table of a group that has no pointer
pub none_table : (g : ℕ) (T : Tree) → ((n : ℕ) → get T.pointers (g, n) ≡ None) → group_table T g ≡ []
unfolding group_table
none_table g T none = nothing_found _ (λ n. find-pairs_of (λ (p : Place). p) g n (entries T.pointers) ∙ none_map _ (sym (get-entries T.pointers (g, n)) ∙ none n))
