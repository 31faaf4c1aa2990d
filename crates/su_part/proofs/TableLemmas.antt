-- A user's i-table in a tree whose values are in their ranges.
use Rattle.std.proofs.Common.{◌≡◌, ◌≢◌, ◌∙◌, ℕ, Bool, true, false, cond, IsTrue, List, [], ◌∷◌, map, nat_eq, Option, Some, None, refl, sym, subst, arith, ◌&&◌}
use Rattle.std.specs.Prelude.{IsSome}
use Rattle.std.specs.List.{AllByRecursion as Each, filter}
use Rattle.std.specs.List.Sorted.{IsStrictlySortedBy}
use Rattle.std.specs.Map.{keys_of}
use Rattle.std.specs.Cmp.{eq_by_cmp_equiv}
use Rattle.std.specs.Ordering.{nat_cmp, eq_by_cmp}
use Rattle.std.specs.declared.cmp.Ordering.TheVariants.{Less}
use Rattle.std.specs.FinMap.{get, entries, entries_sorted, get-entries}
use Rattle.std.specs.FinMap.Entries as by
use Rattle.std.proofs.lemmas.Bool.{and_from, eqb-true}
use Rattle.std.proofs.lemmas.Bool.Decides.{nat_tests}
use Rattle.su_bytes.specs.Place.{Place, place_cmp}
use Rattle.su_bytes.specs.declared.principals.Principal.TheVariants.{User}
use Rattle.su_tree.specs.Bits.{bits_cmp}
use Rattle.su_tree.specs.Number.{number_bits, is_u32}
use Rattle.su_tree.specs.Value.{is_digest}
use Rattle.su_tree.proofs.Collisions.{length-sha256}
use Rattle.su_tree.proofs.Public.{each_map}
use Rattle.su_tree.proofs.Sorted.{Rising, tree_of_rising, sorted_entries}
use Rattle.su_hash_tree.specs.Stands.{IsMap}
use Rattle.su_part_tree.specs.Part.{StandsFor}
use Rattle.su_node.specs.Inode.{Inode}
use Rattle.su_node.specs.Digest.{inode_item, inode_digest}
use Rattle.su_table.specs.Tree.{Tree}
use Rattle.su_table.specs.Handle.{pairs_of, user_table, handle}
use Rattle.su_table.proofs.Places.{place_cmp_total}
use Rattle.su_table.proofs.TableEdits.{is_sorted-pairs_of}
use Rattle.su_part.specs.declared.inodes.PartInode.{PartInode}
use Rattle.su_part.specs.declared.users.UserPart.{UserPart}
use Rattle.su_part.specs.Bytes.{number_sort}
use Rattle.su_part.specs.Part.{MeantUser, StandsAt, StandsUser, at_number}
use Rattle.su_part.proofs.BytesLemmas.{is_number}
use Rattle.su_tree.specs.Laws.Numbers as number

-- ---- numbers that rise

number_above : (e : ℕ × List ℕ) (es : List (ℕ × List ℕ)) → IsTrue (is_u32 e.0 && is_digest e.1) → Each (λ f. IsTrue (is_u32 f.0 && is_digest f.1)) es
    → Each (λ k. nat_cmp e.0 k ≡ Less) (keys_of es) → Each (λ f. bits_cmp (number_bits e.0) (number_bits f.0) ≡ Less) es
number_above e [] h a s = tt
number_above e (f ∷ es) h a s = (sym (number.ordered e.0 f.0 (left (is_u32 e.0) (is_digest e.1) h) (left (is_u32 f.0) (is_digest f.1) a.0)) ∙ s.0, number_above e es h a.1 s.1)
  where
    left : (a b : Bool) → IsTrue (a && b) → IsTrue a
    left true b h = refl
    left false b h = h

numbers_rise : (es : List (ℕ × List ℕ)) → Each (λ e. IsTrue (is_u32 e.0 && is_digest e.1)) es → IsStrictlySortedBy nat_cmp (keys_of es) → Rising number_bits es
unfolding IsStrictlySortedBy
numbers_rise [] a s = tt
numbers_rise (e ∷ es) a s = (number_above e es a.0 a.1 s.0, numbers_rise es a.1 s.1)

-- ---- each entry of a map is found in it

found_all : (es : List (Place × Inode)) → Each (λ e. IsSome (by.find place_cmp e.0 es)) es
found_all [] = tt
found_all (e ∷ es) = (
  subst (λ b. IsSome (cond b (Some e.1) (by.find place_cmp e.0 es))) (sym ((eq_by_cmp_equiv place_cmp_total).refl e.0)) refl,
  each_map (λ f. IsSome (by.find place_cmp f.0 es)) (λ f. IsSome (by.find place_cmp f.0 (e ∷ es))) (λ f h. later (eq_by_cmp place_cmp f.0 e.0) (by.find place_cmp f.0 es) h) es (found_all es),
)
  where
    later : (b : Bool) (o : Option Inode) → IsSome o → IsSome (cond b (Some e.1) o)
    later true o h = refl
    later false o h = h

digest_good : (i : Inode) → IsTrue (is_digest (inode_digest i))
unfolding inode_digest
digest_good i = grind (arith, nat_tests, length-sha256 (inode_item i))

module _ (u : ℕ) (T : Tree) (meant : MeantUser u T) where
  pairs_good : (es : List (Place × Inode)) → Each (λ (e : Place × Inode). IsSome (by.find place_cmp e.0 (entries T.inodes))) es → Each (λ (e : ℕ × List ℕ). IsTrue (is_u32 e.0 && is_digest e.1)) (pairs_of inode_digest u es)
  pairs_good [] a = tt
  pairs_good (e ∷ es) a = go (nat_eq e.0.0 u) refl (pairs_good es a.1)
    where
      there : nat_eq e.0.0 u ≡ true → get T.inodes (u, e.0.1) ≢ None
      there same none =
          let some : IsSome (by.find place_cmp (u, e.0.1) (entries T.inodes)) = subst (λ (v : ℕ). IsSome (by.find place_cmp (v, e.0.1) (entries T.inodes))) (eqb-true e.0.0 u same) a.0 in
          let z : false ≡ true = subst IsSome (sym (get-entries T.inodes (u, e.0.1)) ∙ none) some in
          absurd cc

      go : (b : Bool) → nat_eq e.0.0 u ≡ b → Each (λ (f : ℕ × List ℕ). IsTrue (is_u32 f.0 && is_digest f.1)) (pairs_of inode_digest u es)
          → Each (λ (f : ℕ × List ℕ). IsTrue (is_u32 f.0 && is_digest f.1)) (map (λ (x : Place × Inode). (x.0.1, inode_digest x.1)) (cond b (e ∷ filter (λ (x : Place × Inode). nat_eq x.0.0 u) es) (filter (λ (x : Place × Inode). nat_eq x.0.0 u) es)))
      go true same rest = (and_from (is_u32 e.0.1) (is_digest (inode_digest e.1)) (is_number e.0.1 (meant.numbers e.0.1 (there same))) (digest_good e.1), rest)
      go false same rest = rest

  table_map : IsMap number_sort (handle T (User u)) (user_table T u)
  unfolding user_table
  table_map =
      let good = pairs_good (entries T.inodes) (found_all (entries T.inodes)) in
      record {
        tree = tree_of_rising number_bits number.prefix_free _ (numbers_rise _ good (sorted_entries nat_cmp _ (is_sorted-pairs_of inode_digest u (entries T.inodes) (entries_sorted T.inodes))));
        good = good;
        is = refl;
      }

  none_loaded : (es : List (ℕ × PartInode)) → es ≡ [] → (n : ℕ) → StandsAt (at_number es n) (get T.inodes (u, n))
  none_loaded es none n = subst (λ fs. StandsAt (at_number fs n) (get T.inodes (u, n))) (sym none) tt

  -- of the table only the digest is known, and no inode is loaded
  pub left_user : (p : UserPart) (d : List ℕ) → d ≡ handle T (User u) → ((m : List (ℕ × List ℕ)) → IsMap number_sort d m → StandsFor number_sort p.table m) → p.inodes.entries ≡ [] → StandsUser u p T
  left_user p d is stands none = record {
    table = stands (user_table T u) (subst (λ x. IsMap number_sort x (user_table T u)) (sym is) table_map);
    meant = meant.inodes;
    inodes = none_loaded p.inodes.entries none;
  }
