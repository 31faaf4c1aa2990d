-- Users' parts that are made: the one with nothing, and copies.
use Rattle.std.proofs.Common.{◌≡◌, ◌≢◌, ◌∙◌, ℕ, Bool, true, false, cond, IsTrue, List, [], ◌∷◌, ◌++◌, Option, Some, None, refl, sym, ap, subst, arith}
use Rattle.std.specs.Prelude.{IsSome, ⊤}
use Rattle.std.specs.Option.{option_map}
use Rattle.std.specs.Ordering.{nat_cmp, eq_by_cmp}
use Rattle.std.specs.Cmp.{nat_cmp_total}
use Rattle.std.specs.BTreeMap.{is_at, insert_entry}
use Rattle.std.specs.List.Sorted.{IsStrictlySortedBy}
use Rattle.std.specs.Map.{keys_of}
use Rattle.std.specs.FinMap.{find, get, empty, get-empty, entries, get-entries, nat_cmp-IsAntisymmetric}
use Rattle.std.proofs.lemmas.Bool.Decides.{nat_tests}
use Rattle.su_hash_tree.proofs.Wholes.{whole_is}
use Rattle.su_tree.specs.Number.{number_bits, number_bytes, is_u32}
use Rattle.su_tree.specs.Value.{is_digest}
use Rattle.su_tree.specs.Laws.Numbers as number
use Rattle.su_part_tree.specs.Part.{StandsFor, reaches, loaded, HasAll as HasTree}
use Rattle.su_node.specs.Name.{Name}
use Rattle.su_node.specs.Inode.{Inode}
use Rattle.su_node.specs.Digest.{inode_digest}
use Rattle.su_node.proofs.Maps.{insert_entry-last}
use Rattle.su_bytes.specs.Place.{place_cmp}
use Rattle.su_node.specs.InodeChange.{InodeChange}
use Rattle.su_table.specs.Edit.{Edit.Inodes, edit}
use Rattle.su_table.specs.Tree.{Tree}
use Rattle.su_table.specs.Handle.{user_table}
use Rattle.su_table.proofs.TableEdits.{find-pairs_of}
use Rattle.su_part.specs.declared.inodes.PartInode.{PartInode}
use Rattle.su_part.specs.declared.inodes.PartContent.{PartContent}
use Rattle.su_part.specs.declared.inodes.PartContent.TheVariants.{Bytes as PartBytes, Names as PartNames}
use Rattle.su_part.specs.declared.users.UserPart.{UserPart}
use Rattle.su_part.specs.Bytes.{number_sort}
use Rattle.su_part.specs.Part.{HasAll, HasAllIn, HasAllOf, HasAt, HasInode, HasNameIn, IfLoaded, IsAllIn, IsThere, MeantAt, StandsAt, StandsInode, StandsUser, at_number}
use Rattle.su_part.proofs.SeenLemmas.{found_loaded}
use Rattle.su_part.proofs.UserLemmas.{none_there, edit_there}

-- ---- a user who has no inode

nothing_found : {X : Type 0} (es : List (ℕ × X)) → ((n : ℕ) → find nat_cmp n es ≡ None) → es ≡ []
nothing_found [] none = refl
nothing_found (e ∷ es) none =
    let here : eq_by_cmp nat_cmp e.0 e.0 ≡ true = grind (arith, nat_tests) in
    absurd (let z : Some e.1 ≡ None = sym (ap (λ b. cond b (Some e.1) (find nat_cmp e.0 es)) here) ∙ none e.0 in cc)

found_digest : (u n : ℕ) (T : Tree) → find nat_cmp n (user_table T u) ≡ option_map inode_digest (get T.inodes (u, n))
unfolding user_table
found_digest u n T = find-pairs_of inode_digest u n (entries T.inodes) ∙ ap (option_map inode_digest) (sym (get-entries T.inodes (u, n)))

no_table : (u : ℕ) (T : Tree) → ((n : ℕ) → get T.inodes (u, n) ≡ None) → user_table T u ≡ []
no_table u T none = nothing_found (user_table T u) (λ n. found_digest u n T ∙ ap (option_map inode_digest) (none n))

pub bare_user : (u : ℕ) (T : Tree) (p : UserPart) → ((n : ℕ) → get T.inodes (u, n) ≡ None) → StandsFor number_sort p.table [] → p.inodes.entries ≡ [] → StandsUser u p T
bare_user u T p none stands empty = record {
  table = subst (StandsFor number_sort p.table) (sym (no_table u T none)) stands;
  meant = λ n. subst MeantAt (sym (none n)) tt;
  inodes = λ n. subst (λ es. StandsAt (at_number es n) (get T.inodes (u, n))) (sym empty) tt;
}

-- where all of an empty table is loaded, no tree has an inode
pub bare_inode : (p : UserPart) → HasTree p.table → StandsFor number_sort p.table [] → ((n : ℕ) → IsTrue (reaches number_bits n p.table)) → (n : ℕ) → HasInode n p
bare_inode p whole stands reached n = record { path = reached n; there = λ u T h some. absurd (some (nothing u T h)) }
  where
    nothing : (u : ℕ) (T : Tree) → StandsUser u p T → get T.inodes (u, n) ≡ None
    nothing u T h =
        let table : user_table T u ≡ [] = whole_is number_sort p.table.root (user_table T u) whole h.table ∙ sym (whole_is number_sort p.table.root [] whole stands) in
        none_there (get T.inodes (u, n)) (sym (ap (find nat_cmp n) table) ∙ found_digest u n T)

-- where the number's path is loaded, and what one tree has there, so is what each tree has
pub known_inode : (n : ℕ) (p : UserPart) → IsTrue (reaches number_bits n p.table) → (u : ℕ) (T : Tree) → StandsUser u p T → IsThere u T n p → HasInode n p
known_inode n p path u T h there = record { path = path; there = λ v S g some. there (λ none. some (none_there (get S.inodes (v, n)) (nothing v S g none))) }
  where
    found : (v : ℕ) (S : Tree) → StandsUser v p S → find nat_cmp n (loaded p.table) ≡ option_map inode_digest (get S.inodes (v, n))
    found v S g = found_loaded number_bits number_bytes is_u32 (λ d. d) is_digest nat_cmp nat_cmp-IsAntisymmetric number.ordered p.table (user_table S v) g.table n path ∙ found_digest v n S

    nothing : (v : ℕ) (S : Tree) → StandsUser v p S → get T.inodes (u, n) ≡ None → None ≡ option_map inode_digest (get S.inodes (v, n))
    nothing v S g none = sym (ap (option_map inode_digest) none) ∙ sym (found u T h) ∙ found v S g

-- the tree with nothing
nothing_at_all : Tree
nothing_at_all = record { inodes = empty; pointers = empty }

-- a part with one inode, of which all is loaded
pub one_inode : (p q : UserPart) (n : ℕ) (i : PartInode) (ch : InodeChange) (stands : (u : ℕ) (T : Tree) → ((m : ℕ) → get T.inodes (u, m) ≡ None) → StandsUser u q (edit T (Inodes (u, n) ch)))
    → ((m : ℕ) → IsTrue (reaches number_bits m q.table)) → p.inodes.entries ≡ []
    → ((m : ℕ) → at_number q.inodes.entries m ≡ cond (is_at (nat_cmp n) m) (Some i) (at_number p.inodes.entries m)) → IsAllIn i.content → (m : ℕ) → HasAt m (λ j. IsAllIn j.content) q
unfolding nothing_at_all
one_inode p q n i ch stands reached none updates all m = record {
  inode = known_inode m q (reached m) 0 (edit nothing_at_all (Inodes (0, n) ch)) (stands 0 nothing_at_all (λ k. get-empty place_cmp (0, k))) (λ some. subst IsSome (sym (updates m)) (there (is_at (nat_cmp n) m) refl some));
  part = subst (IfLoaded (λ j. IsAllIn j.content)) (sym (updates m)) (part (is_at (nat_cmp n) m));
}
  where
    beside : at_number p.inodes.entries m ≡ None
    beside = ap (λ es. at_number es m) none

    there : (b : Bool) → is_at (nat_cmp n) m ≡ b → get (edit nothing_at_all (Inodes (0, n) ch)).inodes (0, m) ≢ None → IsSome (cond b (Some i) (at_number p.inodes.entries m))
    there true e some = refl
    there false e some = absurd (some (edit_there nothing_at_all 0 n m ch e ∙ get-empty place_cmp (0, m)))

    part : (b : Bool) → IfLoaded (λ j. IsAllIn j.content) (cond b (Some i) (at_number p.inodes.entries m))
    part true = all
    part false = subst (IfLoaded (λ j. IsAllIn j.content)) (sym beside) tt

-- a name whose path is loaded is so where all is loaded that was
pub name_on : (x : Name) (p q : PartContent) → HasAllIn p q → HasNameIn x p → HasNameIn x q
name_on x (PartNames t) (PartNames v) all has = all x has
name_on x (PartNames t) (PartBytes c) all has = absurd all
name_on x (PartBytes b) (PartNames v) all has = absurd all
name_on x (PartBytes b) (PartBytes c) all has = tt

-- ---- copies

-- q stands for what p stands for, and has what p has
pub record IsCopy (p q : PartInode) : Type 0 where
  pub stands : (i : Inode) → StandsInode p i → StandsInode q i
  pub all : HasAllIn p.content q.content

pub AreCopies : List (ℕ × PartInode) → List (ℕ × PartInode) → Type 0
AreCopies [] [] = ⊤
AreCopies (e ∷ es) (f ∷ fs) = (e.0 ≡ f.0) × IsCopy e.1 f.1 × AreCopies es fs
AreCopies _ _ = ⊥

-- so far copied are the first of them
pub record CopiedSoFar (whole rest copies : List (ℕ × PartInode)) : Type 0 where
  pub first : List (ℕ × PartInode)
  pub is : first ++ rest ≡ whole
  pub copied : AreCopies first copies

pub none_copied : (whole rest copies : List (ℕ × PartInode)) → rest ≡ whole → copies ≡ [] → CopiedSoFar whole rest copies
unfolding AreCopies
none_copied whole rest copies is none = record { first = []; is = is; copied = subst (AreCopies []) (sym none) tt }

one_more : (es fs : List (ℕ × PartInode)) (n : ℕ) (p q : PartInode) → AreCopies es fs → IsCopy p q → AreCopies (es ++ (n, p) ∷ []) (fs ++ (n, q) ∷ [])
unfolding AreCopies
one_more [] [] n p q a c = (refl, c, tt)
one_more [] (f ∷ fs) n p q a c = absurd a
one_more (e ∷ es) [] n p q a c = absurd a
one_more (e ∷ es) (f ∷ fs) n p q a c = (a.0, a.1, one_more es fs n p q a.2 c)

same_keys : (es fs rest : List (ℕ × PartInode)) (n : ℕ) (p q : PartInode) → AreCopies es fs → keys_of (es ++ (n, p) ∷ rest) ≡ keys_of (fs ++ (n, q) ∷ rest)
unfolding AreCopies
same_keys [] [] rest n p q a = refl
same_keys [] (f ∷ fs) rest n p q a = absurd a
same_keys (e ∷ es) [] rest n p q a = absurd a
same_keys (e ∷ es) (f ∷ fs) rest n p q a = λ i. a.0 i ∷ same_keys es fs rest n p q a.2 i

append_one : {X : Type 0} (es rest : List X) (e : X) → (es ++ e ∷ []) ++ rest ≡ es ++ e ∷ rest
append_one [] rest e = refl
append_one (x ∷ es) rest e = ap (λ t. x ∷ t) (append_one es rest e)

copied_one : (whole copies later rest : List (ℕ × PartInode)) (n : ℕ) (p q : PartInode) → IsStrictlySortedBy nat_cmp (keys_of whole) → CopiedSoFar whole ((n, p) ∷ rest) copies
    → later ≡ insert_entry nat_cmp copies n q → IsCopy p q → CopiedSoFar whole rest later
copied_one whole copies later rest n p q sorted so_far next copy = record {
  first = so_far.first ++ (n, p) ∷ [];
  is = append_one so_far.first rest (n, p) ∙ so_far.is;
  copied = subst (AreCopies (so_far.first ++ (n, p) ∷ [])) (sym (next ∙ insert_entry-last nat_cmp_total copies rest n q
      (subst (IsStrictlySortedBy nat_cmp) (ap keys_of (sym so_far.is) ∙ same_keys so_far.first copies rest n p q so_far.copied) sorted))) (one_more so_far.first copies n p q so_far.copied copy);
}

pub copied_next : (whole copies later left rest : List (ℕ × PartInode)) (n : ℕ) (p q : PartInode) → IsStrictlySortedBy nat_cmp (keys_of whole) → left ≡ (n, p) ∷ rest → CopiedSoFar whole left copies
    → later ≡ insert_entry nat_cmp copies n q → ((i : Inode) → StandsInode p i → StandsInode q i) → HasAllIn p.content q.content → CopiedSoFar whole rest later
copied_next whole copies later left rest n p q sorted steps so_far next stands all =
    copied_one whole copies later rest n p q sorted (subst (λ l. CopiedSoFar whole l copies) steps so_far) next (record { stands = stands; all = all })

append_none : {X : Type 0} (es : List X) → es ++ [] ≡ es
append_none [] = refl
append_none (e ∷ es) = ap (λ t. e ∷ t) (append_none es)

pub all_copied : (whole rest copies : List (ℕ × PartInode)) → rest ≡ [] → CopiedSoFar whole rest copies → AreCopies whole copies
all_copied whole rest copies none so_far = subst (λ es. AreCopies es copies) (sym (append_none so_far.first) ∙ sym (ap (λ r. so_far.first ++ r) none) ∙ so_far.is) so_far.copied

IsCopyAt : Option PartInode → Option PartInode → Type 0
IsCopyAt None None = ⊤
IsCopyAt (Some p) (Some q) = IsCopy p q
IsCopyAt _ _ = ⊥

copies_at : (es fs : List (ℕ × PartInode)) → AreCopies es fs → (n : ℕ) → IsCopyAt (at_number es n) (at_number fs n)
unfolding AreCopies IsCopyAt
copies_at [] [] a n = tt
copies_at [] (f ∷ fs) a n = absurd a
copies_at (e ∷ es) [] a n = absurd a
copies_at (e ∷ es) (f ∷ fs) a n = subst (λ k. IsCopyAt (at_number (e ∷ es) n) (cond (is_at (nat_cmp n) k) (Some f.1) (at_number fs n))) a.0 (go (is_at (nat_cmp n) e.0) (copies_at es fs a.2 n))
  where
    go : (b : Bool) → IsCopyAt (at_number es n) (at_number fs n) → IsCopyAt (cond b (Some e.1) (at_number es n)) (cond b (Some f.1) (at_number fs n))
    go true later = a.1
    go false later = later

module _ (p q : UserPart) (copies : AreCopies p.inodes.entries q.inodes.entries) where
  pub copied_user : (u : ℕ) (T : Tree) → StandsUser u p T → ((m : List (ℕ × List ℕ)) → StandsFor number_sort p.table m → StandsFor number_sort q.table m) → StandsUser u q T
  unfolding IsCopyAt
  copied_user u T h table = record {
    table = table (user_table T u) h.table;
    meant = h.meant;
    inodes = λ n. go (at_number p.inodes.entries n) (at_number q.inodes.entries n) (get T.inodes (u, n)) (copies_at _ _ copies n) (h.inodes n);
  }
    where
      go : (a b : Option PartInode) (o : Option Inode) → IsCopyAt a b → StandsAt a o → StandsAt b o
      go None None o c s = s
      go None (Some j) o c s = absurd c
      go (Some i) None o c s = absurd c
      go (Some i) (Some j) None c s = absurd s
      go (Some i) (Some j) (Some k) c s = c.stands k s

  pub copied_all : ((n : ℕ) → reaches number_bits n q.table ≡ reaches number_bits n p.table) → HasAll p q
  unfolding IsCopyAt
  copied_all reached = record {
    paths = λ n h. subst IsTrue (sym (reached n)) h;
    inodes = λ n. go (at_number p.inodes.entries n) (at_number q.inodes.entries n) (copies_at _ _ copies n);
  }
    where
      go : (a b : Option PartInode) → IsCopyAt a b → HasAllOf a b
      go None b c = tt
      go (Some i) None c = absurd c
      go (Some i) (Some j) c = c.all
