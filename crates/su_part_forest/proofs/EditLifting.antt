-- An edit of one user's or one group's part is one of the forest.
use Rattle.std.proofs.Common.{◌≡◌, ◌∙◌, ◌<◌, ◌≤◌, ◌^◌, ℕ, Bool, true, false, cond, length, nat_eq, Option, Some, None, refl, sym, ap, subst, inl, inr, slice_index_or, arith}
use Rattle.std.specs.Prelude.{IfSome, OnErr, Ok, Err, Result, slice_get, slice_set}
use Rattle.std.specs.FinMap.{get}
use Rattle.std.specs.Vec.{with_item}
use Rattle.std.specs.Option.{option_map}
use Rattle.su_node.specs.Digest.{inode_digest}
use Rattle.su_table.specs.Table.{with_pair}
use Rattle.std.proofs.lemmas.Bool.{eqb-true, eqb-false}
use Rattle.su_bytes.specs.Principal.{is_user, is_group}
use Rattle.su_bytes.specs.Place.{Place}
use Rattle.su_node.specs.InodeChange.{InodeChange, inode_after}
use Rattle.su_node.proofs.Public.{get-set_key}
use Rattle.su_table.specs.Edit.{Edit.Inodes, Edit.Pointers, edit}
use Rattle.su_table.specs.Handle.{user_table, group_table}
use Rattle.su_node.specs.Field.{Field.KindOf, field_value}
use Rattle.su_table.specs.Cell.{val}
use Rattle.su_table.specs.Query.{is_free_at, is_nothing}
use Rattle.su_table.specs.Tree.{Tree}
use Rattle.su_table.proofs.Public.{place_cmp_total}
use Rattle.su_table.proofs.TableEdits.{edits_change_one_table}
use Rattle.su_part_tree.specs.Part.{StandsFor}
use Rattle.su_node.specs.Inode.{Content}
use Rattle.su_part.specs.Bytes.{number_sort}
use Rattle.su_part.specs.Known.{Want.AnInode, Want.AName, Want.ABlock, Want as PartWant, Knows as KnowsOf, KnowsInode, KnowsNameIn, KnowsBlockIn, OfLoaded, StaysKnown as StaysKnownOf}
use Rattle.su_part.specs.Left.{KnowsPath, KnowsPathIn, StaysKnownBut as StaysKnownButOf}
use Rattle.su_part.specs.Part.{HasAll, MeantAt, StandsAt, StandsUser, StaysLoaded, at_number}
use Rattle.su_part.specs.declared.inodes.PartContent.{PartContent}
use Rattle.su_part.specs.declared.users.UserPart.{UserPart}
use Rattle.su_group_part.specs.Part.{KnowsPointer, StandsGroup, place_sort}
use Rattle.su_group_part.specs.declared.groups.GroupPart.{GroupPart}
use Rattle.su_part_forest.specs.Forest.{IsPart, Stands, user_part, group_part}
use Rattle.su_part_forest.specs.Known.{IsBeside, IsNoneOf, Knows, KnowsPathAt, Want, Want.OfUser, Want.OfGroup, StaysKnown, StaysKnownBeside, StaysKnownBut}
use Rattle.su_part_forest.specs.Loading.{IsKept, KeepsBeside, KeepsLoaded, KeepsPointers}
use Rattle.su_part_forest.specs.declared.forests.PartForest.{PartForest}
use Rattle.su_part_forest.proofs.Asked.{part_is, part_got, no_part}
use Rattle.su_part_forest.proofs.Lifting.{get_same, get_other, kept_all, user_stands, user_keeps, group_stands, group_keeps}
use Rattle.su_part_forest.proofs.Seeing.{other_principal}

turned : (u v : ℕ) → ¬ (v ≡ u) → nat_eq u v ≡ false
turned u v other = go (nat_eq u v) refl
  where
    go : (b : Bool) → nat_eq u v ≡ b → nat_eq u v ≡ false
    go false e = e
    go true e = absurd (other (sym (eqb-true u v e)))

-- a part that is there has a principal
is_there : {X : Type 0} (P : X → Type 0) (b : Bool) (o : Option X) (x : X) → o ≡ Some x → IsPart P b o → b ≡ true
is_there P true o x e h = refl
is_there P false o x e h = absurd (let z : None ≡ Some x = sym h ∙ e in cc)

-- what a part that is there has
pub of_part : {X : Type 0} (P : X → Type 0) (o : Option X) (x : X) → o ≡ Some x → IfSome o P → P x
of_part P o x is h = subst (λ y. IfSome y P) is h

-- ---- an edit of an inode of user u

module _ (T : Tree) (u n : ℕ) (ch : InodeChange) where
  -- leaves what other users have
  inode_beside : (v m : ℕ) → ¬ (v ≡ u) → get (edit T (Inodes (u, n) ch)).inodes (v, m) ≡ get T.inodes (v, m)
  unfolding edit
  inode_beside v m other =
      get-set_key place_cmp_total T.inodes (u, n) (inode_after ch (get T.inodes (u, n))) (v, m)
      ∙ ap (λ b. cond b (inode_after ch (get T.inodes (u, n))) (get T.inodes (v, m))) (other_principal v u m n other)

  table_beside : (v : ℕ) → ¬ (v ≡ u) → user_table (edit T (Inodes (u, n) ch)) v ≡ user_table T v
  table_beside v other = edits_change_one_table.of_user T (u, n) ch v ∙ ap (λ b. cond b (with_pair n (option_map inode_digest (inode_after ch (get T.inodes (u, n)))) (user_table T v)) (user_table T v)) (turned u v other)

  user_beside : (v : ℕ) (x : UserPart) → ¬ (v ≡ u) → StandsUser v x T → StandsUser v x (edit T (Inodes (u, n) ch))
  user_beside v x other h = record {
    table = subst (StandsFor number_sort x.table) (sym (table_beside v other)) h.table;
    meant = λ m. subst MeantAt (sym (inode_beside v m other)) (h.meant m);
    inodes = λ m. subst (StandsAt (at_number x.inodes.entries m)) (sym (inode_beside v m other)) (h.inodes m);
  }

  -- leaves what groups have
  pointers_same : (k m : ℕ) → get (edit T (Inodes (u, n) ch)).pointers (k, m) ≡ get T.pointers (k, m)
  unfolding edit
  pointers_same k m = refl

  group_same : (k : ℕ) (x : GroupPart) → StandsGroup k x T → StandsGroup k x (edit T (Inodes (u, n) ch))
  group_same k x h = subst (StandsFor place_sort x.table) (sym (edits_change_one_table.no_group T (u, n) ch k)) h

  -- and what is known of other users
  part_beside : (P : PartContent → Content → Type 0) (v m : ℕ) (x : UserPart) → ¬ (v ≡ u) → OfLoaded P (at_number x.inodes.entries m) (get T.inodes (v, m))
      → OfLoaded P (at_number x.inodes.entries m) (get (edit T (Inodes (u, n) ch)).inodes (v, m))
  part_beside P v m x other h = subst (OfLoaded P (at_number x.inodes.entries m)) (sym (inode_beside v m other)) h

  known_inode_beside : (v m : ℕ) (x : UserPart) → ¬ (v ≡ u) → KnowsInode v T m x → KnowsInode v (edit T (Inodes (u, n) ch)) m x
  known_inode_beside v m x other h = record {
    number = h.number;
    path = elim h.path [ inl r ↦ inl r | inr none ↦ inr (inode_beside v m other ∙ none) ];
    there = λ some. h.there (λ none. some (inode_beside v m other ∙ none));
  }

  known_beside : (v : ℕ) (w : PartWant) (x : UserPart) → ¬ (v ≡ u) → KnowsOf v T w x → KnowsOf v (edit T (Inodes (u, n) ch)) w x
  known_beside v (AnInode m) x other h = known_inode_beside v m x other h
  known_beside v (AName m y) x other h = record { name = h.name; inode = known_inode_beside v m x other h.inode; part = part_beside (KnowsNameIn y) v m x other h.part }
  known_beside v (ABlock m k) x other h = record { inode = known_inode_beside v m x other h.inode; part = part_beside (KnowsBlockIn k) v m x other h.part }

  path_beside : (v m k : ℕ) (x : UserPart) → ¬ (v ≡ u) → KnowsPath v T m k x → KnowsPath v (edit T (Inodes (u, n) ch)) m k x
  path_beside v m k x other h = record { inode = known_inode_beside v m x other h.inode; part = part_beside (KnowsPathIn k) v m x other h.part }

-- ---- a user's part was got by its number, and what is written through it stands there then

-- the forest with another part at a number
abbrev pub with_user : PartForest → ℕ → UserPart → PartForest
with_user f m q = record { users = with_item f.users m q; groups = f.groups; alloc = f.alloc }

abbrev pub with_group : PartForest → ℕ → GroupPart → PartForest
with_group f m q = record { users = f.users; groups = with_item f.groups m q; alloc = f.alloc }

-- m is where the part was got, u the principal's number
module _ (f : PartForest) (m u : ℕ) (p : UserPart) (within : m < length f.users.items) (is : p ≡ slice_index_or f.users.items m p) (same : m ≡ u) where
  got : user_part u f ≡ Some p
  got = subst (λ v. user_part v f ≡ Some p) same (sym (part_got f.users.items m p within is))

  pub user_part_stands : (T : Tree) → Stands f T → StandsUser u p T
  user_part_stands T h = part_is (λ x. StandsUser u x T) (is_user u) (user_part u f) p (sym got) (h.users u)

  pub of_user_part : (P : UserPart → Type 0) → IfSome (user_part u f) P → P p
  of_user_part P h = of_part P (user_part u f) p got h

  module _ (q : UserPart) where
    pub user_kept : HasAll p q → KeepsLoaded f (with_user f m q)
    user_kept keeps = user_keeps f (with_user f m q) u p q got (ap (λ v. slice_set f.users.items v q) same) refl keeps

    -- but for the content of what stands at a number
    pub user_kept_beside : (n : ℕ) → StaysLoaded n p q → KeepsBeside (u, n) f (with_user f m q)
    user_kept_beside n stays = record {
      here = subst (λ i. IsKept (StaysLoaded n) (user_part u f) (slice_get (slice_set f.users.items i q) u)) (sym same)
          (subst (λ o. IsKept (StaysLoaded n) o (slice_get (slice_set f.users.items u q) u)) (sym got) (subst (IsKept (StaysLoaded n) (Some p)) (sym (get_same f.users.items u q p got)) stays));
      others = λ v other. subst (λ i. slice_get (slice_set f.users.items i q) v ≡ slice_get f.users.items v) (sym same) (get_other f.users.items u v q other);
      groups = λ k. refl;
    }

    -- it stands for the same
    pub user_stays : (T : Tree) → Stands f T → StandsUser u q T → Stands (with_user f m q) T
    user_stays T h this = user_stands f (with_user f m q) u p q got (ap (λ v. slice_set f.users.items v q) same) refl T T h (λ v x other s. s) (λ s. this) (λ k x s. s) h.no_user h.no_group

    module _ (T : Tree) (n : ℕ) (ch : InodeChange) (h : Stands f T) where
      pub user_edited : StandsUser u q (edit T (Inodes (u, n) ch)) → Stands (with_user f m q) (edit T (Inodes (u, n) ch))
      user_edited this =
          user_stands f (with_user f m q) u p q got (ap (λ v. slice_set f.users.items v q) same) refl T (edit T (Inodes (u, n) ch)) h (user_beside T u n ch) (λ s. this) (group_same T u n ch) no_user
          (λ k i none. pointers_same T u n ch k i ∙ h.no_group k i none)
        where
          no_user : (v i : ℕ) → is_user v ≡ false → get (edit T (Inodes (u, n) ch)).inodes (v, i) ≡ None
          no_user v i none = inode_beside T u n ch v i (λ e.
              let is : is_user u ≡ true = is_there (λ x. StandsUser u x T) (is_user u) (user_part u f) p got (h.users u) in
              let z : false ≡ true = sym none ∙ ap is_user e ∙ is in cc) ∙ h.no_user v i none

      -- what is known of one thing, by what is known of it of the user's part
      pub want_known : (w : Want) → ((want : PartWant) → w ≡ OfUser u want → KnowsOf u T want p → KnowsOf u (edit T (Inodes (u, n) ch)) want q) → Knows T w f → Knows (edit T (Inodes (u, n) ch)) w (with_user f m q)
      want_known (OfGroup k) this w = go (group_part k.0 f) w
        where
          go : (o : Option GroupPart) → IfSome o (KnowsPointer k.0 T k.1) → IfSome o (KnowsPointer k.0 (edit T (Inodes (u, n) ch)) k.1)
          go None w = tt
          go (Some x) (inl r) = inl r
          go (Some x) (inr none) = inr (pointers_same T u n ch k.0 k.1 ∙ none)
      want_known (OfUser v want) this w = subst (λ i. IfSome (slice_get (slice_set f.users.items i q) v) (KnowsOf v (edit T (Inodes (u, n) ch)) want)) (sym same) (go (nat_eq v u) refl)
        where
          other : (o : Option UserPart) → ¬ (v ≡ u) → IfSome o (KnowsOf v T want) → IfSome o (KnowsOf v (edit T (Inodes (u, n) ch)) want)
          other None e w = tt
          other (Some x) e w = known_beside T u n ch v want x e w

          here : v ≡ u → IfSome (slice_get (slice_set f.users.items u q) v) (KnowsOf v (edit T (Inodes (u, n) ch)) want)
          here e = subst (λ i. IfSome (slice_get (slice_set f.users.items u q) i) (KnowsOf i (edit T (Inodes (u, n) ch)) want)) (sym e)
              (subst (λ o. IfSome o (KnowsOf u (edit T (Inodes (u, n) ch)) want)) (sym (get_same f.users.items u q p got))
              (this want (ap (λ i. OfUser i want) e) (of_part (KnowsOf u T want) (user_part u f) p got (subst (λ i. IfSome (user_part i f) (KnowsOf i T want)) e w))))

          go : (c : Bool) → nat_eq v u ≡ c → IfSome (slice_get (slice_set f.users.items u q) v) (KnowsOf v (edit T (Inodes (u, n) ch)) want)
          go false e = subst (λ o. IfSome o (KnowsOf v (edit T (Inodes (u, n) ch)) want)) (sym (get_other f.users.items u v q (eqb-false v u e))) (other (slice_get f.users.items v) (eqb-false v u e) w)
          go true e = here (eqb-true v u e)

      pub user_known : StaysKnownOf u T (edit T (Inodes (u, n) ch)) p q → StaysKnown T (edit T (Inodes (u, n) ch)) f (with_user f m q)
      user_known this w = want_known w (λ want e. this want)

      -- but for names and blocks of what stood there
      pub user_known_beside : ((want : PartWant) → IsBeside (u, n) (OfUser u want) → KnowsOf u T want p → KnowsOf u (edit T (Inodes (u, n) ch)) want q) → StaysKnownBeside (u, n) T (edit T (Inodes (u, n) ch)) f (with_user f m q)
      user_known_beside this w beside = want_known w (λ want e. this want (subst (IsBeside (u, n)) e beside))

      -- the path of a block
      path_known : ((i k : ℕ) → KnowsPath u T i k p → KnowsPath u (edit T (Inodes (u, n) ch)) i k q) → (r : Place) (k : ℕ) → KnowsPathAt T r k f → KnowsPathAt (edit T (Inodes (u, n) ch)) r k (with_user f m q)
      path_known this r k w = subst (λ i. IfSome (slice_get (slice_set f.users.items i q) r.0) (KnowsPath r.0 (edit T (Inodes (u, n) ch)) r.1 k)) (sym same) (go (nat_eq r.0 u) refl)
        where
          other : (o : Option UserPart) → ¬ (r.0 ≡ u) → IfSome o (KnowsPath r.0 T r.1 k) → IfSome o (KnowsPath r.0 (edit T (Inodes (u, n) ch)) r.1 k)
          other None e w = tt
          other (Some x) e w = path_beside T u n ch r.0 r.1 k x e w

          here : r.0 ≡ u → IfSome (slice_get (slice_set f.users.items u q) r.0) (KnowsPath r.0 (edit T (Inodes (u, n) ch)) r.1 k)
          here e = subst (λ i. IfSome (slice_get (slice_set f.users.items u q) i) (KnowsPath i (edit T (Inodes (u, n) ch)) r.1 k)) (sym e)
              (subst (λ o. IfSome o (KnowsPath u (edit T (Inodes (u, n) ch)) r.1 k)) (sym (get_same f.users.items u q p got))
              (this r.1 k (of_part (KnowsPath u T r.1 k) (user_part u f) p got (subst (λ i. IfSome (user_part i f) (KnowsPath i T r.1 k)) e w))))

          go : (c : Bool) → nat_eq r.0 u ≡ c → IfSome (slice_get (slice_set f.users.items u q) r.0) (KnowsPath r.0 (edit T (Inodes (u, n) ch)) r.1 k)
          go false e = subst (λ o. IfSome o (KnowsPath r.0 (edit T (Inodes (u, n) ch)) r.1 k)) (sym (get_other f.users.items u r.0 q (eqb-false r.0 u e))) (other (slice_get f.users.items r.0) (eqb-false r.0 u e) w)
          go true e = here (eqb-true r.0 u e)

      -- but for some blocks of what stood there
      pub user_known_but : (first end_ : ℕ) → StaysKnownButOf u n first end_ T (edit T (Inodes (u, n) ch)) p q → StaysKnownBut (u, n) first end_ T (edit T (Inodes (u, n) ch)) f (with_user f m q)
      user_known_but first end_ this = record {
        known = λ w none. want_known w (λ want e. this.known want (subst (IsNoneOf (u, n) first end_) e none refl));
        paths = path_known this.paths;
      }

    -- what the user's part has
    pub user_has : (P : UserPart → Type 0) → P q → IfSome (user_part u (with_user f m q)) P
    user_has P h = subst (λ i. IfSome (slice_get (slice_set f.users.items i q) u) P) (sym same) (subst (λ o. IfSome o P) (sym (get_same f.users.items u q p got)) h)

-- where nothing is done
pub kept_beside_itself : (f : PartForest) (p : Place) → KeepsBeside p f f
kept_beside_itself f p = record { here = kept_all (StaysLoaded p.1) (λ x. record { paths = λ m r. r; there = λ m some. some; others = λ m e. refl }) (user_part p.0 f); others = λ v other. refl; groups = λ k. refl }

-- a user that can be has a part
pub user_absent : {A : Type 0} (f : PartForest) (m u : ℕ) → length f.users.items ≤ m → m ≡ u → u ≤ 63 → (T : Tree) → Stands f T → A
user_absent f m u past same small T h = absurd (go (is_user u) refl (user_part u f) (subst (λ v. None ≡ user_part v f) same (no_part f.users.items m past)) (h.users u))
  where
    can_be : is_user u ≡ true
    can_be = grind arith

    go : (b : Bool) → is_user u ≡ b → (o : Option UserPart) → None ≡ o → IsPart (λ x. StandsUser u x T) b o → ⊥
    go true e None none h = h
    go true e (Some x) none h = absurd cc
    go false e o none h = let z : false ≡ true = sym e ∙ can_be in absurd cc

pub on_err : {A E : Type 0} {P Q : Type 0} (r : Result A E) → (P → Q) → OnErr r P → OnErr r Q
on_err (Ok x) f h = h
on_err (Err e) f h = f h

-- ---- an edit of a pointer of group k

module _ (T : Tree) (k n : ℕ) (o : Option Place) where
  -- leaves what other groups have
  pointer_beside : (j m : ℕ) → ¬ (j ≡ k) → get (edit T (Pointers (k, n) o)).pointers (j, m) ≡ get T.pointers (j, m)
  unfolding edit
  pointer_beside j m other = get-set_key place_cmp_total T.pointers (k, n) o (j, m) ∙ ap (λ b. cond b o (get T.pointers (j, m))) (other_principal j k m n other)

  group_beside : (j : ℕ) (x : GroupPart) → ¬ (j ≡ k) → StandsGroup j x T → StandsGroup j x (edit T (Pointers (k, n) o))
  group_beside j x other h =
      subst (StandsFor place_sort x.table) (sym (edits_change_one_table.of_group T (k, n) o j ∙ ap (λ b. cond b (with_pair n o (group_table T j)) (group_table T j)) (turned k j other))) h

  -- and what users have
  inodes_same : (u m : ℕ) → get (edit T (Pointers (k, n) o)).inodes (u, m) ≡ get T.inodes (u, m)
  unfolding edit
  inodes_same u m = refl

  user_same : (u : ℕ) (x : UserPart) → StandsUser u x T → StandsUser u x (edit T (Pointers (k, n) o))
  user_same u x h = record {
    table = subst (StandsFor number_sort x.table) (sym (edits_change_one_table.no_user T (k, n) o u)) h.table;
    meant = λ m. subst MeantAt (sym (inodes_same u m)) (h.meant m);
    inodes = λ m. subst (StandsAt (at_number x.inodes.entries m)) (sym (inodes_same u m)) (h.inodes m);
  }

  -- and what is known of both
  known_user_same : (u : ℕ) (w : PartWant) (x : UserPart) → KnowsOf u T w x → KnowsOf u (edit T (Pointers (k, n) o)) w x
  unfolding edit
  known_user_same u (AnInode m) x h = record { number = h.number; path = h.path; there = h.there }
  known_user_same u (AName m y) x h = record { name = h.name; inode = record { number = h.inode.number; path = h.inode.path; there = h.inode.there }; part = h.part }
  known_user_same u (ABlock m i) x h = record { inode = record { number = h.inode.number; path = h.inode.path; there = h.inode.there }; part = h.part }

  known_group_beside : (j m : ℕ) (x : GroupPart) → ¬ (j ≡ k) → KnowsPointer j T m x → KnowsPointer j (edit T (Pointers (k, n) o)) m x
  known_group_beside j m x other (inl r) = inl r
  known_group_beside j m x other (inr none) = inr (pointer_beside j m other ∙ none)

module _ (f : PartForest) (m k : ℕ) (p : GroupPart) (within : m < length f.groups.items) (is : p ≡ slice_index_or f.groups.items m p) (same : m ≡ k) where
  got_group : group_part k f ≡ Some p
  got_group = subst (λ v. group_part v f ≡ Some p) same (sym (part_got f.groups.items m p within is))

  pub group_part_stands : (T : Tree) → Stands f T → StandsGroup k p T
  group_part_stands T h = part_is (λ x. StandsGroup k x T) (is_group k) (group_part k f) p (sym got_group) (h.groups k)

  pub of_group_part : (P : GroupPart → Type 0) → IfSome (group_part k f) P → P p
  of_group_part P h = of_part P (group_part k f) p got_group h

  module _ (q : GroupPart) where
    pub group_kept : KeepsPointers p q → KeepsLoaded f (with_group f m q)
    group_kept keeps = group_keeps f (with_group f m q) k p q got_group (ap (λ v. slice_set f.groups.items v q) same) refl keeps

    pub group_stays : (T : Tree) → Stands f T → StandsGroup k q T → Stands (with_group f m q) T
    group_stays T h this = group_stands f (with_group f m q) k p q got_group (ap (λ v. slice_set f.groups.items v q) same) refl T T h (λ v x other s. s) (λ s. this) (λ u x s. s) h.no_user h.no_group

    pub group_edited : (T : Tree) (n : ℕ) (o : Option Place) → Stands f T → StandsGroup k q (edit T (Pointers (k, n) o)) → Stands (with_group f m q) (edit T (Pointers (k, n) o))
    group_edited T n o h this =
        group_stands f (with_group f m q) k p q got_group (ap (λ v. slice_set f.groups.items v q) same) refl T (edit T (Pointers (k, n) o)) h (group_beside T k n o) (λ s. this) (user_same T k n o)
        (λ u i none. inodes_same T k n o u i ∙ h.no_user u i none) no_group
      where
        no_group : (j i : ℕ) → is_group j ≡ false → get (edit T (Pointers (k, n) o)).pointers (j, i) ≡ None
        no_group j i none = pointer_beside T k n o j i (λ e.
            let is : is_group k ≡ true = is_there (λ x. StandsGroup k x T) (is_group k) (group_part k f) p got_group (h.groups k) in
            let z : false ≡ true = sym none ∙ ap is_group e ∙ is in cc) ∙ h.no_group j i none

    pub group_known : (T : Tree) (n : ℕ) (o : Option Place) → ((i : ℕ) → KnowsPointer k T i p → KnowsPointer k (edit T (Pointers (k, n) o)) i q)
        → StaysKnown T (edit T (Pointers (k, n) o)) f (with_group f m q)
    group_known T n o this (OfUser v want) w = go (user_part v f) w
      where
        go : (x : Option UserPart) → IfSome x (KnowsOf v T want) → IfSome x (KnowsOf v (edit T (Pointers (k, n) o)) want)
        go None w = tt
        go (Some x) w = known_user_same T k n o v want x w
    group_known T n o this (OfGroup j) w = subst (λ i. IfSome (slice_get (slice_set f.groups.items i q) j.0) (KnowsPointer j.0 (edit T (Pointers (k, n) o)) j.1)) (sym same) (go (nat_eq j.0 k) refl)
      where
        other : (x : Option GroupPart) → ¬ (j.0 ≡ k) → IfSome x (KnowsPointer j.0 T j.1) → IfSome x (KnowsPointer j.0 (edit T (Pointers (k, n) o)) j.1)
        other None e w = tt
        other (Some x) e w = known_group_beside T k n o j.0 j.1 x e w

        here : j.0 ≡ k → IfSome (slice_get (slice_set f.groups.items k q) j.0) (KnowsPointer j.0 (edit T (Pointers (k, n) o)) j.1)
        here e = subst (λ i. IfSome (slice_get (slice_set f.groups.items k q) i) (KnowsPointer i (edit T (Pointers (k, n) o)) j.1)) (sym e)
            (subst (λ x. IfSome x (KnowsPointer k (edit T (Pointers (k, n) o)) j.1)) (sym (get_same f.groups.items k q p got_group))
            (this j.1 (of_part (KnowsPointer k T j.1) (group_part k f) p got_group (subst (λ i. IfSome (group_part i f) (KnowsPointer i T j.1)) e w))))

        go : (b : Bool) → nat_eq j.0 k ≡ b → IfSome (slice_get (slice_set f.groups.items k q) j.0) (KnowsPointer j.0 (edit T (Pointers (k, n) o)) j.1)
        go false e = subst (λ x. IfSome x (KnowsPointer j.0 (edit T (Pointers (k, n) o)) j.1)) (sym (get_other f.groups.items k j.0 q (eqb-false j.0 k e))) (other (slice_get f.groups.items j.0) (eqb-false j.0 k e) w)
        go true e = here (eqb-true j.0 k e)

    -- what the group's part has
    pub group_has : (P : GroupPart → Type 0) → P q → IfSome (group_part k (with_group f m q)) P
    group_has P h = subst (λ i. IfSome (slice_get (slice_set f.groups.items i q) k) P) (sym same) (subst (λ o. IfSome o P) (sym (get_same f.groups.items k q p got_group)) h)

-- a group that can be has a part
pub group_absent : {A : Type 0} (f : PartForest) (m k : ℕ) → length f.groups.items ≤ m → m ≡ k → k ≤ 15 → (T : Tree) → Stands f T → A
group_absent f m k past same small T h = absurd (go (is_group k) refl (group_part k f) (subst (λ v. None ≡ group_part v f) same (no_part f.groups.items m past)) (h.groups k))
  where
    can_be : is_group k ≡ true
    can_be = grind arith

    go : (b : Bool) → is_group k ≡ b → (o : Option GroupPart) → None ≡ o → IsPart (λ x. StandsGroup k x T) b o → ⊥
    go true e None none h = h
    go true e (Some x) none h = absurd cc
    go false e o none h = let z : false ≡ true = sym e ∙ can_be in absurd cc

-- ---- what the edits of the parts ask for, and tell

pub small_inum : (i n : ℕ) → i ≤ 1000000 → i ≡ n → n < 2 ^ 32
small_inum i n le same = omega (arith, le, same)

pub free_at : (T : Tree) (p : Place) → get T.inodes p ≡ None → is_free_at T p ≡ true
unfolding val
free_at T p none = ap (λ o. is_nothing (field_value o KindOf)) none
