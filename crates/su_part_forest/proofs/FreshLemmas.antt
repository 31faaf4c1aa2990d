-- The forest before the first operation.
use Rattle.std.proofs.Common.{◌≡◌, ◌∙◌, ◌+◌, ◌<◌, ◌≤◌, ℕ, Bool, true, false, cond, zero, suc, List, [], ◌∷◌, ◌++◌, length, nat_le, Option, Some, None, refl, sym, ap, subst, arith, length-append}
use Rattle.std.specs.Prelude.{slice_get, IfSome}
use Rattle.std.specs.FinMap.{FinMap, get, insert, empty, get-empty, get-insert}
use Rattle.std.proofs.lemmas.Bool.Decides.{nat_tests}
use Rattle.su_bytes.specs.Place.{Place, place_cmp}
use Rattle.su_bytes.specs.Principal.{is_user, is_group}
use Rattle.su_bytes.specs.declared.file_ids.FileId.TheVariants.{Group}
use Rattle.su_bytes.specs.declared.file_ids.Kind.TheVariants.{Dir}
use Rattle.su_node.specs.Name.{Name}
use Rattle.su_node.specs.Inode.{Inode, new_inode}
use Rattle.su_node.specs.InodeChange.{InodeChange.Made}
use Rattle.su_table.specs.Edit.{Edit.Inodes, Edit.Pointers, edit}
use Rattle.su_table.specs.Tree.{Tree, genesis}
use Rattle.su_table.proofs.Public.{place_cmp_total}
use Rattle.su_part.specs.declared.inodes.PartInode.{PartInode}
use Rattle.su_part.specs.declared.inodes.PartContent.{PartContent}
use Rattle.su_part.specs.declared.inodes.PartContent.TheVariants.{Bytes as PartBytes, Names as PartNames}
use Rattle.su_part.specs.declared.users.UserPart.{UserPart}
use Rattle.su_part.specs.Part.{HasAt, HasInode, HasName, HasNameIn, IfLoaded, IsAllIn, StandsAt, StandsUser, at_number}
use Rattle.su_group_part.specs.declared.groups.GroupPart.{GroupPart}
use Rattle.su_group_part.specs.Part.{StandsGroup, HasPointer}
use Rattle.su_part_forest.specs.Forest.{IsPart}
use Rattle.su_part_forest.proofs.Seeing.{other_principal}

-- ---- the trees on the way

before_root : Tree
before_root = record { inodes = empty; pointers = insert empty (0, 1) (0, 1) }

before_pointer : Tree
before_pointer = record { inodes = insert empty (0, 1) (new_inode (Group 0 1) Dir); pointers = empty }

root_made : edit before_root (Inodes (0, 1) (Made (Group 0 1) Dir)) ≡ genesis
unfolding edit genesis before_root
root_made = refl

pointer_made : edit before_pointer (Pointers (0, 1) (Some (0, 1))) ≡ genesis
unfolding edit genesis before_pointer
pointer_made = refl

pub root_user : (p : UserPart) → ((u : ℕ) (T : Tree) → ((n : ℕ) → get T.inodes (u, n) ≡ None) → StandsUser u p (edit T (Inodes (u, 1) (Made (Group 0 1) Dir)))) → StandsUser 0 p genesis
unfolding before_root
root_user p stands = subst (StandsUser 0 p) root_made (stands 0 before_root (λ n. get-empty place_cmp (0, n)))

-- of another user, or another group, there is nothing
abbrev first_place : Place
first_place = (0, 1)

beside : {X : Type 0} (v : X) (p : Place) → ¬ (p.0 ≡ 0) → (m : FinMap place_cmp X) → m ≡ insert {R = place_cmp} empty first_place v → get m p ≡ None
beside {X} v p other m is =
    ap (λ (k : FinMap place_cmp X). get k p) is ∙ get-insert place_cmp_total empty first_place v p
    ∙ ap (λ b. cond b (Some v) (get {R = place_cmp} empty p)) (other_principal p.0 0 p.1 1 other) ∙ get-empty place_cmp p

pub no_inode : (u n : ℕ) → ¬ (u ≡ 0) → get genesis.inodes (u, n) ≡ None
unfolding genesis
no_inode u n other = beside (new_inode (Group 0 1) Dir) (u, n) other genesis.inodes refl

pub no_pointer : (g n : ℕ) → ¬ (g ≡ 0) → get genesis.pointers (g, n) ≡ None
unfolding genesis
no_pointer g n other = beside first_place (g, n) other genesis.pointers refl

pub other_user : (u : ℕ) → is_user u ≡ false → ¬ (u ≡ 0)
other_user u none e = absurd (let z : true ≡ false = sym (ap is_user e) ∙ none in cc)

pub other_group : (g : ℕ) → is_group g ≡ false → ¬ (g ≡ 0)
other_group g none e = absurd (let z : true ≡ false = sym (ap is_group e) ∙ none in cc)

-- ---- lists that grow

module _ {X : Type 0} (P : ℕ → X → Type 0) where
  pub more : (xs : List X) (from : ℕ) (x : X) → ((u : ℕ) → IfSome (slice_get xs u) (P (from + u))) → P (from + length xs) x → (u : ℕ) → IfSome (slice_get (xs ++ x ∷ []) u) (P (from + u))
  more [] from x each new zero = new
  more [] from x each new (suc u) = tt
  more (y ∷ xs) from x each new zero = each zero
  more (y ∷ xs) from x each new (suc u) =
      let shift : (k : ℕ) → from + suc k ≡ (from + 1) + k = λ k. omega arith in
      subst (λ k. IfSome (slice_get (xs ++ x ∷ []) u) (P k)) (sym (shift u))
      (more xs (from + 1) x (λ k. subst (λ m. IfSome (slice_get xs k) (P m)) (shift k) (each (suc k))) (subst (λ m. P m x) (omega arith) new) u)

there_below : {X : Type 0} (xs : List X) (u : ℕ) → length xs ≤ u → slice_get xs u ≡ None
there_below [] u past = refl
there_below (x ∷ xs) zero past = absurd (omega (arith, past))
there_below (x ∷ xs) (suc u) past = there_below xs u (omega (arith, past))

some_below : {X : Type 0} (xs : List X) (u : ℕ) → u < length xs → (x : X) × (slice_get xs u ≡ Some x)
some_below [] u within = absurd (omega (arith, within))
some_below (x ∷ xs) zero within = (x, refl)
some_below (x ∷ xs) (suc u) within = some_below xs u (omega (arith, within))

-- as many parts as there can be
pub all_parts : {X : Type 0} (P : X → Type 0) (last : ℕ) (xs : List X) (u : ℕ) → length xs ≡ last + 1 → IfSome (slice_get xs u) P → IsPart P (nat_le u last) (slice_get xs u)
all_parts P last xs u many is = go (nat_le u last) refl
  where
    go : (b : Bool) → nat_le u last ≡ b → IsPart P b (slice_get xs u)
    go true e =
        let x = some_below xs u (grind (arith, nat_tests, many, e)) in
        subst (IsPart P true) (sym x.1) (subst (λ o. IfSome o P) x.1 is)
    go false e = there_below xs u (grind (arith, nat_tests, many, e))

-- ---- what is loaded

nothing_loaded : (P : PartInode → Type 0) (a : Option PartInode) (o : Option Inode) → StandsAt a o → o ≡ None → IfLoaded P a
nothing_loaded P None o s none = tt
nothing_loaded P (Some i) None s none = absurd s
nothing_loaded P (Some i) (Some k) s none = absurd cc

-- of a user who has no inode all is loaded
pub bare_all : (P : PartInode → Type 0) (p : UserPart) (u : ℕ) → StandsUser u p genesis → ¬ (u ≡ 0) → ((n : ℕ) → HasInode n p) → (n : ℕ) → HasAt n P p
bare_all P p u h other has n = record { inode = has n; part = nothing_loaded P (at_number p.inodes.entries n) (get genesis.inodes (u, n)) (h.inodes n) (no_inode u n other) }

-- of an inode of which all is loaded the path of each name is
all_names : (x : Name) (c : PartContent) → IsAllIn c → HasNameIn x c
all_names x (PartNames t) all = all x
all_names x (PartBytes b) all = tt

pub names_of_all : (x : Name) (n : ℕ) (p : UserPart) → HasAt n (λ i. IsAllIn i.content) p → HasAt n (HasName x) p
names_of_all x n p h = record { inode = h.inode; part = go (at_number p.inodes.entries n) h.part }
  where
    go : (o : Option PartInode) → IfLoaded (λ i. IsAllIn i.content) o → IfLoaded (HasName x) o
    go None all = tt
    go (Some i) all = all_names x i.content all

pub each_part : {X : Type 0} (P Q : X → Type 0) (o : Option X) → ((x : X) → P x → Q x) → IfSome o P → IfSome o Q
each_part P Q None f h = tt
each_part P Q (Some x) f h = f x h

-- ---- the first parts

pub record IsFirstUser (u : ℕ) (p : UserPart) : Type 0 where
  pub stands : StandsUser u p genesis
  pub all : (n : ℕ) → HasAt n (λ i. IsAllIn i.content) p

pub record IsFirstGroup (g : ℕ) (p : GroupPart) : Type 0 where
  pub stands : StandsGroup g p genesis
  pub all : (n : ℕ) → HasPointer n p

pub root_group : (p : GroupPart) → ((T : Tree) → ((n : ℕ) → get T.pointers (0, n) ≡ None) → StandsGroup 0 p (edit T (Pointers (0, 1) (Some (0, 1))))) → StandsGroup 0 p genesis
unfolding before_pointer
root_group p stands = subst (StandsGroup 0 p) pointer_made (stands before_pointer (λ n. get-empty place_cmp (0, n)))

-- the first of them alone
pub one_part : {X : Type 0} (P : ℕ → X → Type 0) (xs : List X) (x : X) → xs ≡ x ∷ [] → P 0 x → (length xs ≡ 1) × ((u : ℕ) → IfSome (slice_get xs u) (P u))
one_part P xs x is first = (ap length is, λ u. subst (λ ys. IfSome (slice_get ys u) (P u)) (sym is) (go u))
  where
    go : (u : ℕ) → IfSome (slice_get (x ∷ []) u) (P u)
    go zero = first
    go (suc u) = tt

-- one more
pub next_part : {X : Type 0} (P : ℕ → X → Type 0) (xs ys : List X) (x : X) (k : ℕ) → ys ≡ xs ++ x ∷ [] → (length xs ≡ k + 1) × ((u : ℕ) → IfSome (slice_get xs u) (P u)) → P (k + 1) x
    → (length ys ≡ (k + 1) + 1) × ((u : ℕ) → IfSome (slice_get ys u) (P u))
next_part P xs ys x k is h new =
    let start : (m : ℕ) → 0 + m ≡ m = λ m. omega arith in (
      ap length is ∙ length-append xs (x ∷ []) ∙ omega (arith, h.0),
      λ u. subst (λ zs. IfSome (slice_get zs u) (P u)) (sym is) (subst (λ m. IfSome (slice_get (xs ++ x ∷ []) u) (P m)) (start u)
          (more P xs 0 x (λ m. subst (λ k. IfSome (slice_get xs m) (P k)) (sym (start m)) (h.1 m)) (subst (λ m. P m x) (sym (start (length xs) ∙ h.0)) new) u)),
    )

pub user_first : (u : ℕ) (p : UserPart) → ¬ (u ≡ 0) → ((T : Tree) → ((n : ℕ) → get T.inodes (u, n) ≡ None) → StandsUser u p T) → ((n : ℕ) → HasInode n p) → IsFirstUser u p
user_first u p other stands has =
    let h = stands genesis (λ n. no_inode u n other) in
    record { stands = h; all = bare_all (λ i. IsAllIn i.content) p u h other has }

pub group_first : (g : ℕ) (p : GroupPart) → ¬ (g ≡ 0) → ((T : Tree) → ((n : ℕ) → get T.pointers (g, n) ≡ None) → StandsGroup g p T) → ((n : ℕ) → HasPointer n p) → IsFirstGroup g p
group_first g p other stands has = record { stands = stands genesis (λ n. no_pointer g n other); all = has }
