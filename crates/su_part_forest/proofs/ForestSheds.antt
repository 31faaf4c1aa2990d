-- What is left of one user's or one group's part is left of the forest.
use Rattle.std.proofs.Common.{◌≡◌, ◌≢◌, ◌∙◌, ◌⊎◌, ◌<◌, ◌≤◌, ◌+◌, ℕ, List, Bool, true, false, length, nat_eq, None, Some, refl, sym, ap, subst, inl, inr, arith}
use Rattle.std.specs.Prelude.{Result, Ok, OnOk, IfErr, IfSome, nat_lt, slice_get, slice_set}
use Rattle.std.specs.List.{Contains}
use Rattle.std.proofs.lemmas.Bool.{eqb-true, eqb-false, ltb-true, ltb-false}
use Rattle.su_bytes.specs.Principal.{is_user, is_group}
use Rattle.su_bytes.specs.Place.{is_place}
use Rattle.su_bytes.specs.declared.refusals.Refusal.{Refusal}
use Rattle.su_bytes.specs.declared.refusals.Refusal.TheVariants.{NoMemory, SourceFailed}
use Rattle.su_block.specs.declared.failures.Failures.{Failures}
use Rattle.su_tree.specs.Collision.{encodings}
use Rattle.su_tree.specs.Laws.Numbers as number
use Rattle.su_tree.specs.Laws.Values.{place_told}
use Rattle.su_tree.specs.Number.{number_bits, number_bytes, numbers, is_u32}
use Rattle.su_tree.specs.Value.{place_bytes}
use Rattle.su_part_tree.specs.Part.{HasNone, IsItemIn}
use Rattle.su_part_tree.specs.Loading.{FailedAtItem}
use Rattle.su_part_tree.specs.Putting.{Took}
use Rattle.su_part_tree.proofs.Loading.{encoding}
use Rattle.su_part_tree.proofs.Putting.{item_in}
use Rattle.su_table.specs.Handle.{group_table}
use Rattle.su_table.specs.Tree.{Tree}
use Rattle.su_part.specs.Bytes.{number_sort}
use Rattle.su_part.specs.Part.{ItemOf, StandsUser}
use Rattle.su_part.specs.Sheds.{HasNothing, IsItemInUser, Sheds, ShedsUser}
use Rattle.su_part.specs.declared.users.UserPart.{UserPart}
use Rattle.su_part.proofs.LoadLemmas.{IsWithin}
use Rattle.su_part.proofs.ShedLemmas.{none_in, on_ok}
use Rattle.su_part.proofs.ShedParts.{sheds_within, user_hashed}
use Rattle.su_group_part.specs.Part.{StandsGroup, place_sort}
use Rattle.su_group_part.specs.declared.groups.GroupPart.{GroupPart}
use Rattle.su_part_forest.specs.Forest.{Stands, user_part, group_part}
use Rattle.su_part_forest.specs.Loading.{HashedFor}
use Rattle.su_part_forest.specs.Sheds.{HasNothingLoaded, IsItemInForest, ShedsForest}
use Rattle.su_part_forest.specs.declared.forests.PartForest.{PartForest}
use Rattle.su_part_forest.proofs.Asked.{no_part, part_is}
use Rattle.su_part_forest.proofs.Lifting.{get_same, get_other, user_stands, group_stands}

pub forest_hashed : (f : PartForest) (T : Tree) → Stands f T → (i : List ℕ) → IsItemInForest f i → HashedFor T i
forest_hashed f T h i (inl (u, p, at, own)) = inl (u, user_hashed p (u, T) (part_is (λ x. StandsUser u x T) (is_user u) (user_part u f) p (sym at) (h.users u)) i own)
forest_hashed f T h i (inr (k, p, at, own)) =
    inr (k, item_in place_sort (encoding number_bits number_bytes is_u32 place_bytes is_place number.short number.small number.told place_told) p.table.root (group_table T k) (part_is (λ x. StandsGroup k x T) (is_group k) (group_part k f) p (sym at) (h.groups k)) i own)

-- the items of parts, where one part takes the place of another
module _ {X : Type 0} (IsIn : X → List ℕ → Type 0) (xs : List X) (n : ℕ) (p q : X) (got : slice_get xs n ≡ Some p) where
  pub item_before : (i : List ℕ) (k : ℕ) (x : X) → slice_get xs k ≡ Some x → IsIn x i → IsIn p i ⊎ ((y : X) × (slice_get (slice_set xs n q) k ≡ Some y) × IsIn y i)
  item_before i k x at own = go (nat_eq k n) refl
    where
      go : (b : Bool) → nat_eq k n ≡ b → IsIn p i ⊎ ((y : X) × (slice_get (slice_set xs n q) k ≡ Some y) × IsIn y i)
      go true e = inl (subst (λ y. IsIn y i) (let z : Some x ≡ Some p = sym at ∙ ap (slice_get xs) (eqb-true k n e) ∙ got in cc) own)
      go false e = inr (x, get_other xs n k q (eqb-false k n e) ∙ at, own)

  pub item_after : (i : List ℕ) (k : ℕ) (x : X) → slice_get (slice_set xs n q) k ≡ Some x → IsIn x i → IsIn q i ⊎ ((y : X) × (slice_get xs k ≡ Some y) × IsIn y i)
  item_after i k x at own = go (nat_eq k n) refl
    where
      go : (b : Bool) → nat_eq k n ≡ b → IsIn q i ⊎ ((y : X) × (slice_get xs k ≡ Some y) × IsIn y i)
      go true e = inl (subst (λ y. IsIn y i) (let z : Some x ≡ Some q = sym at ∙ ap (slice_get (slice_set xs n q)) (eqb-true k n e) ∙ get_same xs n q p got in cc) own)
      go false e = inr (x, sym (get_other xs n k q (eqb-false k n e)) ∙ at, own)

-- ---- a user's part

module _ (f g : PartForest) (u : ℕ) (p q : UserPart) (got : user_part u f ≡ Some p) (users : g.users.items ≡ slice_set f.users.items u q) (groups : g.groups.items ≡ f.groups.items) where
  user_within : (T : Tree) → Stands f T → IsWithin (λ a x. StandsUser x.0 a x.1) (λ (x : ℕ × Tree). ItemOf x.0 x.1) Stands HashedFor p q f g T
  user_within T h = record {
    part = (u, T);
    before = part_is (λ x. StandsUser u x T) (is_user u) (user_part u f) p (sym got) (h.users u);
    hashed = λ i c. inl (u, c);
    after = λ s. user_stands f g u p q got users groups T T h (λ v x e y. y) (λ y. s) (λ k x y. y) h.no_user h.no_group;
  }

  pub user_sheds : {S A : Type 0} {may_give : S → List ℕ → Type 0} {failed_of : S → Failures} {comes : S → S → Type 0} {puts : S → List ℕ → S → Type 0} {s t : S} {r : Result A Refusal}
      → ShedsUser may_give failed_of comes puts p q s t r → ShedsForest may_give failed_of comes puts f g s t r
  user_sheds h =
      sheds_within f g user_within (forest_hashed f) (λ i own. inl (u, p, got, own)) (λ i own. inl (u, q, here, own)) parts parts_after h
    where
      here : user_part u g ≡ Some q
      here = ap (λ xs. slice_get xs u) users ∙ get_same f.users.items u q p got

      parts : (i : List ℕ) → IsItemInForest f i → IsItemInUser p i ⊎ IsItemInForest g i
      parts i (inl (k, x, at, own)) = elim (item_before IsItemInUser f.users.items u p q got i k x at own) [ inl y ↦ inl y | inr y ↦ inr (inl (k, y.0, ap (λ xs. slice_get xs k) users ∙ y.1, y.2)) ]
      parts i (inr (k, x, at, own)) = inr (inr (k, x, ap (λ xs. slice_get xs k) groups ∙ at, own))

      parts_after : (i : List ℕ) → IsItemInForest g i → IsItemInUser q i ⊎ IsItemInForest f i
      parts_after i (inl (k, x, at, own)) = elim (item_after IsItemInUser f.users.items u p q got i k x (sym (ap (λ xs. slice_get xs k) users) ∙ at) own) [ inl y ↦ inl y | inr y ↦ inr (inl (k, y.0, y.1, y.2)) ]
      parts_after i (inr (k, x, at, own)) = inr (inr (k, x, sym (ap (λ xs. slice_get xs k) groups) ∙ at, own))

-- ---- a group's part

abbrev pub IsItemInGroup : GroupPart → List ℕ → Type 0
IsItemInGroup p i = IsItemIn place_sort p.table i

-- what is hashed for a group's table
abbrev pub GroupItem : ℕ → Tree → List ℕ → Type 0
GroupItem k T i = Contains (encodings (numbers place_bytes) (group_table T k)) i

module _ {S A : Type 0} (may_give : S → List ℕ → Type 0) (failed_of : S → Failures) (comes : S → S → Type 0) (puts : S → List ℕ → S → Type 0) (k : ℕ) (p q : GroupPart) (s v : S) (r : Result A Refusal) where
  pub group_shed : ((T : Tree) → StandsGroup k p T → StandsGroup k q T) → OnOk r (HasNone q.table)
      → ((i : List ℕ) → IsItemInGroup p i → Took comes puts s v i ⊎ IsItemInGroup q i) → ((i : List ℕ) → may_give v i → may_give s i ⊎ IsItemInGroup p i)
      → ((T : Tree) → StandsGroup k p T → (i : List ℕ) → IsItemInGroup p i → GroupItem k T i)
      → ((T : Tree) → StandsGroup k p T → IfErr r (FailedAtItem place_sort (group_table T k) (failed_of v))) → IfErr r (λ e. (e ≡ SourceFailed) ⊎ (e ≡ NoMemory)) → comes s v
      → Sheds (StandsGroup k) (GroupItem k) IsItemInGroup may_give failed_of comes puts p q s v r
  group_shed stands none not_lost more hashed failed refused follows = record {
    stands = stands;
    no_new = on_ok r (HasNone q.table) ((i : List ℕ) → IsItemInGroup q i → IsItemInGroup p i) (λ n i own. absurd (none_in place_sort q.table.root i n own)) none;
    not_lost = not_lost;
    more = more;
    hashed = hashed;
    failed = failed;
    refused = refused;
    follows = follows;
  }

module _ (f g : PartForest) (k : ℕ) (p q : GroupPart) (got : group_part k f ≡ Some p) (groups : g.groups.items ≡ slice_set f.groups.items k q) (users : g.users.items ≡ f.users.items) where
  group_within : (T : Tree) → Stands f T → IsWithin (StandsGroup k) (GroupItem k) Stands HashedFor p q f g T
  group_within T h = record {
    part = T;
    before = part_is (λ x. StandsGroup k x T) (is_group k) (group_part k f) p (sym got) (h.groups k);
    hashed = λ i c. inr (k, c);
    after = λ s. group_stands f g k p q got groups users T T h (λ v x e y. y) (λ y. s) (λ u x y. y) h.no_user h.no_group;
  }

  pub group_sheds : {S A : Type 0} {may_give : S → List ℕ → Type 0} {failed_of : S → Failures} {comes : S → S → Type 0} {puts : S → List ℕ → S → Type 0} {s t : S} {r : Result A Refusal}
      → Sheds (StandsGroup k) (GroupItem k) IsItemInGroup may_give failed_of comes puts p q s t r → ShedsForest may_give failed_of comes puts f g s t r
  group_sheds h =
      sheds_within f g group_within (forest_hashed f) (λ i own. inr (k, p, got, own)) (λ i own. inr (k, q, here, own)) parts parts_after h
    where
      here : group_part k g ≡ Some q
      here = ap (λ xs. slice_get xs k) groups ∙ get_same f.groups.items k q p got

      parts : (i : List ℕ) → IsItemInForest f i → IsItemInGroup p i ⊎ IsItemInForest g i
      parts i (inl (n, x, at, own)) = inr (inl (n, x, ap (λ xs. slice_get xs n) users ∙ at, own))
      parts i (inr (n, x, at, own)) = elim (item_before IsItemInGroup f.groups.items k p q got i n x at own) [ inl y ↦ inl y | inr y ↦ inr (inr (n, y.0, ap (λ xs. slice_get xs n) groups ∙ y.1, y.2)) ]

      parts_after : (i : List ℕ) → IsItemInForest g i → IsItemInGroup q i ⊎ IsItemInForest f i
      parts_after i (inl (n, x, at, own)) = inr (inl (n, x, sym (ap (λ xs. slice_get xs n) users) ∙ at, own))
      parts_after i (inr (n, x, at, own)) = elim (item_after IsItemInGroup f.groups.items k p q got i n x (sym (ap (λ xs. slice_get xs n) groups) ∙ at) own) [ inl y ↦ inl y | inr y ↦ inr (inr (n, y.0, y.1, y.2)) ]

-- ---- nothing is done, or done yet

module _ {S A : Type 0} (may_give : S → List ℕ → Type 0) (failed_of : S → Failures) (comes : S → S → Type 0) (puts : S → List ℕ → S → Type 0) where
  pub nothing_shed : ((s : S) → comes s s) → (f : PartForest) (s : S) (a : A) → ShedsForest may_give failed_of comes puts f f s s (Ok a)
  nothing_shed itself f s a = record {
    stands = λ T h. h;
    no_new = λ i own. own;
    not_lost = λ i own. inr own;
    more = λ i m. inl m;
    hashed = forest_hashed f;
    failed = λ T h. tt;
    refused = tt;
    follows = itself s;
  }

-- ---- of which parts nothing is loaded

module _ {X : Type 0} (P : X → Type 0) where
  -- of each before a number, and then of each up to it
  pub one_more_left : (xs ys : List X) (n : ℕ) → ((k : ℕ) → k < n → IfSome (slice_get xs k) P) → ((k : ℕ) → k ≢ n → slice_get ys k ≡ slice_get xs k) → IfSome (slice_get ys n) P
      → (k : ℕ) → k < n + 1 → IfSome (slice_get ys k) P
  one_more_left xs ys n before others here k lt = go (nat_eq k n) refl
    where
      go : (b : Bool) → nat_eq k n ≡ b → IfSome (slice_get ys k) P
      go true e = subst (λ m. IfSome (slice_get ys m) P) (sym (eqb-true k n e)) here
      go false e =
          let other : k ≢ n = eqb-false k n e in
          subst (λ o. IfSome o P) (sym (others k other)) (before k (omega (arith, lt, other)))

  -- each number is before their count, or has none
  pub all_left : (xs : List X) → ((k : ℕ) → k < length xs → IfSome (slice_get xs k) P) → (k : ℕ) → IfSome (slice_get xs k) P
  all_left xs before k = elim (split k (length xs)) [ inl lt ↦ before k lt | inr past ↦ subst (λ o. IfSome o P) (no_part xs k past) tt ]
    where
      split : (a b : ℕ) → (a < b) ⊎ (b ≤ a)
      split a b = go (nat_lt a b) refl
        where
          go : (t : Bool) → nat_lt a b ≡ t → (a < b) ⊎ (b ≤ a)
          go true e = inl (ltb-true a b e)
          go false e = inr (ltb-false a b e)

-- ---- of which nothing is loaded

pub nothing_left : {A : Type 0} (r : Result A Refusal) (f g : PartForest) → g.users.items ≡ f.users.items → ((u : ℕ) → IfSome (user_part u f) HasNothing) → OnOk r ((k : ℕ) → IfSome (group_part k g) (λ p. HasNone p.table))
    → OnOk r (HasNothingLoaded g)
nothing_left r f g same users groups =
    on_ok r ((k : ℕ) → IfSome (group_part k g) (λ p. HasNone p.table)) (HasNothingLoaded g) (λ none. record { users = λ u. subst (λ xs. IfSome (slice_get xs u) HasNothing) (sym same) (users u); groups = none }) groups

nothing_in_user : (p : UserPart) → HasNothing p → (i : List ℕ) → IsItemInUser p i → ⊥
nothing_in_user p h i (inl node) = none_in number_sort p.table.root i h.table node
nothing_in_user p h i (inr (n, x, at, own)) = absurd (let z : None ≡ Some x = sym (h.inodes n) ∙ at in cc)

nothing_in : (f : PartForest) → HasNothingLoaded f → (i : List ℕ) → IsItemInForest f i → ⊥
nothing_in f h i (inl (u, p, at, own)) = nothing_in_user p (subst (λ o. IfSome o HasNothing) at (h.users u)) i own
nothing_in f h i (inr (k, p, at, own)) = none_in place_sort p.table.root i (subst (λ o. IfSome o (λ q. HasNone q.table)) at (h.groups k)) own

-- each item of what was loaded was put, where it is done
pub all_put : {S A : Type 0} {may_give : S → List ℕ → Type 0} {failed_of : S → Failures} {comes : S → S → Type 0} {puts : S → List ℕ → S → Type 0} (f g : PartForest) {s t : S} {r : Result A Refusal}
    → OnOk r (HasNothingLoaded g) → ShedsForest may_give failed_of comes puts f g s t r → OnOk r ((i : List ℕ) → IsItemInForest f i → Took comes puts s t i)
all_put {comes = comes} {puts = puts} f g {s = s} {t = t} {r = r} none h =
    on_ok r (HasNothingLoaded g) ((i : List ℕ) → IsItemInForest f i → Took comes puts s t i) (λ n i own. elim (h.not_lost i own) [ inl took ↦ took | inr still ↦ absurd (nothing_in g n i still) ]) none
