-- One part of a forest is replaced by another.
use Rattle.std.proofs.Common.{◌≡◌, ◌∙◌, ℕ, zero, suc, Bool, true, false, nat_eq, List, [], ◌∷◌, Option, Some, None, refl, sym, ap, subst, inl, inr}
use Rattle.std.specs.Prelude.{slice_get, slice_set, IfErr, IfSome, OnOk, Ok, Err, Result}
use Rattle.std.specs.FinMap.{get}
use Rattle.su_bytes.specs.declared.refusals.Refusal.TheVariants.{Malformed}
use Rattle.su_part.proofs.UserLemmas.{all_itself}
use Rattle.su_group_part.specs.Part.{StandsGroup}
use Rattle.su_group_part.specs.declared.groups.GroupPart.{GroupPart}
use Rattle.su_part_forest.proofs.Asked.{part_is}
use Rattle.std.proofs.lemmas.Bool.{eqb-true, eqb-false}
use Rattle.su_bytes.specs.Principal.{is_user, is_group}
use Rattle.su_bytes.specs.declared.refusals.Refusal.{Refusal}
use Rattle.su_block.specs.declared.failures.Failures.{Failures}
use Rattle.su_table.specs.Tree.{Tree}
use Rattle.su_part.specs.Fetches.{LoadsUser}
use Rattle.su_part.specs.Part.{HasAll, StandsUser}
use Rattle.su_part.specs.declared.users.UserPart.{UserPart}
use Rattle.su_part_forest.specs.Forest.{IsPart, Stands, user_part, group_part}
use Rattle.su_part_forest.specs.Loading.{IsKept, KeepsLoaded, KeepsPointers, LoadsForest, LoadsGroup}
use Rattle.su_part_forest.specs.declared.forests.PartForest.{PartForest}

module _ {X : Type 0} where
  -- what stands at a number of a list of which one item is replaced
  pub get_same : (xs : List X) (u : ℕ) (q p : X) → slice_get xs u ≡ Some p → slice_get (slice_set xs u q) u ≡ Some q
  get_same [] u q p e = absurd cc
  get_same (x ∷ xs) zero q p e = refl
  get_same (x ∷ xs) (suc u) q p e = get_same xs u q p e

  pub get_other : (xs : List X) (u v : ℕ) (q : X) → ¬ (v ≡ u) → slice_get (slice_set xs u q) v ≡ slice_get xs v
  get_other [] u v q other = refl
  get_other (x ∷ xs) zero zero q other = absurd (other refl)
  get_other (x ∷ xs) zero (suc v) q other = refl
  get_other (x ∷ xs) (suc u) zero q other = refl
  get_other (x ∷ xs) (suc u) (suc v) q other = get_other xs u v q (λ e. other (ap suc e))

  -- each part meets P, and then Q, where one is replaced
  pub replaced : (P Q : ℕ → X → Type 0) (b : ℕ → Bool) (xs : List X) (u : ℕ) (p q : X) → slice_get xs u ≡ Some p → ((v : ℕ) (x : X) → ¬ (v ≡ u) → P v x → Q v x) → (P u p → Q u q)
      → ((v : ℕ) → IsPart (P v) (b v) (slice_get xs v)) → (v : ℕ) → IsPart (Q v) (b v) (slice_get (slice_set xs u q) v)
  replaced P Q b xs u p q got other this all v = go (nat_eq v u) refl
    where
      here : (c : Bool) → IsPart (P u) c (Some p) → IsPart (Q u) c (Some q)
      here true h = this h
      here false h = absurd (let z : Some p ≡ None = h in cc)

      there : (c : Bool) (o : Option X) → ¬ (v ≡ u) → IsPart (P v) c o → IsPart (Q v) c o
      there true None e h = absurd h
      there true (Some x) e h = other v x e h
      there false o e h = h

      go : (c : Bool) → nat_eq v u ≡ c → IsPart (Q v) (b v) (slice_get (slice_set xs u q) v)
      go true e =
          subst (λ n. IsPart (Q n) (b n) (slice_get (slice_set xs u q) n)) (sym (eqb-true v u e))
          (subst (IsPart (Q u) (b u)) (sym (get_same xs u q p got)) (here (b u) (subst (IsPart (P u) (b u)) got (all u))))
      go false e = subst (IsPart (Q v) (b v)) (sym (get_other xs u v q (eqb-false v u e))) (there (b v) (slice_get xs v) (eqb-false v u e) (all v))

  -- what is loaded stays so, where one part is replaced
  pub kept_but : (K : X → X → Type 0) → ((x : X) → K x x) → (xs : List X) (u : ℕ) (p q : X) → slice_get xs u ≡ Some p → K p q → (v : ℕ) → IsKept K (slice_get xs v) (slice_get (slice_set xs u q) v)
  kept_but K itself xs u p q got keeps v = go (nat_eq v u) refl
    where
      same : (o : Option X) → IsKept K o o
      same None = tt
      same (Some x) = itself x

      go : (c : Bool) → nat_eq v u ≡ c → IsKept K (slice_get xs v) (slice_get (slice_set xs u q) v)
      go true e =
          subst (λ n. IsKept K (slice_get xs n) (slice_get (slice_set xs u q) n)) (sym (eqb-true v u e))
          (subst (λ o. IsKept K o (slice_get (slice_set xs u q) u)) (sym got) (subst (IsKept K (Some p)) (sym (get_same xs u q p got)) keeps))
      go false e = subst (IsKept K (slice_get xs v)) (sym (get_other xs u v q (eqb-false v u e))) (same (slice_get xs v))

  -- each part meets P, and so Q
  pub each_part : {P Q : X → Type 0} (b : Bool) (o : Option X) → ((x : X) → P x → Q x) → IsPart P b o → IsPart Q b o
  each_part true None f h = absurd h
  each_part true (Some x) f h = f x h
  each_part false o f h = h

  pub kept_all : (K : X → X → Type 0) → ((x : X) → K x x) → (o : Option X) → IsKept K o o
  kept_all K itself None = tt
  kept_all K itself (Some x) = itself x

if_err : {A : Type 0} {P Q : Refusal → Type 0} (r : Result A Refusal) → ((e : Refusal) → P e → Q e) → IfErr r P → IfErr r Q
if_err (Ok x) f h = h
if_err (Err e) f h = f e h

-- ---- of users

module _ (f g : PartForest) (u : ℕ) (p q : UserPart) (got : user_part u f ≡ Some p) (users : g.users.items ≡ slice_set f.users.items u q) (groups : g.groups.items ≡ f.groups.items) where
  -- the forest stands for a tree as before, but for the user's part
  pub user_stands : (T V : Tree) → Stands f T → ((v : ℕ) (x : UserPart) → ¬ (v ≡ u) → StandsUser v x T → StandsUser v x V) → (StandsUser u p T → StandsUser u q V)
      → ((k : ℕ) (x : GroupPart) → StandsGroup k x T → StandsGroup k x V)
      → ((v n : ℕ) → is_user v ≡ false → get V.inodes (v, n) ≡ None) → ((k n : ℕ) → is_group k ≡ false → get V.pointers (k, n) ≡ None) → Stands g V
  user_stands T V h others this same no_user no_group = record {
    users = λ v. subst (λ xs. IsPart (λ x. StandsUser v x V) (is_user v) (slice_get xs v)) (sym users)
        (replaced (λ n x. StandsUser n x T) (λ n x. StandsUser n x V) is_user f.users.items u p q got others this h.users v);
    groups = λ k. subst (λ xs. IsPart (λ x. StandsGroup k x V) (is_group k) (slice_get xs k)) (sym groups) (each_part (is_group k) (slice_get f.groups.items k) (same k) (h.groups k));
    no_user = no_user;
    no_group = no_group;
  }

  pub user_keeps : HasAll p q → KeepsLoaded f g
  user_keeps keeps = record {
    users = λ v. subst (λ xs. IsKept HasAll (user_part v f) (slice_get xs v)) (sym users) (kept_but HasAll all_itself f.users.items u p q got keeps v);
    groups = λ k. subst (λ xs. IsKept KeepsPointers (group_part k f) (slice_get xs k)) (sym groups) (kept_all KeepsPointers (λ x n has. has) (group_part k f));
  }

  pub user_there : user_part u g ≡ Some q
  user_there = ap (λ xs. slice_get xs u) users ∙ get_same f.users.items u q p got

  module _ {S A : Type 0} (may_give : S → List ℕ → Type 0) (failed_of : S → Failures) (comes : S → S → Type 0) (s t : S) (r : Result A Refusal) where
    -- a load of the user's part is one of the forest
    pub user_loaded : LoadsUser may_give failed_of comes p q s t r → LoadsForest may_give failed_of comes f g s t r
    user_loaded l =
        let here : (T : Tree) → Stands f T → StandsUser u p T = λ T h. part_is (λ x. StandsUser u x T) (is_user u) (user_part u f) p (sym got) (h.users u) in
        record {
          stands = λ T h free. user_stands T T h (λ v x e s. s) (λ s. l.stands (u, T) s (λ a b i. free a b (inl (u, i)))) (λ k x s. s) h.no_user h.no_group;
          malformed = λ e T h free. l.malformed e (u, T) (here T h) (λ a b i. free a b (inl (u, i)));
          failed = λ T h free. if_err r (λ e h' failure. let (i, item, last) = h' failure in (i, inl (u, item), last)) (l.failed (u, T) (here T h) (λ a b i. free a b (inl (u, i))));
          refused = l.refused;
          keeps = user_keeps l.keeps;
          no_more = l.no_more;
          follows = l.follows;
        }

-- ---- of groups

module _ (f g : PartForest) (k : ℕ) (p q : GroupPart) (got : group_part k f ≡ Some p) (groups : g.groups.items ≡ slice_set f.groups.items k q) (users : g.users.items ≡ f.users.items) where
  pub group_stands : (T V : Tree) → Stands f T → ((v : ℕ) (x : GroupPart) → ¬ (v ≡ k) → StandsGroup v x T → StandsGroup v x V) → (StandsGroup k p T → StandsGroup k q V)
      → ((u : ℕ) (x : UserPart) → StandsUser u x T → StandsUser u x V)
      → ((v n : ℕ) → is_user v ≡ false → get V.inodes (v, n) ≡ None) → ((j n : ℕ) → is_group j ≡ false → get V.pointers (j, n) ≡ None) → Stands g V
  group_stands T V h others this same no_user no_group = record {
    users = λ v. subst (λ xs. IsPart (λ x. StandsUser v x V) (is_user v) (slice_get xs v)) (sym users) (each_part (is_user v) (slice_get f.users.items v) (same v) (h.users v));
    groups = λ j. subst (λ xs. IsPart (λ x. StandsGroup j x V) (is_group j) (slice_get xs j)) (sym groups)
        (replaced (λ n x. StandsGroup n x T) (λ n x. StandsGroup n x V) is_group f.groups.items k p q got others this h.groups j);
    no_user = no_user;
    no_group = no_group;
  }

  pub group_keeps : KeepsPointers p q → KeepsLoaded f g
  group_keeps keeps = record {
    users = λ v. subst (λ xs. IsKept HasAll (user_part v f) (slice_get xs v)) (sym users) (kept_all HasAll all_itself (user_part v f));
    groups = λ j. subst (λ xs. IsKept KeepsPointers (group_part j f) (slice_get xs j)) (sym groups) (kept_but KeepsPointers (λ x n has. has) f.groups.items k p q got keeps j);
  }

  pub group_there : group_part k g ≡ Some q
  group_there = ap (λ xs. slice_get xs k) groups ∙ get_same f.groups.items k q p got

  module _ {S A : Type 0} (may_give : S → List ℕ → Type 0) (failed_of : S → Failures) (comes : S → S → Type 0) (s t : S) (r : Result A Refusal) where
    -- a load of the group's part is one of the forest
    pub group_loaded : LoadsGroup may_give failed_of comes k p q s t r → LoadsForest may_give failed_of comes f g s t r
    group_loaded l =
        let here : (T : Tree) → Stands f T → StandsGroup k p T = λ T h. part_is (λ x. StandsGroup k x T) (is_group k) (group_part k f) p (sym got) (h.groups k) in
        record {
          stands = λ T h free. group_stands T T h (λ v x e s. s) (λ s. l.stands T s (λ a b i. free a b (inr (k, i)))) (λ u x s. s) h.no_user h.no_group;
          malformed = λ e T h free. l.malformed e T (here T h) (λ a b i. free a b (inr (k, i)));
          failed = λ T h free. if_err r (λ e h' failure. let (i, item, last) = h' failure in (i, inr (k, item), last)) (l.failed T (here T h) (λ a b i. free a b (inr (k, i))));
          refused = l.refused;
          keeps = group_keeps l.keeps;
          no_more = l.no_more;
          follows = l.follows;
        }

-- ---- nothing is done

pub all_kept : (f : PartForest) → KeepsLoaded f f
all_kept f = record {
  users = λ v. kept_all HasAll all_itself (user_part v f);
  groups = λ k. kept_all KeepsPointers (λ x n has. has) (group_part k f);
}

pub not_asked : {S A : Type 0} (may_give : S → List ℕ → Type 0) (failed_of : S → Failures) (comes : S → S → Type 0) → ((s : S) → comes s s) → (f : PartForest) (s : S) (a : A)
    → LoadsForest may_give failed_of comes f f s s (Ok a)
not_asked may_give failed_of comes itself f s a = record {
  stands = λ T h free. h;
  malformed = λ e. absurd (let z : Ok a ≡ Err (Malformed 0) = e in cc);
  failed = λ T h free. tt;
  refused = tt;
  keeps = all_kept f;
  no_more = λ i gives. gives;
  follows = itself s;
}

-- ---- answers

pub on_ok : {A : Type 0} {P Q : Type 0} (r : Result A Refusal) → (P → Q) → OnOk r P → OnOk r Q
on_ok (Ok x) f h = f h
on_ok (Err e) f h = h

-- what a part that is there has
pub if_some : {X : Type 0} (P : X → Type 0) (o : Option X) (x : X) → o ≡ Some x → P x → IfSome o P
if_some P o x is h = subst (λ y. IfSome y P) (sym is) h

pub if_none : {X : Type 0} (P : X → Type 0) (o : Option X) → None ≡ o → IfSome o P
if_none P o is = subst (λ y. IfSome y P) is tt
