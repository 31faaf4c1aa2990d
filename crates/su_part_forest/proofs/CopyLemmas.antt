-- Copies of forests stand for what these stand for, and what is loaded stays loaded.
use Rattle.std.proofs.Common.{◌≡◌, ◌≢◌, ◌∙◌, ◌+◌, ◌<◌, ℕ, Bool, true, false, zero, suc, List, [], ◌∷◌, ◌++◌, get_or, length, take, Option, Some, None, sym, ap}
use Rattle.std.proofs.lemmas.List.{take_more}
use Rattle.std.specs.Prelude.{slice_get, IfSome, IsSome, ⊤}
use Rattle.std.specs.FinMap.{get}
use Rattle.su_node.specs.Name.{Name}
use Rattle.su_node.specs.Inode.{Inode}
use Rattle.su_table.specs.Tree.{Tree}
use Rattle.su_part.specs.declared.inodes.PartInode.{PartInode}
use Rattle.su_part.specs.declared.users.UserPart.{UserPart}
use Rattle.su_part.specs.Part.{HasAllOf, HasAt, HasInode, HasName, IfLoaded, StandsAt, StandsUser, at_number}
use Rattle.su_part.proofs.FreshLemmas.{known_inode, name_on}
use Rattle.su_part.proofs.Public.{there_of, there_on}
use Rattle.su_group_part.specs.declared.groups.GroupPart.{GroupPart}
use Rattle.su_group_part.specs.Part.{HasPointer}
use Rattle.su_part_forest.specs.Copy.{AreCopies, IsUserCopy, IsGroupCopy}
use Rattle.su_part_forest.specs.Forest.{IsPart}

abbrev pub CopyAt : {X : Type 0} → (X → X → Type 0) → Option X → Option X → Type 0
CopyAt R None None = ⊤
CopyAt R (Some x) (Some y) = R x y
CopyAt R _ _ = ⊥

module _ {X : Type 0} (R : X → X → Type 0) where
  pub copies_at : (xs ys : List X) → AreCopies R xs ys → (u : ℕ) → CopyAt R (slice_get xs u) (slice_get ys u)
  copies_at [] [] c u = tt
  copies_at [] (y ∷ ys) c u = absurd c
  copies_at (x ∷ xs) [] c u = absurd c
  copies_at (x ∷ xs) (y ∷ ys) c zero = c.0
  copies_at (x ∷ xs) (y ∷ ys) c (suc u) = copies_at xs ys c.1 u

  pub one_copy_more : (xs ys : List X) (x y : X) → AreCopies R xs ys → R x y → AreCopies R (xs ++ x ∷ []) (ys ++ y ∷ [])
  one_copy_more [] [] x y c r = (r, tt)
  one_copy_more [] (b ∷ ys) x y c r = absurd c
  one_copy_more (a ∷ xs) [] x y c r = absurd c
  one_copy_more (a ∷ xs) (b ∷ ys) x y c r = (c.0, one_copy_more xs ys x y c.1 r)

  pub part_copied : (P : X → Type 0) → ((x y : X) → R x y → P x → P y) → (b : Bool) (o r : Option X) → CopyAt R o r → IsPart P b o → IsPart P b r
  part_copied P on b None None c h = h
  part_copied P on b None (Some y) c h = absurd c
  part_copied P on b (Some x) None c h = absurd c
  part_copied P on true (Some x) (Some y) c h = on x y c h
  part_copied P on false (Some x) (Some y) c h = absurd (let z : Some x ≡ None = h in cc)

user_on : (u n : ℕ) (S : Tree) (p q : UserPart) → IsUserCopy p q → StandsUser u p S → HasInode n p → HasInode n q
user_on u n S p q copy h has = known_inode n q (copy.all.paths n has.path) u S (copy.stands u S h) (there_on u S n p q copy.all (there_of u S n p has h))

named_on : (x : Name) (u n : ℕ) (S : Tree) (p q : UserPart) → IsUserCopy p q → StandsUser u p S → HasAt n (HasName x) p → HasAt n (HasName x) q
named_on x u n S p q copy h has = record {
  inode = user_on u n S p q copy h has.inode;
  part = go (at_number p.inodes.entries n) (at_number q.inodes.entries n) (get S.inodes (u, n)) (copy.all.inodes n) ((copy.stands u S h).inodes n) (has.inode.there u S h) has.part;
}
  where
    go : (a b : Option PartInode) (o : Option Inode) → HasAllOf a b → StandsAt b o → (o ≢ None → IsSome a) → IfLoaded (HasName x) a → IfLoaded (HasName x) b
    go None None o all s there part = tt
    go None (Some j) None all s there part = absurd s
    go None (Some j) (Some k) all s there part = absurd (let z : false ≡ true = there (λ e. absurd cc) in cc)
    go (Some i) None o all s there part = tt
    go (Some i) (Some j) o all s there part = name_on x i.content j.content all part

module _ (S : Tree) (u n : ℕ) (P : UserPart → Type 0) (on : (p q : UserPart) → IsUserCopy p q → StandsUser u p S → P p → P q) where
  copied_on : (b : Bool) (o r : Option UserPart) → IsPart (λ p. StandsUser u p S) b o → CopyAt IsUserCopy o r → IfSome o P → IfSome r P
  copied_on b None None h c has = tt
  copied_on b None (Some q) h c has = absurd c
  copied_on b (Some p) None h c has = absurd c
  copied_on true (Some p) (Some q) h c has = on p q c h has
  copied_on false (Some p) (Some q) h c has = absurd (let z : Some p ≡ None = h in cc)

pub inode_copied : (S : Tree) (u n : ℕ) (b : Bool) (o r : Option UserPart) → IsPart (λ p. StandsUser u p S) b o → CopyAt IsUserCopy o r → IfSome o (HasInode n) → IfSome r (HasInode n)
inode_copied S u n b o r h c has = copied_on S u n (HasInode n) (λ p q copy s i. user_on u n S p q copy s i) b o r h c has

pub name_copied : (S : Tree) (x : Name) (u n : ℕ) (b : Bool) (o r : Option UserPart) → IsPart (λ p. StandsUser u p S) b o → CopyAt IsUserCopy o r → IfSome o (HasAt n (HasName x)) → IfSome r (HasAt n (HasName x))
name_copied S x u n b o r h c has = copied_on S u n (HasAt n (HasName x)) (λ p q copy s i. named_on x u n S p q copy s i) b o r h c has

pub pointer_copied : (n : ℕ) (o r : Option GroupPart) → CopyAt IsGroupCopy o r → IfSome o (HasPointer n) → IfSome r (HasPointer n)
pointer_copied n None None c has = tt
pointer_copied n None (Some q) c has = absurd c
pointer_copied n (Some p) None c has = absurd c
pointer_copied n (Some p) (Some q) c has = c.all n has

-- one more of them is copied
pub next_copied : {X : Type 0} (R : X → X → Type 0) (xs ys zs : List X) (n : ℕ) (x y : X) → n < length xs → x ≡ get_or xs n x → AreCopies R (take n xs) ys → R x y → zs ≡ ys ++ y ∷ [] → AreCopies R (take (n + 1) xs) zs
next_copied R xs ys zs n x y within is copied copy next =
    let more = take_more xs n x within ∙ ap (λ e. take n xs ++ e ∷ []) (sym is) in
    rw (more, next) (one_copy_more R (take n xs) ys x y copied copy)
