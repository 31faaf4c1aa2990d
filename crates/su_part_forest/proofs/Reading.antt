-- What a read finds in a forest of which enough is loaded.
use Rattle.std.proofs.Common.{◌≡◌, ◌≢◌, ◌∙◌, ◌<◌, ◌^◌, ℕ, Bool, true, false, Option, Some, None, refl, sym, ap, subst, inl, inr, arith}
use Rattle.std.proofs.lemmas.List.{take_all}
use Rattle.std.specs.Prelude.{IfSome, IsSome, Result, Err}
use Rattle.std.specs.Option.{ok_or, option_map, option_and_then}
use Rattle.std.specs.FinMap.{get}
use Rattle.su_bytes.specs.Place.{Place}
use Rattle.su_bytes.specs.Principal.{is_user}
use Rattle.su_bytes.specs.declared.file_ids.FileId.{FileId}
use Rattle.su_bytes.specs.declared.file_ids.FileId.TheVariants.{User, Group}
use Rattle.su_bytes.specs.declared.refusals.Refusal.{Refusal}
use Rattle.su_bytes.specs.declared.refusals.Refusal.TheVariants.{NoFile, WrongKind}
use Rattle.su_part_tree.specs.Loading.{IsLoadRefusal}
use Rattle.su_node.specs.Inode.{Inode, Content, Content.Bytes, Content.Names, bytes_of, size_of, within}
use Rattle.su_table.specs.Tree.{Tree}
use Rattle.su_table.specs.Query.{body, contents, contents_within, home_body, is_nothing, is_pointer_free, part, pointer_body, standing, standing_at}
use Rattle.su_part.specs.Fetches.{HasWantedAt}
use Rattle.su_part.specs.Part.{HasAll, HasInode, MeantAt, StandsInode, StandsJust, StandsUser, at_number}
use Rattle.su_part.specs.Seen.{loaded_inodes}
use Rattle.su_part.specs.declared.fetches.Wanted.{Wanted}
use Rattle.su_part.specs.declared.fetches.Wanted.TheVariants.{Nothing}
use Rattle.su_part.specs.declared.inodes.PartInode.{PartInode}
use Rattle.su_part.specs.declared.users.UserPart.{UserPart}
use Rattle.su_part.proofs.UserLemmas.{all_on}
use Rattle.su_part_forest.specs.Forest.{IsPart, IsThereAt, HasInodeAt, Stands, user_part, group_part}
use Rattle.su_part_forest.specs.Loading.{HasAt, IsKept, KeepsLoaded, KeepsPointers}
use Rattle.su_part_forest.specs.Reading.{HasHomeOf, load_answer}
use Rattle.su_part_forest.specs.Seen.{seen}
use Rattle.su_part_forest.specs.declared.forests.PartForest.{PartForest}
use Rattle.su_part_forest.proofs.Bridge.{kind_seen, pointer_seen}

-- ---- one load after another

is_kept_on : {X : Type 0} (K : X → X → Type 0) → ((a b c : X) → K a b → K b c → K a c) → (o r w : Option X) → IsKept K o r → IsKept K r w → IsKept K o w
is_kept_on K on None r w h k = tt
is_kept_on K on (Some p) None w h k = absurd h
is_kept_on K on (Some p) (Some q) None h k = absurd k
is_kept_on K on (Some p) (Some q) (Some r) h k = on p q r h k

pub kept_on : (f g j : PartForest) → KeepsLoaded f g → KeepsLoaded g j → KeepsLoaded f j
kept_on f g j h k = record {
  users = λ u. is_kept_on HasAll all_on (user_part u f) (user_part u g) (user_part u j) (h.users u) (k.users u);
  groups = λ n. is_kept_on KeepsPointers (λ a b c x y i has. y i (x i has)) (group_part n f) (group_part n g) (group_part n j) (h.groups n) (k.groups n);
}

-- ---- what was loaded at a place

pub inode_loaded : (f : PartForest) (p : Place) (w : Wanted) → HasAt p w f → HasInodeAt p f
inode_loaded f p w has = go (user_part p.0 f) has
  where
    go : (o : Option UserPart) → IfSome o (HasWantedAt p.1 w) → IfSome o (HasInode p.1)
    go None h = tt
    go (Some q) h = h.inode

-- it is there in each tree
pub there_loaded : (f : PartForest) (T : Tree) → Stands f T → (p : Place) (w : Wanted) → HasAt p w f → IsThereAt p T f
there_loaded f T h p w has = go (is_user p.0) (user_part p.0 f) (h.users p.0) (h.no_user p.0 p.1) has
  where
    go : (b : Bool) (o : Option UserPart) → IsPart (λ r. StandsUser p.0 r T) b o → (b ≡ false → get T.inodes (p.0, p.1) ≡ None) → IfSome o (HasWantedAt p.1 w)
        → get T.inodes (p.0, p.1) ≢ None → IsSome (option_and_then (λ r. at_number (loaded_inodes r) p.1) o)
    go true None s none h = absurd s
    go true (Some r) s none h = h.inode.there p.0 T s
    go false None s none h = λ some. absurd (some (none refl))
    go false (Some r) s none h = absurd (let z : Some r ≡ None = s in cc)

pub just_some : (o : Option Inode) (p : PartInode) → StandsJust (Some p) o → (i : Inode) × (o ≡ Some i) × StandsInode p i
just_some None p h = absurd h
just_some (Some i) p h = (i, refl, h)

-- ---- where files stand

pub body_seen : (f : PartForest) (T : Tree) → Stands f T → (file : FileId) → HasHomeOf file f → body (seen f) file ≡ body T file
unfolding body
body_seen f T h (User u i) has = ap (λ v. home_body v (User u i) (u, i)) (kind_seen f T h (u, i) (inode_loaded f (u, i) Nothing has))
body_seen f T h (Group g k) has = ap pointer_body (pointer_seen f T h (g, k) has)

pub pointer_free_seen : (f : PartForest) (T : Tree) → Stands f T → (g k : ℕ) → HasHomeOf (Group g k) f → is_pointer_free (seen f) (Group g k) ≡ is_pointer_free T (Group g k)
pointer_free_seen f T h g k has = ap is_nothing (pointer_seen f T h (g, k) has)

-- ---- reads of files

module _ {X : Type 0} (T : Tree) (file : FileId) where
  -- what an inode has, where the file has a body
  pub part_at : (of : Option Inode → Option X) → of None ≡ None → (p : Place) → Some p ≡ body T file → part (λ i. of (Some i)) file (standing T file) ≡ ok_or (of (get T.inodes p)) (WrongKind file)
  unfolding standing
  part_at of none p is = ap (λ o. part (λ i. of (Some i)) file (standing_at T file o)) (sym is) ∙ go (get T.inodes p)
    where
      go : (o : Option Inode) → part (λ i. of (Some i)) file (ok_or o (WrongKind file)) ≡ ok_or (of o) (WrongKind file)
      go None = sym (ap (λ x. ok_or x (WrongKind file)) none)
      go (Some i) = refl

  pub part_none : (of : Inode → Option X) → None ≡ body T file → part of file (standing T file) ≡ Err (NoFile file)
  unfolding standing
  part_none of is = ap (λ o. part of file (standing_at T file o)) (sym is)

-- a refusal of a load is one of the read
pub load_refused : {A : Type 0} (r : Result A Refusal) (e : Refusal) → r ≡ Err e → IsLoadRefusal e → load_answer r ≡ Err e
load_refused r e is (inl h) = subst (λ x. x ≡ Err e) (ap load_answer (sym is)) (rw h refl)
load_refused r e is (inr (inl h)) = subst (λ x. x ≡ Err e) (ap load_answer (sym is)) (rw h refl)
load_refused r e is (inr (inr (inl h))) = subst (λ x. x ≡ Err e) (ap load_answer (sym is)) (rw h refl)
load_refused r e is (inr (inr (inr (inl h)))) = subst (λ x. x ≡ Err e) (ap load_answer (sym is)) (rw h refl)
load_refused r e is (inr (inr (inr (inr h)))) = subst (λ x. x ≡ Err e) (ap load_answer (sym is)) (rw h refl)

-- ---- all bytes

-- a file that a user's part stands for is not longer than a range may be
short_bytes : (o : Option Inode) → MeantAt o → option_map (within 0 18446744073709551615) (bytes_of o) ≡ bytes_of o
short_bytes None m = refl
short_bytes (Some i) m = go i.content m.size
  where
    go : (c : Content) → size_of c < 2 ^ 32 → option_map (within 0 18446744073709551615) (elim c [ Bytes bs ↦ Some bs | Names x ↦ None ]) ≡ elim c [ Bytes bs ↦ Some bs | Names x ↦ None ]
    go (Bytes bs) lt = ap Some (take_all 18446744073709551615 bs (omega (arith, lt)))
    go (Names x) lt = refl

pub all_bytes : (f : PartForest) (T : Tree) → Stands f T → (p : Place) → option_map (within 0 18446744073709551615) (bytes_of (get T.inodes p)) ≡ bytes_of (get T.inodes p)
all_bytes f T h p = go (is_user p.0) (user_part p.0 f) (h.users p.0) (h.no_user p.0 p.1)
  where
    go : (b : Bool) (o : Option UserPart) → IsPart (λ r. StandsUser p.0 r T) b o → (b ≡ false → get T.inodes (p.0, p.1) ≡ None)
        → option_map (within 0 18446744073709551615) (bytes_of (get T.inodes (p.0, p.1))) ≡ bytes_of (get T.inodes (p.0, p.1))
    go true None s none = absurd s
    go true (Some r) s none = short_bytes (get T.inodes (p.0, p.1)) (s.meant p.1)
    go false o s none = rw (none refl) refl

-- the bytes of a file are those within the longest range
pub whole_contents : (f : PartForest) (T : Tree) → Stands f T → (file : FileId) → contents_within T file 0 18446744073709551615 ≡ contents T file
unfolding standing
whole_contents f T h file = go (body T file)
  where
    inside : (p : Place) (o : Option Inode) → option_map (within 0 18446744073709551615) (bytes_of o) ≡ bytes_of o
        → part (λ i. option_map (within 0 18446744073709551615) (bytes_of (Some i))) file (ok_or o (WrongKind file)) ≡ part (λ i. bytes_of (Some i)) file (ok_or o (WrongKind file))
    inside p None same = refl
    inside p (Some i) same = ap (λ x. ok_or x (WrongKind file)) same

    go : (o : Option Place) → part (λ i. option_map (within 0 18446744073709551615) (bytes_of (Some i))) file (standing_at T file o) ≡ part (λ i. bytes_of (Some i)) file (standing_at T file o)
    go None = refl
    go (Some p) = inside p (get T.inodes p) (all_bytes f T h p)
