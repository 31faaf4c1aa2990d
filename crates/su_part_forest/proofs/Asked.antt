-- What is asked of an inode that is loaded in a sound forest.
use Rattle.std.proofs.Common.{◌≡◌, ◌∙◌, ◌<◌, ◌≤◌, ℕ, Bool, true, false, not, ◌≢◌, Bor, List, [], ◌∷◌, zero, suc, length, Option, Some, None, refl, sym, ap, subst, arith, slice_index_or}
use Rattle.std.specs.Prelude.{slice_get, is_some, IsSome}
use Rattle.std.specs.Slice.{IsItemAt}
use Rattle.std.specs.Option.{option_map, option_copied, option_and_then}
use Rattle.su_part.proofs.UserLemmas.{taken_out}
use Rattle.std.specs.FinMap.{get}
use Rattle.su_bytes.specs.Principal.{is_user}
use Rattle.su_bytes.specs.Place.{Place}
use Rattle.su_node.specs.Inode.{Inode, has_no_names}
use Rattle.su_node.specs.Field.{Field, Field.KindOf, Field.LinksOf, Field.SizeOf, field_value}
use Rattle.su_table.specs.Tree.{Tree}
use Rattle.su_table.specs.Cell.{Cell.At, val}
use Rattle.su_table.specs.Query.{is_bare_at}
use Rattle.su_part.specs.declared.inodes.PartInode.{PartInode}
use Rattle.su_part.specs.declared.users.UserPart.{UserPart}
use Rattle.su_part.specs.Part.{StandsAt, StandsInode, StandsJust, StandsUser, at_number}
use Rattle.su_part.specs.Seen.{seen_inode, loaded_inodes}
use Rattle.su_part.proofs.SeenLemmas.{seen_kind, seen_links, seen_size}
use Rattle.su_part_forest.specs.declared.forests.PartForest.{PartForest}
use Rattle.su_part_forest.specs.Forest.{Stands, IsSound, IsPart, IsThereAt, loaded_inode, user_part}
use Rattle.su_part_forest.specs.Seen.{seen}
use Rattle.su_part_forest.proofs.Seeing.{seen_inodes}

-- what is loaded stands for some inode
pub loaded_stands : (f : PartForest) → IsSound f → (p : Place) (q : PartInode) → Some q ≡ loaded_inode p f → (i : Inode) × StandsInode q i
loaded_stands f sound p q found = go (is_user p.0) (user_part p.0 f) (sound.1.users p.0) found
  where
    here : (a : Option PartInode) (o : Option Inode) → StandsAt a o → Some q ≡ a → (i : Inode) × StandsInode q i
    here None o s e = absurd cc
    here (Some i) None s e = absurd s
    here (Some i) (Some k) s e = let same : i ≡ q = cc in (k, subst (λ x. StandsInode x k) same s)

    go : (b : Bool) (o : Option UserPart) → IsPart (λ r. StandsUser p.0 r sound.0) b o → Some q ≡ option_and_then (λ r. at_number (loaded_inodes r) p.1) o → (i : Inode) × StandsInode q i
    go true None s e = absurd s
    go true (Some r) s e = here (at_number r.inodes.entries p.1) (get sound.0.inodes (p.0, p.1)) (s.inodes p.1) e
    go false None s e = absurd cc
    go false (Some r) s e = absurd (let z : Some r ≡ None = s in cc)

-- the cells that are seen
pub cell_seen : (f : PartForest) (p : Place) (field : Field) (o : Option PartInode) → o ≡ loaded_inode p f → val (seen f) (At p field) ≡ field_value (option_map seen_inode o) field
unfolding val
cell_seen f p field o found = ap (λ x. field_value x field) (seen_inodes f p ∙ ap (option_map seen_inode) (sym found))

pub bare_is : (f : PartForest) (p : Place) (o : Option PartInode) → o ≡ loaded_inode p f → is_bare_at (seen f) p ≡ has_no_names (option_map seen_inode o)
unfolding is_bare_at
bare_is f p o found = ap has_no_names (seen_inodes f p ∙ ap (option_map seen_inode) (sym found))

module _ (f : PartForest) (p : Place) (q : PartInode) (found : Some q ≡ loaded_inode p f) (i : Inode) (stands : StandsInode q i) where
  pub kind_is : val (seen f) (At p KindOf) ≡ field_value (Some i) KindOf
  kind_is = cell_seen f p KindOf (Some q) found ∙ seen_kind q i stands

  pub links_is : val (seen f) (At p LinksOf) ≡ field_value (Some i) LinksOf
  links_is = cell_seen f p LinksOf (Some q) found ∙ seen_links q i stands

  pub size_is : val (seen f) (At p SizeOf) ≡ field_value (Some i) SizeOf
  size_is = cell_seen f p SizeOf (Some q) found ∙ seen_size q i stands

-- what is loaded stands for just what is there, where what is there is loaded
pub just_there : (f : PartForest) (T : Tree) → Stands f T → (p : Place) → IsThereAt p T f → StandsJust (loaded_inode p f) (get T.inodes p)
just_there f T h p there = go (is_user p.0) (user_part p.0 f) (h.users p.0) (h.no_user p.0 p.1) there
  where
    go : (b : Bool) (o : Option UserPart) → IsPart (λ r. StandsUser p.0 r T) b o → (b ≡ false → get T.inodes (p.0, p.1) ≡ None)
        → (get T.inodes (p.0, p.1) ≢ None → IsSome (option_and_then (λ r. at_number (loaded_inodes r) p.1) o))
        → StandsJust (option_and_then (λ r. at_number (loaded_inodes r) p.1) o) (get T.inodes (p.0, p.1))
    go true None s none there = absurd s
    go true (Some r) s none there = taken_out (get T.inodes (p.0, p.1)) (at_number r.inodes.entries p.1) (s.inodes p.1) there
    go false None s none there = none refl
    go false (Some r) s none there = absurd (let z : Some r ≡ None = s in cc)

pub still_some : (o : Option (Bor PartInode)) → is_some (option_map seen_inode (option_copied o)) ≡ is_some o
still_some None = refl
still_some (Some i) = refl

pub is_none-is : (b : Bool) (d : Bool) → d ≡ not b → b ≡ not d
is_none-is true d e = ap not (sym e)
is_none-is false d e = ap not (sym e)

-- ---- the parts of a sound forest

module _ {X : Type 0} where
  pub part_got : (xs : List X) (n : ℕ) (x : X) → n < length xs → x ≡ slice_index_or xs n x → Some x ≡ slice_get xs n
  part_got [] n x within is = absurd (omega (arith, within))
  part_got (y ∷ xs) zero x within is = ap Some is
  part_got (y ∷ xs) (suc n) x within is = part_got xs n x (omega (arith, within)) is

  pub no_part : (xs : List X) (n : ℕ) → length xs ≤ n → None ≡ slice_get xs n
  no_part [] n past = refl
  no_part (y ∷ xs) zero past = absurd (omega (arith, past))
  no_part (y ∷ xs) (suc n) past = no_part xs n (omega (arith, past))

  -- a part that was got by its number
  pub got_part : (xs : List X) (n : ℕ) (o : Option (Bor X)) → IsItemAt xs n o → option_copied o ≡ slice_get xs n
  got_part xs n None h = no_part xs n h.3
  got_part xs n (Some x) h = part_got xs n x.now h.3.0 (h.3.1 x.now)

  pub part_is : (P : X → Type 0) (b : Bool) (o : Option X) (x : X) → Some x ≡ o → IsPart P b o → P x
  part_is P true None x e h = absurd h
  part_is P true (Some y) x e h = let same : y ≡ x = cc in subst P same h
  part_is P false o x e h = absurd (let z : Some x ≡ None = e ∙ h in cc)

  -- where there is no part there can be none
  pub missing : (P : X → Type 0) (b : Bool) (o : Option X) → None ≡ o → IsPart P b o → b ≡ false
  missing P true o e h = absurd (subst (IsPart P true) (sym e) h)
  missing P false o e h = refl
