-- What is read of a forest is what a tree has for which it stands, where enough is loaded.
use Rattle.std.proofs.Common.{◌≡◌, ◌≢◌, ℕ, ◌+◌, ◌*◌, ◌<◌, ◌^◌, zero, suc, Bool, true, false, List, [], ◌∷◌, get_or, length, Option, Some, None, refl, sym, ap, subst, arith}
use Rattle.std.specs.Prelude.{IfSome, IsSome}
use Rattle.std.specs.Option.{option_and_then}
use Rattle.std.specs.FinMap.{get}
use Rattle.su_bytes.specs.Principal.{is_user}
use Rattle.su_bytes.specs.Place.{Place}
use Rattle.su_node.specs.Inode.{Inode, Content, Content.Bytes, Content.Names, size_of}
use Rattle.su_node.specs.Name.{Name}
use Rattle.su_node.specs.Field.{Field.KindOf, Field.LinksOf, Field.SizeOf, Value.Nothing, Value.ANumber, field_value}
use Rattle.su_table.specs.Cell.{Cell.At, val}
use Rattle.su_table.specs.Query.{is_nothing, is_free_at}
use Rattle.su_table.specs.Tree.{Tree}
use Rattle.su_op.specs.declared.areas.Area.{Area}
use Rattle.su_op.specs.declared.areas.BlockRun.{BlockRun}
use Rattle.su_part.specs.Fetches.{HasWanted, HasWantedAt}
use Rattle.su_part.specs.Item.{MeantInode}
use Rattle.su_part.specs.Part.{HasBlocksIn, HasBytesIn, HasInode, HasNameAt as HasNameOf, IsOpenAt, IsThere, MeantAt, StandsContent, StandsInode, StandsJust, StandsUser, at_number}
use Rattle.su_part.specs.Seen.{loaded_inodes}
use Rattle.su_part.specs.declared.fetches.Wanted.{Wanted}
use Rattle.su_part.specs.declared.fetches.Wanted.TheVariants.{Name as WantedName}
use Rattle.su_part.specs.declared.inodes.PartContent.{PartContent}
use Rattle.su_part.specs.declared.inodes.PartContent.TheVariants.{Bytes as LoadedBytes, Names as LoadedNames}
use Rattle.su_part.specs.declared.inodes.PartInode.{PartInode}
use Rattle.su_part.specs.declared.users.UserPart.{UserPart}
use Rattle.su_part.proofs.FreshLemmas.{known_inode}
use Rattle.su_part_forest.specs.Forest.{Stands, IsPart, IsThereAt, HasInodeAt, HasNameAt, user_part}
use Rattle.su_part_forest.specs.Loading.{HasAt}
use Rattle.su_part_forest.specs.declared.forests.PartForest.{PartForest}
use Rattle.su_part_forest.proofs.Asked.{part_is}
use Rattle.su_perform.specs.Loaded.{OpenAt, HasArea, HasAreas, end_of}

-- ---- areas

pub area_at : (T : Tree) (f : PartForest) (w : List Area) (i : ℕ) (d : Area) → i < length w → HasAreas T f w → HasArea T f (get_or w i d)
area_at T f [] i d lt has = absurd (omega (arith, lt))
area_at T f (a ∷ w) zero d lt (here, more) = here
area_at T f (a ∷ w) (suc i) d lt (here, more) = area_at T f w i d (omega (arith, lt)) more

-- ---- of a place

module _ (f : PartForest) (T : Tree) (h : Stands f T) (p : Place) where
  -- the part of its user stands for what the user has
  pub user_stands : (q : UserPart) → user_part p.0 f ≡ Some q → StandsUser p.0 q T
  user_stands q is = part_is (λ r. StandsUser p.0 r T) (is_user p.0) (user_part p.0 f) q (sym is) (h.users p.0)

  pub meant_at : MeantAt (get T.inodes p)
  meant_at = go (is_user p.0) refl (user_part p.0 f) (h.users p.0)
    where
      go : (b : Bool) → is_user p.0 ≡ b → (o : Option UserPart) → IsPart (λ r. StandsUser p.0 r T) b o → MeantAt (get T.inodes p)
      go true e None s = absurd s
      go true e (Some r) s = s.meant p.1
      go false e o s = subst MeantAt (sym (h.no_user p.0 p.1 e)) tt

  -- what is wanted is loaded where it is open
  pub open_has : (w : Wanted) → OpenAt T p w f → HasAt p w f
  open_has w opens = go (user_part p.0 f) refl opens
    where
      go : (o : Option UserPart) → user_part p.0 f ≡ o → IfSome o (λ q. IsOpenAt p.1 (HasWanted w) q × IsThere p.0 T p.1 q) → IfSome o (HasWantedAt p.1 w)
      go None is opens = tt
      go (Some q) is (open', there) = record { inode = known_inode p.1 q open'.path p.0 T (user_stands q is) there; part = open'.part }

  pub open_inode : (w : Wanted) → OpenAt T p w f → HasInodeAt p f
  open_inode w opens = go (user_part p.0 f) (open_has w opens)
    where
      go : (o : Option UserPart) → IfSome o (HasWantedAt p.1 w) → IfSome o (HasInode p.1)
      go None has = tt
      go (Some q) has = has.inode

  pub open_name : (x : Name) → OpenAt T p (WantedName x) f → HasNameAt p x f
  open_name x opens = go (user_part p.0 f) (open_has (WantedName x) opens)
    where
      go : (o : Option UserPart) → IfSome o (HasWantedAt p.1 (WantedName x)) → IfSome o (HasNameOf p.1 x)
      go None has = tt
      go (Some q) has = record { inode = has.inode; part = has.part }

  -- what is loaded there is all that there is
  pub there_at : HasInodeAt p f → IsThereAt p T f
  there_at has = go (user_part p.0 f) refl has (h.users p.0) (h.no_user p.0 p.1)
    where
      go : (o : Option UserPart) → user_part p.0 f ≡ o → IfSome o (HasInode p.1) → IsPart (λ r. StandsUser p.0 r T) (is_user p.0) o → (is_user p.0 ≡ false → get T.inodes (p.0, p.1) ≡ None)
          → get T.inodes p ≢ None → IsSome (option_and_then (λ q. at_number (loaded_inodes q) p.1) o)
      go None is has s none some = absurd (some (none (missing (is_user p.0) s)))
        where
          missing : (b : Bool) → IsPart (λ r. StandsUser p.0 r T) b None → b ≡ false
          missing true s = absurd s
          missing false s = refl
      go (Some q) is has s none some = has.there p.0 T (user_stands q is) some

-- ---- of an inode that stands there

-- a copy stands there as well
pub just_copied : (q c : PartInode) (o : Option Inode) → ((i : Inode) → StandsInode q i → StandsInode c i) → StandsJust (Some q) o → StandsJust (Some c) o
just_copied q c None copied s = absurd s
just_copied q c (Some i) copied s = copied i s

pub links_held : (T : Tree) (p : Place) (q : PartInode) (n : ℕ) → StandsJust (Some q) (get T.inodes p) → ((i : Inode) → StandsInode q i → n ≡ i.links) → val T (At p LinksOf) ≡ ANumber n
unfolding val
links_held T p q n s is = go (get T.inodes p) s
  where
    go : (o : Option Inode) → StandsJust (Some q) o → field_value o LinksOf ≡ ANumber n
    go None s = absurd s
    go (Some i) s = ap ANumber (sym (is i s))

pub size_held : (T : Tree) (p : Place) (q : PartInode) (n : ℕ) → StandsJust (Some q) (get T.inodes p) → ((i : Inode) → StandsInode q i → n ≡ size_of i.content) → val T (At p SizeOf) ≡ ANumber n
unfolding val
size_held T p q n s is = go (get T.inodes p) s
  where
    go : (o : Option Inode) → StandsJust (Some q) o → field_value o SizeOf ≡ ANumber n
    go None s = absurd s
    go (Some i) s = ap ANumber (sym (is i s))

pub free_held : (T : Tree) (p : Place) → is_free_at T p ≡ true → val T (At p KindOf) ≡ Nothing
unfolding val
free_held T p e = go (get T.inodes p) e
  where
    go : (o : Option Inode) → is_nothing (field_value o KindOf) ≡ true → field_value o KindOf ≡ Nothing
    go None e = refl
    go (Some i) e = absurd (let z : false ≡ true = e in cc)

-- an inode that stands there
pub just_there : (q : PartInode) (o : Option Inode) → StandsJust (Some q) o → (i : Inode) × (o ≡ Some i) × StandsInode q i
just_there q None s = absurd s
just_there q (Some i) s = (i, refl, s)

-- the bytes of a run of blocks are loaded where the blocks are
pub run_bytes : (r : BlockRun) (q : PartInode) (i : Inode) → StandsInode q i → MeantInode i → HasBlocksIn r.first (end_of r) q.content → HasBytesIn (4096 * r.first) (4096 * (r.more + 1)) q.content
run_bytes r q i s meant has = go q.content i.content s.content meant.size has
  where
    go : (c : PartContent) (d : Content) → StandsContent c d → size_of d < 2 ^ 32 → HasBlocksIn r.first (end_of r) c → HasBytesIn (4096 * r.first) (4096 * (r.more + 1)) c
    go (LoadedNames t) d s small has = tt
    go (LoadedBytes b) (Names m) s small has = absurd s
    go (LoadedBytes b) (Bytes bs) s small has = λ n low high within. let is = s.size in (has n (omega (arith, low)) (omega (arith, high, within, small, is))).there within
