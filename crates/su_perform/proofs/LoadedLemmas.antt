-- What is loaded stays so, and is seen as it stands in the tree.
use Rattle.std.proofs.Common.{◌≡◌, ◌≢◌, ◌∙◌, ℕ, Bool, true, false, ◌||◌, List, [], ◌∷◌, ◌++◌, Option, Some, None, refl, sym, ap, subst}
use Rattle.std.specs.Prelude.{IfSome, IfOk, IfErr, IsSome, Result, Ok, Err, ⊤}
use Rattle.su_bytes.specs.Membership.{Membership}
use Rattle.su_bytes.specs.declared.refusals.Refusal.{Refusal}
use Rattle.su_op.specs.Action.{Action}
use Rattle.su_op.specs.Operation.{why}
use Rattle.su_asked.proofs.AskedLemmas.{refusals_are_local}
use Rattle.std.specs.Option.{option_map, option_and_then}
use Rattle.std.specs.FinMap.{get}
use Rattle.std.proofs.lemmas.Bool.{and_parts}
use Rattle.su_bytes.specs.Principal.{is_user, is_group}
use Rattle.su_group_part.specs.Part.{HasPointer, StandsGroup}
use Rattle.su_group_part.specs.declared.groups.GroupPart.{GroupPart}
use Rattle.su_bytes.specs.Place.{Place, GroupFile, place_eq}
use Rattle.su_bytes.specs.declared.file_ids.FileId.{FileId}
use Rattle.su_bytes.specs.declared.file_ids.FileId.TheVariants.{User, Group}
use Rattle.su_node.specs.Name.{Name}
use Rattle.su_node.specs.Inode.{Inode, has_no_names}
use Rattle.su_node.specs.Field.{Field, Field.KindOf, Field.LinksOf, Field.SizeOf, Field.NameOf, field_value}
use Rattle.su_table.specs.Tree.{Tree}
use Rattle.su_table.specs.Cell.{Cell, Cell.At, Cell.Pointer, val}
use Rattle.su_table.specs.Query.{body, is_bare_at}
use Rattle.su_op.specs.Area.{in_area, in_part, has}
use Rattle.su_op.specs.declared.areas.Part.{Part}
use Rattle.su_op.specs.declared.areas.Part.TheVariants.{Kind as KindPart, Links as LinksPart, Size as SizePart, Name as NamePart, Blocks as BlocksPart, Whole as WholePart}
use Rattle.su_op.specs.declared.areas.Area.{Area}
use Rattle.su_op.specs.declared.areas.Area.TheVariants.{Inode as InodeArea, Pointer as PointerArea}
use Rattle.su_op.proofs.Public.{place_eq-same, name_eq-same}
use Rattle.su_part.specs.declared.inodes.PartInode.{PartInode}
use Rattle.su_part.specs.declared.inodes.PartContent.{PartContent}
use Rattle.su_part.specs.declared.inodes.PartContent.TheVariants.{Bytes as LoadedBytes, Names as LoadedNames}
use Rattle.su_part.specs.declared.fetches.Wanted.{Wanted}
use Rattle.su_part.specs.declared.fetches.Wanted.TheVariants.{Nothing, Name as WantedName}
use Rattle.su_part.specs.declared.users.UserPart.{UserPart}
use Rattle.su_part.specs.Fetches.{HasWanted, HasWantedIn, HasWantedAt}
use Rattle.su_part.specs.Bytes.{NoneClash}
use Rattle.su_part.specs.Part.{HasAll, HasAllIn, HasAllOf, IfLoaded, IsOpenAt, IsThere, StandsAt, StandsInode, StandsUser, at_number}
use Rattle.su_part.specs.Seen.{seen_inode, loaded_inodes}
use Rattle.su_part.proofs.Public.{there_on}
use Rattle.su_part.proofs.UserLemmas.{all_on}
use Rattle.su_part.proofs.SeenLemmas.{seen_kind, seen_links, seen_size, seen_name, seen_bare}
use Rattle.su_part_forest.proofs.Reading.{kept_on}
use Rattle.su_part_forest.specs.Forest.{Stands, IsPart, HasPointerAt, user_part, group_part}
use Rattle.su_part_forest.specs.Loading.{HasAt, IsKept, KeepsLoaded, KeepsPointers}
use Rattle.su_part_forest.specs.Seen.{seen}
use Rattle.su_part_forest.specs.declared.forests.PartForest.{PartForest}
use Rattle.su_part_forest.proofs.Asked.{part_is}
use Rattle.su_part_forest.proofs.Public.{seen_inodes, pointer_seen}
use Rattle.su_op.specs.declared.operations.Op.{Op}
use Rattle.su_op.specs.declared.operations.Op.TheVariants as op
use Rattle.su_asked.specs.Asked.{AgreeIn, SameBare, asked, asked_first, asked_then, at_body, files_named, home_areas, homes, kind_of, leaving, linked, named, own_place, pointer_of, sized}
use Rattle.su_perform.specs.Loaded.{OpenAt, HasArea, HasAreas, wanted_for}

-- ---- what was loaded is open

pub open_of : (f : PartForest) (T : Tree) → Stands f T → (p : Place) (w : Wanted) → HasAt p w f → OpenAt T p w f
open_of f T h p w has = go (user_part p.0 f) (h.users p.0) has
  where
    go : (o : Option UserPart) → IsPart (λ q. StandsUser p.0 q T) (is_user p.0) o → IfSome o (HasWantedAt p.1 w) → IfSome o (λ q. IsOpenAt p.1 (HasWanted w) q × IsThere p.0 T p.1 q)
    go None s has = tt
    go (Some q) s has =
        let stands = part_is (λ r. StandsUser p.0 r T) (is_user p.0) (Some q) q refl s in
        (record { path = has.inode.path; part = has.part }, has.inode.there p.0 T stands)

-- of a content so much is loaded as of another one
wanted_on : (a : Part) (c d : PartContent) → HasAllIn c d → HasWantedIn (wanted_for a) c → HasWantedIn (wanted_for a) d
wanted_on KindPart c d all has = tt
wanted_on LinksPart c d all has = tt
wanted_on SizePart c d all has = tt
wanted_on WholePart c d all has = tt
wanted_on (NamePart x) (LoadedNames t) (LoadedNames v) all has = all x has
wanted_on (NamePart x) (LoadedBytes b) (LoadedBytes c) all has = tt
wanted_on (NamePart x) (LoadedNames t) (LoadedBytes c) all has = absurd all
wanted_on (NamePart x) (LoadedBytes b) (LoadedNames v) all has = absurd all
wanted_on (BlocksPart r) (LoadedNames t) (LoadedNames v) all has = tt
wanted_on (BlocksPart r) (LoadedBytes b) (LoadedBytes c) all has = λ n low high. all.blocks n (has n low high)
wanted_on (BlocksPart r) (LoadedNames t) (LoadedBytes c) all has = absurd all
wanted_on (BlocksPart r) (LoadedBytes b) (LoadedNames v) all has = absurd all

loaded_on : (a : Part) (o r : Option PartInode) (k : Option Inode) → HasAllOf o r → StandsAt r k → (k ≢ None → IsSome o) → IfLoaded (HasWanted (wanted_for a)) o → IfLoaded (HasWanted (wanted_for a)) r
loaded_on a None None k all s there has = tt
loaded_on a None (Some j) None all s there has = absurd s
loaded_on a None (Some j) (Some i) all s there has = absurd (let z : false ≡ true = there (λ e. absurd cc) in cc)
loaded_on a (Some i) None k all s there has = absurd all
loaded_on a (Some i) (Some j) k all s there has = wanted_on a i.content j.content all has

pub open_on : (f g : PartForest) (T : Tree) → KeepsLoaded f g → Stands f T → Stands g T → (p : Place) (a : Part) → OpenAt T p (wanted_for a) f → OpenAt T p (wanted_for a) g
open_on f g T keeps before h p a opens = go (is_user p.0) (user_part p.0 f) (user_part p.0 g) (keeps.users p.0) (before.users p.0) (h.users p.0) opens
  where
    go : (b : Bool) (o r : Option UserPart) → IsKept HasAll o r → IsPart (λ q. StandsUser p.0 q T) b o → IsPart (λ q. StandsUser p.0 q T) b r
        → IfSome o (λ q. IsOpenAt p.1 (HasWanted (wanted_for a)) q × IsThere p.0 T p.1 q) → IfSome r (λ q. IsOpenAt p.1 (HasWanted (wanted_for a)) q × IsThere p.0 T p.1 q)
    go b o None kept was s opens = tt
    go true None (Some r) kept was s opens = absurd was
    go false None (Some r) kept was s opens = absurd (let z : Some r ≡ None = s in cc)
    go false (Some q) (Some r) kept was s opens = absurd (let z : Some r ≡ None = s in cc)
    go true (Some q) (Some r) kept was s (opens, there) = (
      record {
        path = kept.paths p.1 opens.path;
        part = loaded_on a (at_number q.inodes.entries p.1) (at_number r.inodes.entries p.1) (get T.inodes (p.0, p.1)) (kept.inodes p.1) (s.inodes p.1) there opens.part;
      },
      there_on p.0 T p.1 q r kept there,
    )

-- pointers

pub pointer_on : (f g : PartForest) (T : Tree) → KeepsLoaded f g → Stands f T → Stands g T → (k : GroupFile) → HasPointerAt k f → HasPointerAt k g
pointer_on f g T keeps before h k has = go (is_group k.0) (group_part k.0 f) (group_part k.0 g) (keeps.groups k.0) (before.groups k.0) (h.groups k.0) has
  where
    go : (b : Bool) (o r : Option GroupPart) → IsKept KeepsPointers o r → IsPart (λ q. StandsGroup k.0 q T) b o → IsPart (λ q. StandsGroup k.0 q T) b r → IfSome o (HasPointer k.1) → IfSome r (HasPointer k.1)
    go b o None kept was s has = tt
    go true None (Some r) kept was s has = absurd was
    go false None (Some r) kept was s has = absurd (let z : Some r ≡ None = s in cc)
    go false (Some q) (Some r) kept was s has = absurd (let z : Some r ≡ None = s in cc)
    go true (Some q) (Some r) kept was s has = kept k.1 has

area_on : (f g : PartForest) (T : Tree) → KeepsLoaded f g → Stands f T → Stands g T → (a : Area) → HasArea T f a → HasArea T g a
area_on f g T keeps before h (InodeArea p a) has = open_on f g T keeps before h p a has
area_on f g T keeps before h (PointerArea k) has = pointer_on f g T keeps before h k has

pub areas_on : (f g : PartForest) (T : Tree) → KeepsLoaded f g → Stands f T → Stands g T → (w : List Area) → HasAreas T f w → HasAreas T g w
areas_on f g T keeps before h [] has = tt
areas_on f g T keeps before h (a ∷ w) (has, more) = (area_on f g T keeps before h a has, areas_on f g T keeps before h w more)

pub areas_joined : (f : PartForest) (T : Tree) (u w : List Area) → HasAreas T f u → HasAreas T f w → HasAreas T f (u ++ w)
areas_joined f T [] w has more = more
areas_joined f T (a ∷ u) w (has, rest) more = (has, areas_joined f T u w rest more)

pub areas_left : (f : PartForest) (T : Tree) (u w : List Area) → HasAreas T f (u ++ w) → HasAreas T f u
areas_left f T [] w has = tt
areas_left f T (a ∷ u) w (has, rest) = (has, areas_left f T u w rest)

pub areas_right : (f : PartForest) (T : Tree) (u w : List Area) → HasAreas T f (u ++ w) → HasAreas T f w
areas_right f T [] w has = has
areas_right f T (a ∷ u) w (has, rest) = areas_right f T u w rest

-- ---- what is open is seen as it stands in the tree

module _ {V : Type 0} (v : Option Inode → V) (w : Wanted) (same : (i : PartInode) (k : Inode) → StandsInode i k → HasWanted w i → v (Some (seen_inode i)) ≡ v (Some k)) where
  seen_here : (a : Option PartInode) (o : Option Inode) → StandsAt a o → IfLoaded (HasWanted w) a → (o ≢ None → IsSome a) → v (option_map seen_inode a) ≡ v o
  seen_here None None s has there = refl
  seen_here None (Some k) s has there = absurd (let z : false ≡ true = there (λ e. absurd cc) in cc)
  seen_here (Some i) None s has there = absurd s
  seen_here (Some i) (Some k) s has there = same i k s has

  seen_open : (f : PartForest) (T : Tree) → Stands f T → (p : Place) → OpenAt T p w f → v (get (seen f).inodes p) ≡ v (get T.inodes p)
  seen_open f T h p opens = ap v (seen_inodes f p) ∙ go (is_user p.0) (user_part p.0 f) (h.users p.0) (h.no_user p.0 p.1) opens
    where
      go : (b : Bool) (o : Option UserPart) → IsPart (λ q. StandsUser p.0 q T) b o → (b ≡ false → get T.inodes (p.0, p.1) ≡ None)
          → IfSome o (λ q. IsOpenAt p.1 (HasWanted w) q × IsThere p.0 T p.1 q)
          → v (option_map seen_inode (option_and_then (λ q. at_number (loaded_inodes q) p.1) o)) ≡ v (get T.inodes (p.0, p.1))
      go true None s none opens = absurd s
      go true (Some q) s none (opens, there) = seen_here (at_number q.inodes.entries p.1) (get T.inodes (p.0, p.1)) (s.inodes p.1) opens.part there
      go false None s none opens = ap v (sym (none refl))
      go false (Some q) s none opens = absurd (let z : Some q ≡ None = s in cc)

module _ (f : PartForest) (T : Tree) (h : Stands f T) (p : Place) where
  kind_open : OpenAt T p Nothing f → val (seen f) (At p KindOf) ≡ val T (At p KindOf)
  unfolding val
  kind_open = seen_open (λ o. field_value o KindOf) Nothing (λ i k s t. seen_kind i k s) f T h p

  links_open : OpenAt T p Nothing f → val (seen f) (At p LinksOf) ≡ val T (At p LinksOf)
  unfolding val
  links_open = seen_open (λ o. field_value o LinksOf) Nothing (λ i k s t. seen_links i k s) f T h p

  size_open : OpenAt T p Nothing f → val (seen f) (At p SizeOf) ≡ val T (At p SizeOf)
  unfolding val
  size_open = seen_open (λ o. field_value o SizeOf) Nothing (λ i k s t. seen_size i k s) f T h p

  name_open : (x : Name) → OpenAt T p (WantedName x) f → val (seen f) (At p (NameOf x)) ≡ val T (At p (NameOf x))
  unfolding val
  name_open x = seen_open (λ o. field_value o (NameOf x)) (WantedName x) (λ i k s t. seen_name i k s x t) f T h p

  pub bare_open : (x : Name) → OpenAt T p (WantedName x) f → is_bare_at (seen f) p ≡ is_bare_at T p
  unfolding is_bare_at
  bare_open x = seen_open has_no_names (WantedName x) (λ i k s t. seen_bare i k s x t) f T h p

-- ---- areas that have no bytes

-- of an inode one cell that is no block, or a pointer
abbrev pub HasNoBytes : Area → Type 0
HasNoBytes (InodeArea p WholePart) = ⊥
HasNoBytes (InodeArea p (BlocksPart r)) = ⊥
HasNoBytes _ = ⊤

abbrev pub HaveNoBytes : List Area → Type 0
HaveNoBytes [] = ⊤
HaveNoBytes (a ∷ w) = HasNoBytes a × HaveNoBytes w

module _ (f : PartForest) (T : Tree) (h : Stands f T) where
  -- the cells of a part
  part_seen : (p q : Place) (a : Part) (field : Field) → HasNoBytes (InodeArea p a) → OpenAt T p (wanted_for a) f → place_eq q p ≡ true → in_part a field ≡ true → val (seen f) (At q field) ≡ val T (At q field)
  part_seen p q KindPart KindOf light opens at is = subst (λ r. val (seen f) (At r KindOf) ≡ val T (At r KindOf)) (sym (place_eq-same q p at)) (kind_open f T h p opens)
  part_seen p q LinksPart LinksOf light opens at is = subst (λ r. val (seen f) (At r LinksOf) ≡ val T (At r LinksOf)) (sym (place_eq-same q p at)) (links_open f T h p opens)
  part_seen p q SizePart SizeOf light opens at is = subst (λ r. val (seen f) (At r SizeOf) ≡ val T (At r SizeOf)) (sym (place_eq-same q p at)) (size_open f T h p opens)
  part_seen p q (NamePart x) (NameOf y) light opens at is =
      subst (λ z. val (seen f) (At q (NameOf z)) ≡ val T (At q (NameOf z))) (sym (name_eq-same y x is))
      (subst (λ r. val (seen f) (At r (NameOf x)) ≡ val T (At r (NameOf x))) (sym (place_eq-same q p at)) (name_open f T h p x opens))
  part_seen p q WholePart field light opens at is = absurd light
  part_seen p q (BlocksPart r) field light opens at is = absurd light
  part_seen p q _ _ light opens at is = absurd cc

  area_seen : (a : Area) → HasNoBytes a → HasArea T f a → (c : Cell) → in_area a c ≡ true → val (seen f) c ≡ val T c
  area_seen (InodeArea p a) light opens (At q field) is = let both = and_parts (place_eq q p) (in_part a field) is in part_seen p q a field light opens both.0 both.1
  area_seen (InodeArea p a) light opens (Pointer k) is = absurd cc
  area_seen (PointerArea g) light has (Pointer k) is = subst (λ j. val (seen f) (Pointer j) ≡ val T (Pointer j)) (sym (place_eq-same k g is)) (pointer_seen f T h g has)
  area_seen (PointerArea g) light has (At q field) is = absurd cc

  pub areas_seen : (w : List Area) → HaveNoBytes w → HasAreas T f w → AgreeIn w (seen f) T
  areas_seen [] light loaded c is = absurd cc
  areas_seen (a ∷ w) (light, lights) (loaded, more) c is = go (in_area a c) refl (areas_seen w lights more c)
    where
      go : (b : Bool) → in_area a c ≡ b → (has w c ≡ true → val (seen f) c ≡ val T c) → val (seen f) c ≡ val T c
      go true e rest = area_seen a light loaded c e
      go false e rest = rest (sym (ap (λ b. b || has w c) e) ∙ is)

-- ---- one load after another

-- nothing clashes with what is no more than that
pub less : (Q P R : List ℕ → Type 0) → NoneClash Q P → ((i : List ℕ) → R i → P i) → NoneClash Q R
less Q P R free no_more a b hashed gives same = free a b hashed (no_more b gives) same

-- ---- what a check asks for has no bytes

joined_light : (u w : List Area) → HaveNoBytes u → HaveNoBytes w → HaveNoBytes (u ++ w)
joined_light [] w light lights = lights
joined_light (a ∷ u) w (light, rest) lights = (light, joined_light u w rest lights)

body_light : (o : Option Place) (areas : Place → List Area) → ((p : Place) → HaveNoBytes (areas p)) → HaveNoBytes (at_body o areas)
body_light None areas light = tt
body_light (Some p) areas light = light p

home_light : (f : FileId) → HaveNoBytes (home_areas f)
home_light (User u n) = (tt, tt)
home_light (Group g n) = (tt, tt)

homes_light : (fs : List FileId) → HaveNoBytes (homes fs)
homes_light [] = tt
homes_light (f ∷ fs) = joined_light (home_areas f) (homes fs) (home_light f) (homes_light fs)

pub first_light : (a : ℕ) (o : Op) → HaveNoBytes (asked_first a o)
first_light a o = joined_light (homes (files_named o)) _ (homes_light (files_named o)) (body_light (own_place a o) kind_of (λ p. (tt, tt)))

pointer_light : (o : Option GroupFile) → HaveNoBytes (pointer_of o)
pointer_light None = tt
pointer_light (Some g) = (tt, tt)

then_light : (T : Tree) (a : ℕ) (o : Op) → HaveNoBytes (asked_then T a o)
then_light T a (op.Create c) = body_light (body T c.dir) (named c.name) (λ p. (tt, (tt, tt)))
then_light T a (op.Unlink u) = joined_light _ _ (body_light (body T u.dir) (named u.name) (λ p. (tt, (tt, tt)))) (body_light (body T u.file) (leaving u.name) (λ p. (tt, (tt, (tt, tt)))))
then_light T a (op.Write w) = body_light (body T w.file) sized (λ p. (tt, (tt, tt)))
then_light T a (op.Truncate t) = body_light (body T t.file) sized (λ p. (tt, (tt, tt)))
then_light T a (op.Take t) = body_light (body T t.file) kind_of (λ p. (tt, tt))
then_light T a (op.Link l) = joined_light _ _ (body_light (body T l.dir) (named l.name) (λ p. (tt, (tt, tt)))) (body_light (body T l.file) linked (λ p. (tt, (tt, tt))))
then_light T a (op.Rename r) =
    joined_light _ _ (body_light (body T r.from_) (named r.old_) (λ p. (tt, (tt, tt))))
    (joined_light _ _ (body_light (body T r.to_) (named r.new_) (λ p. (tt, (tt, tt)))) (body_light (body T r.file) linked (λ p. (tt, (tt, tt)))))
then_light T a (op.Drop d) = pointer_light _

module _ (f : PartForest) (T : Tree) (h : Stands f T) (a : ℕ) (o : Op) (loaded : HasAreas T f (asked T a o)) where
  -- what the check asks for is seen as it stands in the tree
  pub asked_seen : AgreeIn (asked T a o) (seen f) T
  asked_seen = areas_seen f T h (asked T a o) (joined_light (asked_first a o) (asked_then T a o) (first_light a o) (then_light T a o)) loaded

  -- and whether what goes has names
  pub bare_asked : SameBare o (seen f) T
  bare_asked = go o loaded
    where
      go : (x : Op) → HasAreas T f (asked T a x) → SameBare x (seen f) T
      go (op.Create c) has = tt
      go (op.Unlink u) has = λ p is.
          let then = areas_right f T (asked_first a (op.Unlink u)) (asked_then T a (op.Unlink u)) has in
          let goes = areas_right f T (at_body (body T u.dir) (named u.name)) (at_body (body T u.file) (leaving u.name)) then in
          let at = subst (λ b. HasAreas T f (at_body b (leaving u.name))) is goes in
          bare_open f T h p u.name at.1.1.0
      go (op.Write w) has = tt
      go (op.Truncate t) has = tt
      go (op.Take t) has = tt
      go (op.Link l) has = tt
      go (op.Rename r) has = tt
      go (op.Drop d) has = tt

-- ---- answers

pub if_ok : {A : Type 0} {P Q : A → Type 0} (r : Result A Refusal) → ((x : A) → P x → Q x) → IfOk r P → IfOk r Q
if_ok (Ok x) f h = f x h
if_ok (Err e) f h = h

pub if_err : {A : Type 0} {P Q : Refusal → Type 0} (r : Result A Refusal) → ((e : Refusal) → P e → Q e) → IfErr r P → IfErr r Q
if_err (Ok x) f h = h
if_err (Err e) f h = f e h

-- an action is refused alike in what is seen and in the tree
pub refused_alike : (ro : Membership) (f : PartForest) (T : Tree) → Stands f T → (x : Action) → HasAreas T f (asked T x.author x.op) → why ro (seen f) x ≡ why ro T x
refused_alike ro f T h x loaded = refusals_are_local ro (seen f) T x (asked_seen f T h x.author x.op loaded) (bare_asked f T h x.author x.op loaded)
