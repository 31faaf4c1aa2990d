-- What is seen of a place of which enough is loaded is what a tree has there for which the forest stands.
use Rattle.std.proofs.Common.{◌≡◌, ◌≢◌, ◌∙◌, ℕ, Bool, true, false, Option, Some, None, refl, sym, ap}
use Rattle.std.specs.Prelude.{IfSome, IsSome, ⊤}
use Rattle.std.specs.Option.{option_map, option_and_then}
use Rattle.std.specs.Ordering.{nat_cmp}
use Rattle.std.specs.FinMap.{find, get, entries, get-entries, nat_cmp-IsAntisymmetric}
use Rattle.su_bytes.specs.Principal.{is_user, is_group}
use Rattle.su_bytes.specs.Place.{Place, GroupFile, is_place}
use Rattle.su_tree.specs.Number.{number_bits, number_bytes, is_u32}
use Rattle.su_tree.specs.Value.{place_bytes}
use Rattle.su_tree.specs.Laws.Numbers as number
use Rattle.su_node.specs.Name.{Name}
use Rattle.su_node.specs.Inode.{Inode, has_no_names}
use Rattle.su_node.specs.Field.{Field.KindOf, Field.LinksOf, Field.SizeOf, Field.NameOf, field_value}
use Rattle.su_table.specs.Tree.{Tree}
use Rattle.su_table.specs.Cell.{Cell.At, Cell.Pointer, place_value, val}
use Rattle.su_table.specs.Handle.{group_table}
use Rattle.su_table.specs.Query.{is_bare_at}
use Rattle.su_table.proofs.TableEdits.{find-pairs_of}
use Rattle.su_part.specs.declared.inodes.PartInode.{PartInode}
use Rattle.su_part.specs.declared.users.UserPart.{UserPart}
use Rattle.su_part.specs.Part.{HasInode, HasAt, HasName, IfLoaded, StandsAt, StandsInode, StandsUser, at_number}
use Rattle.su_part.specs.Seen.{seen_inode, loaded_inodes}
use Rattle.su_part.proofs.SeenLemmas.{found_loaded, seen_kind, seen_links, seen_size, seen_name, seen_bare}
use Rattle.su_group_part.specs.declared.groups.GroupPart.{GroupPart}
use Rattle.su_group_part.specs.Part.{StandsGroup, HasPointer}
use Rattle.su_part_forest.specs.declared.forests.PartForest.{PartForest}
use Rattle.su_part_forest.specs.Forest.{Stands, IsPart, HasInodeAt, HasNameAt, HasPointerAt, user_part, group_part}
use Rattle.su_part_forest.specs.Seen.{seen, loaded_pointers}
use Rattle.su_part_forest.proofs.Seeing.{seen_inodes, seen_pointers}

-- ---- inodes

module _ {V : Type 0} (v : Option Inode → V) (P : PartInode → Type 0) (same : (i : PartInode) (k : Inode) → StandsInode i k → P i → v (Some (seen_inode i)) ≡ v (Some k)) where
  loaded_here : (a : Option PartInode) (o : Option Inode) → StandsAt a o → IfLoaded P a → (o ≢ None → IsSome a) → v (option_map seen_inode a) ≡ v o
  loaded_here None None s has there = refl
  loaded_here None (Some k) s has there = absurd (let z : false ≡ true = there (λ e. absurd cc) in cc)
  loaded_here (Some i) None s has there = absurd s
  loaded_here (Some i) (Some k) s has there = same i k s has

  at_user : (S : Tree) (u n : ℕ) (b : Bool) (o : Option UserPart) → IsPart (λ p. StandsUser u p S) b o → (b ≡ false → get S.inodes (u, n) ≡ None)
      → IfSome o (HasInode n) → IfSome o (λ p. IfLoaded P (at_number p.inodes.entries n))
      → v (option_map seen_inode (option_and_then (λ q. at_number (loaded_inodes q) n) o)) ≡ v (get S.inodes (u, n))
  at_user S u n true None stands none has part = absurd stands
  at_user S u n true (Some p) stands none has part = loaded_here (at_number p.inodes.entries n) (get S.inodes (u, n)) (stands.inodes n) part (has.there u S stands)
  at_user S u n false None stands none has part = ap v (sym (none refl))
  at_user S u n false (Some p) stands none has part = absurd (let z : Some p ≡ None = stands in cc)

  pub seen_at : (f : PartForest) (S : Tree) → Stands f S → (p : Place) → HasInodeAt p f → IfSome (user_part p.0 f) (λ q. IfLoaded P (at_number q.inodes.entries p.1))
      → v (get (seen f).inodes p) ≡ v (get S.inodes p)
  seen_at f S h p has part = ap v (seen_inodes f p) ∙ at_user S p.0 p.1 (is_user p.0) (user_part p.0 f) (h.users p.0) (h.no_user p.0 p.1) has part

any_loaded : (a : Option PartInode) → IfLoaded (λ i. ⊤) a
any_loaded None = tt
any_loaded (Some i) = tt

any_part : (n : ℕ) (o : Option UserPart) → IfSome o (λ p. IfLoaded (λ i. ⊤) (at_number p.inodes.entries n))
any_part n None = tt
any_part n (Some p) = any_loaded (at_number p.inodes.entries n)

inode_of : (n : ℕ) (P : PartInode → Type 0) (o : Option UserPart) → IfSome o (HasAt n P) → IfSome o (HasInode n)
inode_of n P None has = tt
inode_of n P (Some p) has = has.inode

part_of : (n : ℕ) (P : PartInode → Type 0) (o : Option UserPart) → IfSome o (HasAt n P) → IfSome o (λ p. IfLoaded P (at_number p.inodes.entries n))
part_of n P None has = tt
part_of n P (Some p) has = has.part

module _ (f : PartForest) (S : Tree) (h : Stands f S) (p : Place) where
  -- where the inode is loaded, if there is one: its kind and home, its links, its size
  module _ (has : HasInodeAt p f) where
    pub kind_seen : val (seen f) (At p KindOf) ≡ val S (At p KindOf)
    unfolding val
    kind_seen = seen_at (λ o. field_value o KindOf) (λ i. ⊤) (λ i k s t. seen_kind i k s) f S h p has (any_part p.1 (user_part p.0 f))

    pub links_seen : val (seen f) (At p LinksOf) ≡ val S (At p LinksOf)
    unfolding val
    links_seen = seen_at (λ o. field_value o LinksOf) (λ i. ⊤) (λ i k s t. seen_links i k s) f S h p has (any_part p.1 (user_part p.0 f))

    pub size_seen : val (seen f) (At p SizeOf) ≡ val S (At p SizeOf)
    unfolding val
    size_seen = seen_at (λ o. field_value o SizeOf) (λ i. ⊤) (λ i k s t. seen_size i k s) f S h p has (any_part p.1 (user_part p.0 f))

  -- where the path of a name is loaded too: where the name leads, and whether there are names
  module _ (x : Name) (has : HasNameAt p x f) where
    pub inode_of_name : HasInodeAt p f
    inode_of_name = inode_of p.1 (HasName x) (user_part p.0 f) has

    pub name_seen : val (seen f) (At p (NameOf x)) ≡ val S (At p (NameOf x))
    unfolding val
    name_seen = seen_at (λ o. field_value o (NameOf x)) (HasName x) (λ i k s t. seen_name i k s x t) f S h p inode_of_name (part_of p.1 (HasName x) (user_part p.0 f) has)

    pub bare_seen : is_bare_at (seen f) p ≡ is_bare_at S p
    unfolding is_bare_at
    bare_seen = seen_at has_no_names (HasName x) (λ i k s t. seen_bare i k s x t) f S h p inode_of_name (part_of p.1 (HasName x) (user_part p.0 f) has)

-- ---- pointers

same_place : (o : Option Place) → option_map (λ (p : Place). p) o ≡ o
same_place None = refl
same_place (Some p) = refl

table_pointer : (S : Tree) (g n : ℕ) → find nat_cmp n (group_table S g) ≡ get S.pointers (g, n)
unfolding group_table
table_pointer S g n = find-pairs_of (λ (p : Place). p) g n (entries S.pointers) ∙ same_place _ ∙ sym (get-entries S.pointers (g, n))

at_group : (S : Tree) (g n : ℕ) (b : Bool) (o : Option GroupPart) → IsPart (λ p. StandsGroup g p S) b o → (b ≡ false → get S.pointers (g, n) ≡ None) → IfSome o (HasPointer n)
    → option_and_then (λ p. find nat_cmp n (loaded_pointers p)) o ≡ get S.pointers (g, n)
at_group S g n true None stands none has = absurd stands
at_group S g n true (Some p) stands none has =
    found_loaded number_bits number_bytes is_u32 place_bytes is_place nat_cmp nat_cmp-IsAntisymmetric number.ordered p.table (group_table S g) stands n has ∙ table_pointer S g n
at_group S g n false None stands none has = sym (none refl)
at_group S g n false (Some p) stands none has = absurd (let z : Some p ≡ None = stands in cc)

-- where the path of a pointer is loaded: where it leads
pub pointer_seen : (f : PartForest) (S : Tree) → Stands f S → (g : GroupFile) → HasPointerAt g f → val (seen f) (Pointer g) ≡ val S (Pointer g)
unfolding val
pointer_seen f S h g has = ap place_value (seen_pointers f g ∙ at_group S g.0 g.1 (is_group g.0) (group_part g.0 f) (h.groups g.0) (h.no_group g.0 g.1) has)
