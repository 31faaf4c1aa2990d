-- What a user's part tells of the user's i-table, and inodes that are loaded into it.
use Rattle.su_node.specs.Field.{Field, Value, field_value}
use Rattle.std.proofs.Common.{◌≡◌, ◌≢◌, ◌∙◌, ℕ, ◌≤◌, Bool, true, false, cond, IsTrue, List, Option, Some, None, refl, sym, ap, subst, arith, inl, inr, nat_eq}
use Rattle.std.specs.Prelude.{Result, Ok, Err, IsSome, OnOk, OnErr}
use Rattle.std.specs.Option.{option_map}
use Rattle.std.specs.Ordering.{nat_cmp, eq_by_cmp}
use Rattle.std.specs.BTreeMap.{is_at}
use Rattle.std.specs.FinMap.{get, entries, get-entries}
use Rattle.std.proofs.lemmas.Bool.Decides.{nat_tests}
use Rattle.su_tree.specs.Number.{number_bits, is_u32}
use Rattle.su_tree.specs.Value.{is_digest}
use Rattle.su_part_tree.specs.declared.parts.PartTree.{PartTree}
use Rattle.su_hash_tree.specs.Edits.{value_at, with_value, without_key}
use Rattle.su_part_tree.specs.Part.{StandsFor, reaches, IsKnown}
use Rattle.su_hash_tree.proofs.Compared.{find_by_order, keys_meant, put_by_order, without_by_order}
use Rattle.su_hash_tree.proofs.Standing.{stands_map}
use Rattle.su_bytes.specs.declared.file_ids.Kind.{Kind}
use Rattle.su_node.specs.Inode.{Inode, new_inode, Content, Content.Bytes, Content.Names}
use Rattle.su_bytes.specs.Place.{Place}
use Rattle.su_node.specs.Field.{Field.SizeOf, content_value}
use Rattle.su_table.specs.Query.{size_at, value_number}
use Rattle.su_table.specs.Cell.{val}
use Rattle.std.proofs.Common.{[], ◌++◌, length, append-nil}
use Rattle.std.proofs.Math.ListN.{drop_of_length-le}
use Rattle.su_node.specs.Digest.{inode_item, inode_digest}
use Rattle.su_table.specs.Tree.{Tree}
use Rattle.su_table.specs.Handle.{user_table}
use Rattle.su_table.proofs.TableEdits.{find-pairs_of, edits_change_one_table}
use Rattle.su_format.specs.Reading.{Decodes}
use Rattle.su_part.specs.declared.items.InodeItem.{InodeItem}
use Rattle.su_part.specs.declared.inodes.PartInode.{PartInode}
use Rattle.su_part.specs.declared.users.UserPart.{UserPart}
use Rattle.su_part.specs.Item.{inode_format, item_of, MeantInode}
use Rattle.std.proofs.Common.{is_some}
use Rattle.su_part.proofs.ContentLemmas.{all_in_itself, all_in_on}
use Rattle.su_part.specs.Part.{HasAll, HasAllIn, HasAllOf, StaysLoaded, StandsJust, StandsUser, StandsInode, StandsAt, MeantAt, at_number}
use Rattle.su_part.specs.Bytes.{number_sort}
use Rattle.su_part.proofs.Numbers.{same_number, at_itself, updated}
use Rattle.su_part.proofs.ItemLemmas.{read_back}
use Rattle.su_table.specs.Table.{with_pair}
use Rattle.su_bytes.specs.Place.{place_cmp}
use Rattle.su_bytes.specs.declared.file_ids.FileId.{FileId}
use Rattle.su_node.specs.InodeChange.{InodeChange, InodeChange.Made, InodeChange.Copied, InodeChange.Gone, InodeChange.Written, InodeChange.Resized, inode_after, set_key, map_bytes, with_size, with_bytes_at}
use Rattle.su_node.proofs.Public.{get-set_key, get-set_key_here, set_key-get, eq_by_cmp-same}
use Rattle.su_table.specs.Edit.{Edit.Inodes, edit}
use Rattle.su_table.proofs.Places.{place_cmp_total, place_cmp_exact}
use Rattle.su_tree.specs.Laws.Numbers as number
use Rattle.std.specs.FinMap.Entries as by

pub small_number : (n : ℕ) → n ≤ 1000000 → IsTrue (is_u32 n)
small_number n h = grind (arith, nat_tests, h)

-- what an i-table has at a number
pub table_value : (u n : ℕ) (T : Tree) (t : PartTree ℕ (List ℕ)) → StandsFor number_sort t (user_table T u) → IsTrue (is_u32 n) → value_at number_bits n (user_table T u) ≡ option_map inode_digest (get T.inodes (u, n))
unfolding user_table
table_value u n T t h is =
    find_by_order is_u32 number_bits nat_cmp number.ordered n (user_table T u) is (keys_meant is_u32 is_digest (user_table T u) (stands_map number_sort t.root (user_table T u) h).good)
    ∙ find-pairs_of inode_digest u n (entries T.inodes) ∙ ap (option_map inode_digest) (sym (get-entries T.inodes (u, n)))

pub none_there : (o : Option Inode) → None ≡ option_map inode_digest o → o ≡ None
none_there None e = refl
none_there (Some i) e = absurd cc

pub some_there : (d : List ℕ) (o : Option Inode) → Some d ≡ option_map inode_digest o → (i : Inode) × (o ≡ Some i) × (d ≡ inode_digest i)
some_there d None e = absurd cc
some_there d (Some i) e = (i, refl, cc)

-- ---- an item that was got with the digest that stands in the table

pub record IsItemAt (u n : ℕ) (T : Tree) (s : List ℕ) : Type 0 where
  pub inode : Inode
  pub at : get T.inodes (u, n) ≡ Some inode
  pub meant : MeantInode inode
  pub item : inode_item inode ≡ s

-- what is read of it stands for what is there
pub read_inode : (u n : ℕ) (T : Tree) (s : List ℕ) (item : InodeItem) (p : PartInode) → IsItemAt u n T s → Decodes inode_format s (Ok item) → ((i : Inode) → MeantInode i → item ≡ item_of i → StandsInode p i) → StandsAt (Some p) (get T.inodes (u, n))
read_inode u n T s item p x d stands =
    subst (StandsAt (Some p)) (sym x.at) (stands x.inode x.meant (elim (read_back x.inode x.meant s x.item (Ok item) d) [ inl e ↦ cc | inr e ↦ absurd cc ]))

-- ---- inodes beside the table

pub inserted : (es fs : List (ℕ × PartInode)) (k : ℕ) (x : PartInode) (o : ℕ → Option Inode) → ((q : ℕ) → at_number fs q ≡ cond (is_at (nat_cmp k) q) (Some x) (at_number es q)) → ((q : ℕ) → StandsAt (at_number es q) (o q))
    → StandsAt (Some x) (o k) → (q : ℕ) → StandsAt (at_number fs q) (o q)
inserted es fs k x o updates old new q = updated (λ n v. StandsAt v (o n)) es fs k (Some x) updates old new q

-- ---- an edit of one inode

eq_itself : (n : ℕ) → nat_eq n n ≡ true
eq_itself n = grind (arith, nat_tests)

apart : (u n q : ℕ) → is_at (nat_cmp n) q ≡ false → eq_by_cmp place_cmp (u, q) (u, n) ≡ false
apart u n q other = go (eq_by_cmp place_cmp (u, q) (u, n)) refl
  where
    go : (b : Bool) → eq_by_cmp place_cmp (u, q) (u, n) ≡ b → eq_by_cmp place_cmp (u, q) (u, n) ≡ false
    go false e = e
    go true e =
        let same : q ≡ n = ap (λ (p : ℕ × ℕ). p.1) (eq_by_cmp-same place_cmp_exact (u, q) (u, n) e) in
        absurd (let z : true ≡ false = sym (at_itself n) ∙ ap (is_at (nat_cmp n)) (sym same) ∙ other in cc)

pub edit_here : (T : Tree) (u n : ℕ) (ch : InodeChange) → get (edit T (Inodes (u, n) ch)).inodes (u, n) ≡ inode_after ch (get T.inodes (u, n))
unfolding edit
edit_here T u n ch = get-set_key_here place_cmp_total T.inodes (u, n) (inode_after ch (get T.inodes (u, n)))

pub edit_there : (T : Tree) (u n q : ℕ) (ch : InodeChange) → is_at (nat_cmp n) q ≡ false → get (edit T (Inodes (u, n) ch)).inodes (u, q) ≡ get T.inodes (u, q)
unfolding edit
edit_there T u n q ch other = get-set_key place_cmp_total T.inodes (u, n) (inode_after ch (get T.inodes (u, n))) (u, q) ∙ ap (λ b. cond b (inode_after ch (get T.inodes (u, n))) (get T.inodes (u, q))) (apart u n q other)

-- ---- a change that makes an inode of the one that stands there, and nothing of nothing

module _ (ch : InodeChange) (after : Inode → Inode) (here : (i : Inode) → inode_after ch (Some i) ≡ Some (after i)) (none : inode_after ch None ≡ None) where
  pub edit_nothing : (T : Tree) (u n : ℕ) → get T.inodes (u, n) ≡ None → edit T (Inodes (u, n) ch) ≡ T
  unfolding edit
  edit_nothing T u n absent =
      ap (λ m. record T { inodes = m }) (set_key-get place_cmp_total place_cmp_exact T.inodes (u, n) (inode_after ch (get T.inodes (u, n))) (absent ∙ sym none ∙ sym (ap (inode_after ch) absent)))

  -- the table of a tree in which an inode is another one
  table_after : (T : Tree) (u n : ℕ) (i : Inode) (d : List ℕ) (t : PartTree ℕ (List ℕ)) → StandsFor number_sort t (user_table T u) → IsTrue (is_u32 n) → get T.inodes (u, n) ≡ Some i → d ≡ inode_digest (after i)
      → with_value number_bits n d (user_table T u) ≡ user_table (edit T (Inodes (u, n) ch)) u
  table_after T u n i d t h is at same =
      put_by_order is_u32 number_bits nat_cmp number.ordered n d (user_table T u) is (keys_meant is_u32 is_digest (user_table T u) (stands_map number_sort t.root (user_table T u) h).good)
      ∙ ap (λ w. by.put nat_cmp n w (user_table T u)) same
      ∙ sym (edits_change_one_table.of_user T (u, n) ch u
      ∙ ap (λ b. cond b (with_pair n (option_map inode_digest (inode_after ch (get T.inodes (u, n)))) (user_table T u)) (user_table T u)) (eq_itself u)
      ∙ ap (λ o. with_pair n (option_map inode_digest o) (user_table T u)) (ap (inode_after ch) at ∙ here i))

  module _ (meant : (i : Inode) → MeantInode i → MeantInode (after i)) where
    meant_after : (T : Tree) (u n : ℕ) → ((q : ℕ) → MeantAt (get T.inodes (u, q))) → (q : ℕ) → MeantAt (get (edit T (Inodes (u, n) ch)).inodes (u, q))
    meant_after T u n were q = go (is_at (nat_cmp n) q) refl
      where
        there : (o : Option Inode) → MeantAt o → MeantAt (inode_after ch o)
        there None m = subst MeantAt (sym none) m
        there (Some i) m = subst MeantAt (sym (here i)) (meant i m)

        go : (b : Bool) → is_at (nat_cmp n) q ≡ b → MeantAt (get (edit T (Inodes (u, n) ch)).inodes (u, q))
        go true e = subst (λ k. MeantAt (get (edit T (Inodes (u, n) ch)).inodes (u, k))) (same_number n q e) (subst MeantAt (sym (edit_here T u n ch)) (there (get T.inodes (u, n)) (were n)))
        go false e = subst MeantAt (sym (edit_there T u n q ch e)) (were q)

    -- an inode that is loaded is changed, and the table gets its digest
    pub edited_at : (u n : ℕ) (T : Tree) (p q : UserPart) (i : PartInode) (d : List ℕ) → StandsUser u p T → IsTrue (is_u32 n) → Some i ≡ at_number p.inodes.entries n
        → (j : PartInode) → ((k : Inode) → get T.inodes (u, n) ≡ Some k → StandsInode i k → StandsInode j (after k)) → ((k : Inode) → StandsInode j k → d ≡ inode_digest k)
        → ((value_at number_bits n (user_table T u) ≡ None → ⊥) → StandsFor number_sort q.table (with_value number_bits n d (user_table T u)))
        → ((k : ℕ) → at_number q.inodes.entries k ≡ cond (is_at (nat_cmp n) k) (Some j) (at_number p.inodes.entries k))
        → StandsUser u q (edit T (Inodes (u, n) ch))
    edited_at u n T p q i d h small found j changed digest table updates =
        go (get T.inodes (u, n)) refl (subst (λ y. StandsAt y (get T.inodes (u, n))) (sym found) (h.inodes n))
      where
        go : (o : Option Inode) → get T.inodes (u, n) ≡ o → StandsAt (Some i) o → StandsUser u q (edit T (Inodes (u, n) ch))
        go None at stands = absurd stands
        go (Some k) at stands = record {
          table = subst (StandsFor number_sort q.table) (table_after T u n k d p.table h.table small at (digest _ (changed k at stands)))
              (table (λ absent. absurd (let z : None ≡ option_map inode_digest (Some k) = sym absent ∙ table_value u n T p.table h.table small ∙ ap (option_map inode_digest) at in cc)));
          meant = meant_after T u n h.meant;
          inodes = λ r. subst (λ y. StandsAt y (get (edit T (Inodes (u, n) ch)).inodes (u, r))) (sym (updates r)) (each r (is_at (nat_cmp n) r) refl);
        }
          where
            each : (r : ℕ) (b : Bool) → is_at (nat_cmp n) r ≡ b → StandsAt (cond b (Some j) (at_number p.inodes.entries r)) (get (edit T (Inodes (u, n) ch)).inodes (u, r))
            each r true e = subst (λ y. StandsAt (Some j) (get (edit T (Inodes (u, n) ch)).inodes (u, y))) (same_number n r e)
                (subst (StandsAt (Some j)) (sym (edit_here T u n ch ∙ ap (inode_after ch) at ∙ here k)) (changed k at stands))
            each r false e = subst (StandsAt (at_number p.inodes.entries r)) (sym (edit_there T u n r ch e)) (h.inodes r)

    -- whatever it stands for
    pub edited_user : (u n : ℕ) (T : Tree) (p q : UserPart) (i : PartInode) (d : List ℕ) → StandsUser u p T → IsTrue (is_u32 n) → Some i ≡ at_number p.inodes.entries n
        → (j : PartInode) → ((k : Inode) → StandsInode i k → StandsInode j (after k)) → ((k : Inode) → StandsInode j k → d ≡ inode_digest k)
        → ((m : List (ℕ × List ℕ)) → StandsFor number_sort p.table m → (value_at number_bits n m ≡ None → ⊥) → StandsFor number_sort q.table (with_value number_bits n d m))
        → ((k : ℕ) → at_number q.inodes.entries k ≡ cond (is_at (nat_cmp n) k) (Some j) (at_number p.inodes.entries k))
        → StandsUser u q (edit T (Inodes (u, n) ch))
    edited_user u n T p q i d h small found j changed digest table updates = edited_at u n T p q i d h small found j (λ k at s. changed k s) digest (table (user_table T u) h.table) updates

-- ---- what an edit leaves loaded

pub stays_edited : (n : ℕ) (p q : UserPart) (j : PartInode) → ((m : ℕ) → IsTrue (reaches number_bits m p.table) → IsTrue (reaches number_bits m q.table))
    → ((k : ℕ) → at_number q.inodes.entries k ≡ cond (is_at (nat_cmp n) k) (Some j) (at_number p.inodes.entries k)) → StaysLoaded n p q
stays_edited n p q j paths updates = record {
  paths = paths;
  there = λ m some. subst IsSome (sym (updates m)) (go (is_at (nat_cmp n) m) (at_number p.inodes.entries m) some);
  others = λ m e. updates m ∙ ap (λ b. cond b (Some j) (at_number p.inodes.entries m)) e;
}
  where
    go : (b : Bool) (o : Option PartInode) → IsSome o → IsSome (cond b (Some j) o)
    go true o some = refl
    go false o some = some

pub stays_itself : (n : ℕ) (p : UserPart) → StaysLoaded n p p
stays_itself n p = record { paths = λ m h. h; there = λ m h. h; others = λ m e. refl }

-- ---- an inode that is left out

-- the table without it
pub gone_table : (u n : ℕ) (T : Tree) (t : PartTree ℕ (List ℕ)) → StandsFor number_sort t (user_table T u) → IsTrue (is_u32 n) → without_key number_bits n (user_table T u) ≡ user_table (edit T (Inodes (u, n) Gone)) u
gone_table u n T t h small =
    without_by_order is_u32 number_bits nat_cmp number.ordered n (user_table T u) small (keys_meant is_u32 is_digest (user_table T u) (stands_map number_sort t.root (user_table T u) h).good)
    ∙ sym (edits_change_one_table.of_user T (u, n) Gone u ∙ ap (λ b. cond b (with_pair n None (user_table T u)) (user_table T u)) (eq_itself u))

-- it is gone
pub gone_user : (u n : ℕ) (T : Tree) (p q : UserPart) → StandsUser u p T → IsTrue (is_u32 n) → StandsFor number_sort q.table (without_key number_bits n (user_table T u))
    → ((k : ℕ) → at_number q.inodes.entries k ≡ cond (is_at (nat_cmp n) k) None (at_number p.inodes.entries k)) → StandsUser u q (edit T (Inodes (u, n) Gone))
gone_user u n T p q h small table updates = record {
  table = subst (StandsFor number_sort q.table) same table;
  meant = λ k. meant k (is_at (nat_cmp n) k) refl;
  inodes = λ k. subst (λ v. StandsAt v (get (edit T (Inodes (u, n) Gone)).inodes (u, k))) (sym (updates k)) (each k (is_at (nat_cmp n) k) refl);
}
  where
    same : without_key number_bits n (user_table T u) ≡ user_table (edit T (Inodes (u, n) Gone)) u
    same = gone_table u n T p.table h.table small

    meant : (k : ℕ) (b : Bool) → is_at (nat_cmp n) k ≡ b → MeantAt (get (edit T (Inodes (u, n) Gone)).inodes (u, k))
    meant k true e = subst (λ j. MeantAt (get (edit T (Inodes (u, n) Gone)).inodes (u, j))) (same_number n k e) (subst MeantAt (sym (edit_here T u n Gone)) tt)
    meant k false e = subst MeantAt (sym (edit_there T u n k Gone e)) (h.meant k)

    each : (k : ℕ) (b : Bool) → is_at (nat_cmp n) k ≡ b → StandsAt (cond b None (at_number p.inodes.entries k)) (get (edit T (Inodes (u, n) Gone)).inodes (u, k))
    each k true e = tt
    each k false e = subst (StandsAt (at_number p.inodes.entries k)) (sym (edit_there T u n k Gone e)) (h.inodes k)

-- the paths of the others stay
pub gone_path : (u n : ℕ) (T : Tree) (t v : PartTree ℕ (List ℕ)) → StandsFor number_sort t (user_table T u) → IsTrue (is_u32 n) → StandsFor number_sort v (without_key number_bits n (user_table T u))
    → (m : ℕ) → IsTrue (is_u32 m) → is_at (nat_cmp n) m ≡ false → get T.inodes (u, m) ≢ None → IsKnown number_bits m v (without_key number_bits n (user_table T u)) → IsTrue (reaches number_bits m v)
gone_path u n T t v h small stands m is other there (inl x) = x
gone_path u n T t v h small stands m is other there (inr e) =
    let same = gone_table u n T t h small in
    let none : None ≡ option_map inode_digest (get T.inodes (u, m)) =
    sym e ∙ ap (value_at number_bits m) same ∙ table_value u m (edit T (Inodes (u, n) Gone)) v (subst (StandsFor number_sort v) same stands) is ∙ ap (option_map inode_digest) (edit_there T u n m Gone other) in
    absurd (there (none_there (get T.inodes (u, m)) none))

-- ---- an inode that is put

pub put_user : (ch : InodeChange) (i : Inode) → ((o : Option Inode) → inode_after ch o ≡ Some i) → MeantInode i → (u n : ℕ) (T : Tree) (p q : UserPart) (j : PartInode) → StandsUser u p T → IsTrue (is_u32 n) → StandsInode j i
    → StandsFor number_sort q.table (with_value number_bits n (inode_digest i) (user_table T u))
    → ((k : ℕ) → at_number q.inodes.entries k ≡ cond (is_at (nat_cmp n) k) (Some j) (at_number p.inodes.entries k)) → StandsUser u q (edit T (Inodes (u, n) ch))
put_user ch i here good u n T p q j h small stands table updates = record {
  table = subst (StandsFor number_sort q.table) same table;
  meant = λ k. meant k (is_at (nat_cmp n) k) refl;
  inodes = λ k. subst (λ v. StandsAt v (get (edit T (Inodes (u, n) ch)).inodes (u, k))) (sym (updates k)) (each k (is_at (nat_cmp n) k) refl);
}
  where
    at : get (edit T (Inodes (u, n) ch)).inodes (u, n) ≡ Some i
    at = edit_here T u n ch ∙ here (get T.inodes (u, n))

    same : with_value number_bits n (inode_digest i) (user_table T u) ≡ user_table (edit T (Inodes (u, n) ch)) u
    same =
        put_by_order is_u32 number_bits nat_cmp number.ordered n (inode_digest i) (user_table T u) small (keys_meant is_u32 is_digest (user_table T u) (stands_map number_sort p.table.root (user_table T u) h.table).good)
        ∙ sym (edits_change_one_table.of_user T (u, n) ch u
        ∙ ap (λ b. cond b (with_pair n (option_map inode_digest (inode_after ch (get T.inodes (u, n)))) (user_table T u)) (user_table T u)) (eq_itself u)
        ∙ ap (λ o. with_pair n (option_map inode_digest o) (user_table T u)) (here (get T.inodes (u, n))))

    meant : (k : ℕ) (b : Bool) → is_at (nat_cmp n) k ≡ b → MeantAt (get (edit T (Inodes (u, n) ch)).inodes (u, k))
    meant k true e = subst (λ l. MeantAt (get (edit T (Inodes (u, n) ch)).inodes (u, l))) (same_number n k e) (subst MeantAt (sym at) good)
    meant k false e = subst MeantAt (sym (edit_there T u n k ch e)) (h.meant k)

    each : (k : ℕ) (b : Bool) → is_at (nat_cmp n) k ≡ b → StandsAt (cond b (Some j) (at_number p.inodes.entries k)) (get (edit T (Inodes (u, n) ch)).inodes (u, k))
    each k true e = subst (λ l. StandsAt (Some j) (get (edit T (Inodes (u, n) ch)).inodes (u, l))) (same_number n k e) (subst (StandsAt (Some j)) (sym at) stands)
    each k false e = subst (StandsAt (at_number p.inodes.entries k)) (sym (edit_there T u n k ch e)) (h.inodes k)

-- a new one
pub made_edit : (T : Tree) (p : Place) (home : FileId) (kind : Kind) → edit T (Inodes p (Copied (new_inode home kind))) ≡ edit T (Inodes p (Made home kind))
unfolding edit
made_edit T p home kind = refl

-- what is taken out is just what was there
pub taken_out : (o : Option Inode) (v : Option PartInode) → StandsAt v o → (o ≢ None → IsSome v) → StandsJust v o
taken_out None None h there = refl
taken_out (Some i) None h there = absurd (let z : false ≡ true = there (λ e. absurd cc) in cc)
taken_out None (Some p) h there = h
taken_out (Some i) (Some p) h there = h

-- ---- a size that grows

grown_same : (t : ℕ) (bs : List ℕ) → length bs ≤ t → with_bytes_at t [] bs ≡ with_size t bs
unfolding with_bytes_at
grown_same t bs le = ap (λ xs. with_size t bs ++ xs) (drop_of_length-le bs (omega (arith, le))) ∙ append-nil (with_size t bs)

pub grown_edit : (T : Tree) (p : Place) (s t : ℕ) → size_at T p ≤ t → edit T (Inodes p (Written s t [])) ≡ edit T (Inodes p (Resized s t))
unfolding edit val
grown_edit T p s t le = ap (λ o. record T { inodes = set_key T.inodes p o }) (go (get T.inodes p) le)
  where
    same : (c : Content) (l : ℕ) (home : FileId) → value_number (content_value c l home SizeOf) ≤ t → map_bytes (with_bytes_at t []) c ≡ map_bytes (with_size t) c
    same (Bytes bs) l home h = ap Bytes (grown_same t bs h)
    same (Names m) l home h = refl

    go : (o : Option Inode) → value_number (field_value o SizeOf) ≤ t → inode_after (Written s t []) o ≡ inode_after (Resized s t) o
    go None h = refl
    go (Some i) h = ap (λ c. Some (record i { content = c })) (same i.content i.links i.home h)

pub ok_of : {X E A B : Type 0} (r : Result X E) → OnOk r A → OnErr r B → (B → ⊥) → A
ok_of (Ok x) a b none = a
ok_of (Err e) a b none = absurd (none b)

-- where T has an inode it is loaded, and none is
pub not_loaded : (o : Option Inode) (y : Option PartInode) → (o ≢ None → IsSome y) → None ≡ y → o ≡ None
not_loaded None y f e = refl
not_loaded (Some i) y f e = absurd (let z : false ≡ true = subst IsSome (sym e) (f (λ w. absurd cc)) in cc)

-- what is asked of an inode that is loaded
pub field_there : (o : Option Inode) (p : PartInode) (v : Value) (f : Field) → StandsAt (Some p) o → ((i : Inode) → StandsInode p i → v ≡ field_value (Some i) f) → v ≡ field_value o f
field_there None p v f h asked = absurd h
field_there (Some i) p v f h asked = asked i h

pub asked_there : (o : Option Inode) (p : PartInode) (P : Option Inode → Type 0) → StandsAt (Some p) o → ((i : Inode) → StandsInode p i → P (Some i)) → P o
asked_there None p P h asked = absurd h
asked_there (Some i) p P h asked = asked i h

-- ---- what stays loaded

all_of_itself : (o : Option PartInode) → HasAllOf o o
all_of_itself None = tt
all_of_itself (Some p) = all_in_itself p.content

all_of_on : (o r t : Option PartInode) → HasAllOf o r → HasAllOf r t → HasAllOf o t
all_of_on None r t h k = tt
all_of_on (Some p) None t h k = absurd h
all_of_on (Some p) (Some q) None h k = k
all_of_on (Some p) (Some q) (Some r) h k = all_in_on p.content q.content r.content h k

pub all_on : (p q r : UserPart) → HasAll p q → HasAll q r → HasAll p r
all_on p q r h k = record {
  paths = λ n x. k.paths n (h.paths n x);
  inodes = λ n. all_of_on (at_number p.inodes.entries n) (at_number q.inodes.entries n) (at_number r.inodes.entries n) (h.inodes n) (k.inodes n);
}

-- a number's path is loaded
pub all_with_path : (p q : UserPart) → ((n : ℕ) → IsTrue (reaches number_bits n p.table) → IsTrue (reaches number_bits n q.table)) → q.inodes.entries ≡ p.inodes.entries → HasAll p q
all_with_path p q keeps same = record { paths = keeps; inodes = λ n. subst (λ es. HasAllOf (at_number p.inodes.entries n) (at_number es n)) (sym same) (all_of_itself (at_number p.inodes.entries n)) }

none_when : (o : Option PartInode) → is_some o ≡ false → o ≡ None
none_when None e = refl
none_when (Some p) e = absurd cc

-- an inode that was not there
pub all_with_inode : (p q : UserPart) (k : ℕ) (x : PartInode) → ((n : ℕ) → IsTrue (reaches number_bits n p.table) → IsTrue (reaches number_bits n q.table)) → is_some (at_number p.inodes.entries k) ≡ false
    → ((n : ℕ) → at_number q.inodes.entries n ≡ cond (is_at (nat_cmp k) n) (Some x) (at_number p.inodes.entries n)) → HasAll p q
all_with_inode p q k x keeps absent updates = record {
  paths = keeps;
  inodes = λ n. subst (HasAllOf (at_number p.inodes.entries n)) (sym (updates n)) (go n (is_at (nat_cmp k) n) refl);
}
  where
    go : (n : ℕ) (b : Bool) → is_at (nat_cmp k) n ≡ b → HasAllOf (at_number p.inodes.entries n) (cond b (Some x) (at_number p.inodes.entries n))
    go n true e = subst (λ o. HasAllOf o (Some x)) (sym (ap (at_number p.inodes.entries) (sym (same_number k n e)) ∙ none_when (at_number p.inodes.entries k) absent)) tt
    go n false e = all_of_itself (at_number p.inodes.entries n)

-- more of an inode
pub all_with_more : (p q : UserPart) (k : ℕ) (x y : PartInode) → q.table ≡ p.table → Some x ≡ at_number p.inodes.entries k → HasAllIn x.content y.content
    → ((n : ℕ) → at_number q.inodes.entries n ≡ cond (is_at (nat_cmp k) n) (Some y) (at_number p.inodes.entries n)) → HasAll p q
all_with_more p q k x y same found more updates = record {
  paths = λ n. subst (λ t. IsTrue (reaches number_bits n p.table) → IsTrue (reaches number_bits n t)) (sym same) (λ h. h);
  inodes = λ n. subst (HasAllOf (at_number p.inodes.entries n)) (sym (updates n)) (go n (is_at (nat_cmp k) n) refl);
}
  where
    go : (n : ℕ) (b : Bool) → is_at (nat_cmp k) n ≡ b → HasAllOf (at_number p.inodes.entries n) (cond b (Some y) (at_number p.inodes.entries n))
    go n true e = subst (λ o. HasAllOf o (Some y)) (found ∙ ap (at_number p.inodes.entries) (same_number k n e)) more
    go n false e = all_of_itself (at_number p.inodes.entries n)

-- another inode, of which as much is loaded
pub all_edited : (p q : UserPart) (k : ℕ) (x y : PartInode) → ((n : ℕ) → IsTrue (reaches number_bits n p.table) → IsTrue (reaches number_bits n q.table)) → Some x ≡ at_number p.inodes.entries k → HasAllIn x.content y.content
    → ((n : ℕ) → at_number q.inodes.entries n ≡ cond (is_at (nat_cmp k) n) (Some y) (at_number p.inodes.entries n)) → HasAll p q
all_edited p q k x y keeps found more updates = record {
  paths = keeps;
  inodes = λ n. subst (HasAllOf (at_number p.inodes.entries n)) (sym (updates n)) (go n (is_at (nat_cmp k) n) refl);
}
  where
    go : (n : ℕ) (b : Bool) → is_at (nat_cmp k) n ≡ b → HasAllOf (at_number p.inodes.entries n) (cond b (Some y) (at_number p.inodes.entries n))
    go n true e = subst (λ o. HasAllOf o (Some y)) (found ∙ ap (at_number p.inodes.entries) (same_number k n e)) more
    go n false e = all_of_itself (at_number p.inodes.entries n)

pub all_itself : (p : UserPart) → HasAll p p
all_itself p = record { paths = λ n h. h; inodes = λ n. all_of_itself (at_number p.inodes.entries n) }

-- ---- an inode that is loaded is one of the table

pub in_user_table : (u n : ℕ) (T : Tree) (p : UserPart) (i : PartInode) → StandsUser u p T → IsTrue (is_u32 n) → Some i ≡ at_number p.inodes.entries n → value_at number_bits n (user_table T u) ≢ None
in_user_table u n T p i h small found absent =
    asked_there (get T.inodes (u, n)) i (λ o. get T.inodes (u, n) ≡ o → ⊥) (subst (λ y. StandsAt y (get T.inodes (u, n))) (sym found) (h.inodes n))
    (λ k s at. absurd (let z : None ≡ option_map inode_digest (Some k) = sym absent ∙ table_value u n T p.table h.table small ∙ ap (option_map inode_digest) at in cc)) refl

pub put_there : (es fs : List (ℕ × PartInode)) (n : ℕ) (x : PartInode) → ((k : ℕ) → at_number fs k ≡ cond (is_at (nat_cmp n) k) (Some x) (at_number es k)) → at_number fs n ≡ Some x
put_there es fs n x updates = updates n ∙ ap (λ b. cond b (Some x) (at_number es n)) (at_itself n)

pub on_ok : {X E A B : Type 0} (r : Result X E) → (A → B) → OnOk r A → OnOk r B
on_ok (Ok x) f a = f a
on_ok (Err e) f a = tt
