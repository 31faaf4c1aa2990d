-- The entries of live operations, of a history and with undos behind it.
use Rattle.std.proofs.Common.{◌≡◌, ℕ, zero, suc, ◌+◌, ◌-◌, ◌<◌, ◌≤◌, Bool, true, false, not, cond, List, [], ◌∷◌, ◌++◌, length, nat_eq, Some, None, refl, ap, ◌∙◌, subst, arith, slice_get}
use Rattle.std.specs.Prelude.{All, Contains}
use Rattle.std.proofs.lemmas.List.{take-append-le}
use Rattle.std.proofs.lemmas.List.Elements.{All-nil, All-cons, All-append, All-weaker, All-filter, All-contains}
use Rattle.su_bytes.specs.Membership.{Membership}
use Rattle.su_op.specs.Batch.{reads}
use Rattle.su_table.specs.Tree.{Tree}
use Rattle.su_op.specs.declared.operations.Change.{Change}
use Rattle.su_op.specs.declared.operations.Change.TheVariants.{Do, Undo, Rekey}
use Rattle.su_desk.specs.declared.entries.Entry.{Entry}
use Rattle.su_desk.specs.History.{NumberedAction, action_of, entry_at, is_undone, live, operation_by_change, operation_of, operations_from}
use Rattle.su_desk.specs.Applied.{reads_where_applied, tree_after, tree_before, written_by, entry_writes}
use Rattle.su_desk.specs.Blocker.{HaveCommonCell, ReadsCellOf}

-- ---- each live operation has an entry

-- the entry of an operation, among entries of which the first has number k
pub record HasEntry (k : ℕ) (es : List Entry) (t : NumberedAction) : Type 0 where
  pub entry : Entry
  pub there : slice_get es (t.number - k) ≡ Some entry
  pub author : entry.author ≡ t.action.author
  pub least : k ≤ t.number
  pub most : t.number < k + length es

behind_one : (k : ℕ) (e : Entry) (es : List Entry) (t : NumberedAction) → HasEntry (k + 1) es t → HasEntry k (e ∷ es) t
behind_one k e es t p =
    let least = p.least in
    let most = p.most in
    let index : t.number - k ≡ suc (t.number - (k + 1)) = omega arith in
    record {
      entry = p.entry;
      there = ap (λ i. slice_get (e ∷ es) i) index ∙ p.there;
      author = p.author;
      least = omega arith;
      most = omega arith;
    }

operations_have : (k : ℕ) (es : List Entry) → All (HasEntry k es) (operations_from k es)
operations_have k [] = All-nil (HasEntry k [])
operations_have k (e ∷ es) =
    All-append (HasEntry k (e ∷ es)) (operation_of k e) (operations_from (k + 1) es) (own e.change)
    (All-weaker (HasEntry (k + 1) es) (HasEntry k (e ∷ es)) (behind_one k e es) (operations_from (k + 1) es) (operations_have (k + 1) es))
  where
    own : (c : Change) → All (HasEntry k (e ∷ es)) (operation_by_change k e c)
    own (Do ops) =
        let index : k - k ≡ 0 = omega arith in
        All-cons (HasEntry k (e ∷ es)) (record { number = k; action = action_of e ops }) []
        (record { entry = e; there = ap (λ i. slice_get (e ∷ es) i) index; author = refl; least = omega arith; most = omega arith })
        (All-nil (HasEntry k (e ∷ es)))
    own (Undo n) = All-nil (HasEntry k (e ∷ es))
    own (Rekey key) = All-nil (HasEntry k (e ∷ es))

pub live_have : (h : List Entry) → All (HasEntry 1 h) (live h)
live_have h = All-filter (λ (t : NumberedAction). not (is_undone h t.number)) (HasEntry 1 h) (operations_from 1 h) (operations_have 1 h)

pub live_has : (h : List Entry) (t : NumberedAction) → Contains (live h) t → HasEntry 1 h t
live_has h t there = All-contains (HasEntry 1 h) (live h) t (live_have h) there

-- ---- a history with more behind it

pub slice_front : {X : Type 0} (h us : List X) (i : ℕ) → i < length h → slice_get (h ++ us) i ≡ slice_get h i
slice_front [] us i lt = absurd (omega arith)
slice_front (e ∷ h) us zero lt = refl
slice_front (e ∷ h) us (suc i) lt = slice_front h us i (omega arith)

pub entry_front : (h us : List Entry) (n : ℕ) → n ≤ length h → entry_at (h ++ us) n ≡ entry_at h n
entry_front h us n le = go (nat_eq n 0) refl
  where
    go : (b : Bool) → nat_eq n 0 ≡ b → cond b None (slice_get (h ++ us) (n - 1)) ≡ cond b None (slice_get h (n - 1))
    go true is = refl
    go false is = let some : 1 ≤ n = grind arith in slice_front h us (n - 1) (omega (arith, le, some))

tree_front : (ro : Membership) (h us : List Entry) (n : ℕ) → n ≤ length h → tree_before ro (h ++ us) n ≡ tree_before ro h n
tree_front ro h us n le = ap (tree_after ro) (take-append-le (n - 1) h us (omega arith))

written_front : (ro : Membership) (h us : List Entry) (n : ℕ) → n ≤ length h → written_by ro (h ++ us) n ≡ written_by ro h n
written_front ro h us n le =
    ap (λ T. entry_writes ro T (entry_at (h ++ us) n)) (tree_front ro h us n le)
    ∙ ap (entry_writes ro (tree_before ro h n)) (entry_front h us n le)

-- who reads what n wrote, read it before there were more
pub reads_front : (ro : Membership) (h us : List Entry) (n : ℕ) (t : NumberedAction) → t.number ≤ length h → ReadsCellOf ro (h ++ us) n t → ReadsCellOf ro h n t
reads_front ro h us n t le r =
    let later = r.later in
    let was : HaveCommonCell (reads_where_applied ro h t) (written_by ro h n)
    = subst (λ w. HaveCommonCell (reads_where_applied ro h t) w) (written_front ro h us n (omega arith))
    (subst (λ (T : Tree). HaveCommonCell (reads ro T t.action) (written_by ro (h ++ us) n)) (tree_front ro h us t.number le) r.common) in
    record { later = r.later; common = was }
