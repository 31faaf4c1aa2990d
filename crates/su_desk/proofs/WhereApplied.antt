-- What operations read and wrote where they were applied stays so when the history grows.
use Rattle.std.proofs.Common.{◌≡◌, ℕ, ◌+◌, ◌-◌, ◌≤◌, Bool, true, false, cond, IsTrue, List, [], ◌∷◌, ◌++◌, length, nat_eq, take, Some, None, zero, suc, refl, sym, ap, ◌∙◌, subst, arith, slice_get}
use Rattle.std.specs.Option.{unwrap_or}
use Rattle.std.proofs.lemmas.List.{take-append-le}
use Rattle.std.proofs.Math.Seq.{take-length}
use Rattle.std.proofs.lemmas.Option.{slice_get_within}
use Rattle.su_bytes.specs.Membership.{Membership}
use Rattle.su_table.specs.Tree.{Tree, genesis}
use Rattle.su_op.specs.Batch.{Action}
use Rattle.su_op.specs.Batch.{store}
use Rattle.su_undo.specs.System.{Agree, GoesAlike}
use Rattle.su_undo.proofs.TakingOut.{replay-cons, alike_alike, alike_itself}
use Rattle.su_desk.specs.declared.entries.Entry.{Entry}
use Rattle.su_desk.specs.History.{NumberedAction, actions, entry_doing, replay, tree, entry_at}
use Rattle.su_desk.specs.Applied.{tree_after, tree_before, entry_writes, writes_where_applied, written_by, GoesAsApplied}

-- ---- entries by their numbers

slice_get_further : {A : Type 0} (xs ys : List A) (n : ℕ) (x : A) → slice_get xs n ≡ Some x → slice_get (xs ++ ys) n ≡ Some x
slice_get_further [] ys n x e = absurd (let bad : None ≡ Some x = e in cc)
slice_get_further (y ∷ xs) ys zero x e = e
slice_get_further (y ∷ xs) ys (suc n) x e = slice_get_further xs ys n x e

slice_get_last : {A : Type 0} (xs : List A) (x : A) → slice_get (xs ++ x ∷ []) (length xs) ≡ Some x
slice_get_last [] x = refl
slice_get_last (y ∷ xs) x = slice_get_last xs x

entry_further : (h : List Entry) (e : Entry) (n : ℕ) (x : Entry) → entry_at h n ≡ Some x → entry_at (h ++ e ∷ []) n ≡ Some x
entry_further h e n x is = go (nat_eq n 0) is
  where
    go : (b : Bool) → cond b None (slice_get h (n - 1)) ≡ Some x → cond b None (slice_get (h ++ e ∷ []) (n - 1)) ≡ Some x
    go true is = is
    go false is = slice_get_further h (e ∷ []) (n - 1) x is

pub entry_last : (h : List Entry) (e : Entry) → entry_at (h ++ e ∷ []) (length h + 1) ≡ Some e
entry_last h e =
    let some : nat_eq (length h + 1) 0 ≡ false = grind arith in
    let index : length h + 1 - 1 ≡ length h = omega arith in
    ap (λ b. cond b None (slice_get (h ++ e ∷ []) (length h + 1 - 1))) some ∙ ap (slice_get (h ++ e ∷ [])) index ∙ slice_get_last h e

-- an entry's number is 1 to the number of entries
pub entry_within : (h : List Entry) (n : ℕ) (e : Entry) → entry_at h n ≡ Some e → n ≤ length h
entry_within h n e is = go n (nat_eq n 0) refl is
  where
    go : (n : ℕ) (b : Bool) → nat_eq n 0 ≡ b → cond b None (slice_get h (n - 1)) ≡ Some e → n ≤ length h
    go n true z is = absurd (let bad : None ≡ Some e = is in cc)
    go n false z is = let inside = slice_get_within h (n - 1) e is in omega arith

-- ---- one more entry

tree_before-append : (ro : Membership) (h : List Entry) (e : Entry) (n : ℕ) → n ≤ length h + 1 → tree_before ro (h ++ e ∷ []) n ≡ tree_before ro h n
tree_before-append ro h e n within = ap (tree_after ro) (take-append-le (n - 1) h (e ∷ []) (omega arith))

tree_before_next : (ro : Membership) (h : List Entry) (T : Tree) → tree ro h ≡ Some T → tree_before ro h (length h + 1) ≡ T
tree_before_next ro h T is =
    let index : length h + 1 - 1 ≡ length h = omega arith in
    ap (λ n. tree_after ro (take n h)) index ∙ ap (tree_after ro) (take-length h) ∙ ap (λ o. unwrap_or o genesis) is

-- ---- operations in the replay

-- an operation where it comes in the replay goes as it did where it was applied, and is that of its
-- entry
pub record InReplay (ro : Membership) (h : List Entry) (S : Tree) (t : NumberedAction) : Type 0 where
  pub goes : GoesAsApplied ro h S t
  pub entry : entry_at h t.number ≡ Some (entry_doing t.action)

-- operations one after another from S to T
abbrev pub AllInReplay : Membership → List Entry → Tree → List NumberedAction → Tree → Type 0
AllInReplay ro h S [] T = S ≡ T
AllInReplay ro h S (t ∷ ts) T = InReplay ro h S t × AllInReplay ro h ((store ro).act S t.action) ts T

pub replay_reached : (ro : Membership) (h : List Entry) (S T : Tree) (ts : List NumberedAction) → AllInReplay ro h S ts T → replay ro S ts ≡ Some T
replay_reached ro h S T [] e = ap Some e
replay_reached ro h S T (t ∷ ts) (s, rest) = replay-cons (store ro) S t.action (actions ts) s.goes.alike.ok ∙ replay_reached ro h ((store ro).act S t.action) T ts rest

-- it goes alike from a tree that holds the same in the cells that it reads
pub goes_beside : (ro : Membership) (h : List Entry) (S S' : Tree) (t : NumberedAction) → GoesAsApplied ro h S t → Agree (store ro) ((store ro).reads S t.action) S' S → GoesAlike (store ro) S S' t.action → GoesAsApplied ro h S' t
goes_beside ro h S S' t g agree alike = record {
  found = λ c read. agree c (ap (λ w. (store ro).has w c) g.alike.reads ∙ read) ∙ g.found c read;
  alike = alike_alike (store ro) (tree_before ro h t.number) S S' t.action g.alike alike;
}

in_replay_further : (ro : Membership) (h : List Entry) (e : Entry) (S : Tree) (t : NumberedAction) → InReplay ro h S t → InReplay ro (h ++ e ∷ []) S t
in_replay_further ro h e S t s =
    let within = entry_within h t.number _ s.entry in
    let same : tree_before ro (h ++ e ∷ []) t.number ≡ tree_before ro h t.number = tree_before-append ro h e t.number (omega arith) in
    record {
      goes = record {
        found = subst (λ R. Agree (store ro) ((store ro).reads R t.action) S R) (sym same) s.goes.found;
        alike = subst (λ R. GoesAlike (store ro) R S t.action) (sym same) s.goes.alike;
      };
      entry = entry_further h e t.number _ s.entry;
    }

-- with one entry more in the history
pub all_further : (ro : Membership) (h : List Entry) (e : Entry) (S T : Tree) (ts : List NumberedAction) → AllInReplay ro h S ts T → AllInReplay ro (h ++ e ∷ []) S ts T
all_further ro h e S T [] same = same
all_further ro h e S T (t ∷ ts) (s, rest) = (in_replay_further ro h e S t s, all_further ro h e ((store ro).act S t.action) T ts rest)

-- with one operation more
pub all_added : (ro : Membership) (h : List Entry) (S T : Tree) (ts : List NumberedAction) (t : NumberedAction) → AllInReplay ro h S ts T → InReplay ro h T t → AllInReplay ro h S (ts ++ t ∷ []) ((store ro).act T t.action)
all_added ro h S T [] t e s = (subst (λ R. InReplay ro h R t) (sym e) s, ap (λ R. (store ro).act R t.action) e)
all_added ro h S T (u ∷ ts) t (v, rest) s = (v, all_added ro h ((store ro).act S u.action) T ts t rest s)

-- the operation of the entry that is added
pub in_replay_now : (ro : Membership) (h : List Entry) (T : Tree) (x : Action) → tree ro h ≡ Some T → IsTrue ((store ro).ok T x)
    → InReplay ro (h ++ entry_doing x ∷ []) T (record { number = length h + 1; action = x })
in_replay_now ro h T x is ok =
    let e : Entry = entry_doing x in
    let same : tree_before ro (h ++ e ∷ []) (length h + 1) ≡ T = tree_before-append ro h e (length h + 1) (omega arith) ∙ tree_before_next ro h T is in
    record {
      goes = record {
        found = subst (λ R. Agree (store ro) ((store ro).reads R x) T R) (sym same) (λ c read. refl);
        alike = subst (λ R. GoesAlike (store ro) R T x) (sym same) (alike_itself (store ro) T x ok);
      };
      entry = entry_last h e;
    }

-- what an entry wrote is what its operation wrote
pub written_of : (ro : Membership) (h : List Entry) (t : NumberedAction) → entry_at h t.number ≡ Some (entry_doing t.action) → writes_where_applied ro h t ≡ written_by ro h t.number
written_of ro h t is = ap (entry_writes ro (tree_before ro h t.number)) (sym is)
