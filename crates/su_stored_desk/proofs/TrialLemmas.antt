-- What is seen of a desk of which the last entry can be taken back, and what is kept of that entry.
use Rattle.std.proofs.Common.{◌≡◌, ℕ, ◌-◌, Bool, true, false, cond, List, [], ◌∷◌, ◌++◌, length, length-append, map, take, slice_get, Some, None, Result, Ok, Err, IsErrAnd, refl, sym, ap, ◌∙◌, subst, arith, append_assoc, append-nil}
use Rattle.std.specs.Prelude.{IfErr, OnOk, OnErr, is_err}
use Rattle.std.proofs.lemmas.Bool.{both_ways}
use Rattle.std.proofs.lemmas.List.{map-append}
use Rattle.std.specs.List.{filter}
use Rattle.std.proofs.Math.Seq.{take-append_seam}
use Rattle.su_bytes.specs.Membership.{Membership}
use Rattle.su_bytes.specs.Principal.{user_principal, group_principal, principals}
use Rattle.su_bytes.specs.declared.principals.Principal.{Principal}
use Rattle.su_bytes.specs.declared.principals.Principal.TheVariants.{User, Group}
use Rattle.su_bytes.specs.declared.refusals.Refusal.{Refusal}
use Rattle.su_table.specs.Tree.{Tree, genesis}
use Rattle.su_op.specs.declared.areas.Area.{Area}
use Rattle.su_op.specs.declared.operations.Change.{Change}
use Rattle.su_op.specs.declared.operations.Change.TheVariants.{Do, Undo, Rekey}
use Rattle.su_op.specs.Batch.{Action}
use Rattle.su_desk.specs.declared.entries.Entry.{Entry}
use Rattle.su_stored_desk.specs.Keeping.{KeptOperation}
use Rattle.su_stored_desk.specs.declared.prepared.Means.TheVariants.{Kept, Held, Named}
use Rattle.su_stored_desk.specs.declared.prepared.Undone.{Undone}
use Rattle.su_desk.specs.History.{entry_doing, action_of}
use Rattle.su_desk.specs.Answer.{Good}
use Rattle.su_desk.specs.Desk.{DeskState, with_entry}
use Rattle.su_desk.specs.Version.{carried_groups, carries, cells_by_change, cells_of, numbered}
use Rattle.su_stored_desk.specs.Keeping.{Keeps}
use Rattle.su_desk.specs.Trial.{tree_of, before_last, with_handle, carried_handles}
use Rattle.su_stored_desk.specs.Tried.{TakesChangeBack, TakesUndoBack}
use Rattle.su_desk.proofs.Replays.{good_exact}
use Rattle.su_desk.proofs.FormatLemmas.{ends_with}
use Rattle.su_stored_desk.proofs.Replies.{is_empty}
use Rattle.su_stored_desk.proofs.KeptOperations.{tree_kept}
use Rattle.su_stored_desk.proofs.TakingBack.{LastKept, left_by, last_done, kept_writes}

-- ---- lists that end with an element

pub all_but_last : {A : Type 0} (xs : List A) (x : A) → take (length (xs ++ x ∷ []) - 1) (xs ++ x ∷ []) ≡ xs
all_but_last xs x =
    let long = length-append xs (x ∷ []) in
    let before : length (xs ++ x ∷ []) - 1 ≡ length xs = omega arith in
    ap (λ n. take n (xs ++ x ∷ [])) before ∙ take-append_seam xs (x ∷ [])

not_empty : {A : Type 0} (xs : List A) (x : A) → [] ≡ xs ++ x ∷ [] → ⊥
not_empty [] x e = let bad : [] ≡ x ∷ [] = e in cc
not_empty (y ∷ xs) x e = let bad : [] ≡ y ∷ (xs ++ x ∷ []) = e in cc

same_last : {A : Type 0} (xs ys : List A) (x y : A) → xs ++ x ∷ [] ≡ ys ++ y ∷ [] → x ≡ y
same_last [] [] x y e = let same : x ≡ y = cc in same
same_last [] (z ∷ ys) x y e = absurd (not_empty ys y (let rest : [] ≡ ys ++ y ∷ [] = cc in rest))
same_last (z ∷ xs) [] x y e = absurd (not_empty xs x (let rest : [] ≡ xs ++ x ∷ [] = cc in rest))
same_last (z ∷ xs) (w ∷ ys) x y e = same_last xs ys x y (let rest : xs ++ x ∷ [] ≡ ys ++ y ∷ [] = cc in rest)

pub last_is : {A : Type 0} (ks front : List A) (k l : A) → ks ≡ front ++ l ∷ [] → slice_get ks (length ks - 1) ≡ Some k → k ≡ l
last_is ks front k l whole e = same_last (take (length ks - 1) ks) front k l (sym (ends_with ks k e) ∙ whole)

pub none_last : {A : Type 0} {P : Type 0} (ks front : List A) (l : A) → ks ≡ front ++ l ∷ [] → slice_get ks (length ks - 1) ≡ None → P
none_last ks front l whole e = absurd (not_empty front l (sym (is_empty ks e) ∙ whole))

-- ---- what is seen

pub before_with : (d : DeskState) (e : Entry) → before_last (with_entry d e) ≡ d
before_with d e = ap (λ (h : List Entry). record { roster = d.roster; history = h }) (all_but_last d.history e)

-- the entries without the last one
pub history_before : (ro : Membership) (h : List Entry) (d : DeskState) (e : Entry) → record { roster = ro; history = h } ≡ with_entry d e → take (length h - 1) h ≡ d.history
history_before ro h d e is = ap (λ (x : DeskState). take (length x.history - 1) x.history) is ∙ all_but_last d.history e

-- ---- what is kept of the last entry

pub keeps_seen : (ro : Membership) (h : List Entry) (ks : List KeptOperation) (T : Tree) (s : DeskState) → record { roster = ro; history = h } ≡ s → Keeps ro h ks T → Keeps s.roster s.history ks T
keeps_seen ro h ks T s e keeps = subst (λ (x : DeskState). Keeps x.roster x.history ks T) e keeps

-- the forest is the tree with the last entry
pub forest_with : (ro : Membership) (h : List Entry) (ks : List KeptOperation) (T : Tree) (s : DeskState) → record { roster = ro; history = h } ≡ s → Keeps ro h ks T → T ≡ tree_of s
forest_with ro h ks T s e keeps = left_by ro h T (tree_kept ro h ks T keeps) ∙ ap tree_of e

-- the history before the last entry is a good one
pub good_before : (ro : Membership) (h : List Entry) (ks : List KeptOperation) (T : Tree) (d : DeskState) (e : Entry) → record { roster = ro; history = h } ≡ with_entry d e → Keeps ro h ks T → Good d.roster d.history
good_before ro h ks T d e is keeps = ((good_exact d.roster d.history e).0 (keeps_seen ro h ks T (with_entry d e) is keeps).good).0

pub last_operation : (ro : Membership) (h : List Entry) (ks : List KeptOperation) (T : Tree) (d : DeskState) (x : Action) → record { roster = ro; history = h } ≡ with_entry d (entry_doing x) → Keeps ro h ks T → LastKept d.roster d.history x ks T
last_operation ro h ks T d x e keeps = last_done d.roster d.history x ks T (keeps_seen ro h ks T (with_entry d (entry_doing x)) e keeps)

-- an entry that is taken back by what is kept with it is of an action
pub of_action : (d s : DeskState) (e : Entry) → s ≡ with_entry d e → TakesChangeBack d e e.change Kept → (x : Action) × (s ≡ with_entry d (entry_doing x))
of_action d s e = go e.change
  where
    go : (c : Change) → s ≡ with_entry d (record e { change = c }) → TakesChangeBack d e c Kept → (x : Action) × (s ≡ with_entry d (entry_doing x))
    go (Do op) is back = (action_of e op, is)
    go (Undo n) is back = absurd back
    go (Rekey k) is back = absurd back

-- something is kept of an operation
pub some_kept : {P : Type 0} (ro : Membership) (h : List Entry) (ks : List KeptOperation) (T : Tree) (d : DeskState) (e : Entry) → record { roster = ro; history = h } ≡ with_entry d e → Keeps ro h ks T → TakesChangeBack d e e.change Kept
    → slice_get ks (length ks - 1) ≡ None → P
some_kept {P} ro h ks T d e is keeps back none = go e.change is back
  where
    go : (c : Change) → record { roster = ro; history = h } ≡ with_entry d (record e { change = c }) → TakesChangeBack d e c Kept → P
    go (Do op) is back = let l = last_operation ro h ks T d (action_of e op) is keeps in none_last ks l.front l.kept l.whole none
    go (Undo n) is back = absurd back
    go (Rekey k) is back = absurd back

-- and last its cells
pub last_cells : (ro : Membership) (h : List Entry) (ks : List KeptOperation) (T : Tree) (k : KeptOperation) (d : DeskState) (e : Entry) → record { roster = ro; history = h } ≡ with_entry d e → Keeps ro h ks T → TakesChangeBack d e e.change Kept
    → slice_get ks (length ks - 1) ≡ Some k → k.footprint.writes.items ≡ cells_of d.roster d.history e
last_cells ro h ks T k d e is keeps back last = go e.change is back
  where
    go : (c : Change) → record { roster = ro; history = h } ≡ with_entry d (record e { change = c }) → TakesChangeBack d e c Kept → k.footprint.writes.items ≡ cells_by_change d.roster d.history e c
    go (Do op) is back =
        let l = last_operation ro h ks T d (action_of e op) is keeps in
        ap (λ (x : KeptOperation). x.footprint.writes.items) (last_is ks l.front k l.kept l.whole last) ∙ l.written
    go (Undo n) is back = absurd back
    go (Rekey k) is back = absurd back

-- the cells of an undo are those that were kept of the operation
pub undone_cells : (d : DeskState) (e : Entry) (u : Undone) → Good d.roster d.history → TakesChangeBack d e e.change (Held u) → u.operation.footprint.writes.items ≡ cells_of d.roster d.history e
undone_cells d e u good = go e.change
  where
    go : (c : Change) → TakesChangeBack d e c (Held u) → u.operation.footprint.writes.items ≡ cells_by_change d.roster d.history e c
    go (Do op) back = absurd back
    go (Undo n) back = kept_writes d.roster d.history n u.operation good back.kept
    go (Rekey k) back = absurd back

-- a rekey has none
pub no_cells : (d : DeskState) (e : Entry) (key : List ℕ) → TakesChangeBack d e e.change (Named key) → [] ≡ cells_of d.roster d.history e
no_cells d e key = go e.change
  where
    go : (c : Change) → TakesChangeBack d e c (Named key) → [] ≡ cells_by_change d.roster d.history e c
    go (Do op) back = absurd back
    go (Undo n) back = absurd back
    go (Rekey k) back = refl

-- and is taken back by its key
pub of_rekey : (d : DeskState) (e : Entry) (key : List ℕ) → TakesChangeBack d e e.change (Named key) → e.change ≡ Rekey key
of_rekey d e key = go e.change
  where
    go : (c : Change) → TakesChangeBack d e c (Named key) → c ≡ Rekey key
    go (Do op) back = absurd back
    go (Undo n) back = absurd back
    go (Rekey k) back = ap Rekey (sym back)

-- an entry that is taken back by what it took out is an undo
pub of_undo : (d : DeskState) (e : Entry) (u : Undone) → TakesChangeBack d e e.change (Held u) → (n : ℕ) × (e.change ≡ Undo n) × TakesUndoBack d e n u
of_undo d e u = go e.change
  where
    go : (c : Change) → TakesChangeBack d e c (Held u) → (n : ℕ) × (c ≡ Undo n) × TakesUndoBack d e n u
    go (Do op) back = absurd back
    go (Undo n) back = (n, refl, back)
    go (Rekey k) back = absurd back

-- ---- a refusal that is passed on

pub refused_by : {X : Type 0} (P : Refusal → Type 0) (r : Result X Refusal) (x : Refusal) → IsErrAnd r (λ e. e ≡ x) → P x → IfErr r P
refused_by P (Ok v) x is p = tt
refused_by P (Err e) x is p = subst P (sym is) p

-- what holds of each success, after one
pub succeeded : {X E P : Type 0} (r : Result X E) (b : Bool) → b ≡ is_err r → b ≡ false → OnOk r P → P
succeeded (Ok v) b is fine p = p
succeeded (Err e) b is fine p = absurd (both_ways b fine is)

-- what holds anyway holds of a success, and of a failure
pub on_ok : {X E P : Type 0} (r : Result X E) → P → OnOk r P
on_ok (Ok v) p = p
on_ok (Err e) p = tt

pub on_err : {X E P : Type 0} (r : Result X E) → P → OnErr r P
on_err (Ok v) p = tt
on_err (Err e) p = p

-- ---- groups with their handles

-- of a principal: a group of which a pointer is in what is written, with its i-handle
abbrev pub handle_of : Tree → List Area → Principal → List (ℕ × List ℕ)
handle_of T w (User u) = []
handle_of T w (Group g) = cond (carries g w) (with_handle T g ∷ []) []

abbrev pub handles_among : Tree → List Area → List Principal → List (ℕ × List ℕ)
handles_among T w [] = []
handles_among T w (p ∷ ps) = handle_of T w p ++ handles_among T w ps

pub handles-push : (T : Tree) (w : List Area) (ps : List Principal) (p : Principal) → handles_among T w (ps ++ p ∷ []) ≡ handles_among T w ps ++ handle_of T w p
handles-push T w [] p = append-nil (handle_of T w p)
handles-push T w (q ∷ ps) p = ap (λ xs. handle_of T w q ++ xs) (handles-push T w ps p) ∙ sym (append_assoc (handle_of T w q) (handles_among T w ps) (handle_of T w p))

after_users : (T : Tree) (w : List Area) (us : List (ℕ × List ℕ)) (ps : List Principal) → handles_among T w (map user_principal us ++ ps) ≡ handles_among T w ps
after_users T w [] ps = refl
after_users T w (u ∷ us) ps = after_users T w us ps

of_groups : (T : Tree) (w : List Area) (gs : List (ℕ × List ℕ)) → handles_among T w (map group_principal gs) ≡ map (with_handle T) (filter (λ g. carries g w) (map (λ g. g.0) gs))
of_groups T w [] = refl
of_groups T w (g ∷ gs) = go (carries g.0 w) (of_groups T w gs)
  where
    rest : List ℕ
    rest = filter (λ g. carries g w) (map (λ g. g.0) gs)

    go : (b : Bool) → handles_among T w (map group_principal gs) ≡ map (with_handle T) rest → cond b (with_handle T g.0 ∷ []) [] ++ handles_among T w (map group_principal gs) ≡ map (with_handle T) (cond b (g.0 ∷ rest) rest)
    go true ih = ap (λ xs. with_handle T g.0 ∷ xs) ih
    go false ih = ih

pub handles_carried : (T : Tree) (w : List Area) (ro : Membership) → handles_among T w (principals ro) ≡ carried_handles ro w T
handles_carried T w ro = after_users T w ro.users (map group_principal ro.groups) ∙ of_groups T w ro.groups

-- those among the principals so far, and of one more
pub handles_next : (T : Tree) (w : List Area) (all ps : List Principal) (p : Principal) (now new : List (ℕ × List ℕ)) → all ≡ ps ++ p ∷ [] → now ≡ handles_among T w ps → new ≡ now ++ handle_of T w p → new ≡ handles_among T w all
handles_next T w all ps p now new more is one = one ∙ ap (λ xs. xs ++ handle_of T w p) is ∙ sym (handles-push T w ps p) ∙ ap (handles_among T w) (sym more)

-- the numbers of those, whatever the tree
pub numbers_next : (w : List Area) (all ps : List Principal) (p : Principal) (now new more : List (ℕ × List ℕ)) → all ≡ ps ++ p ∷ [] → map (λ x. x.0) now ≡ map (λ x. x.0) (handles_among genesis w ps)
    → new ≡ now ++ more → map (λ x. x.0) more ≡ map (λ x. x.0) (handle_of genesis w p) → map (λ x. x.0) new ≡ map (λ x. x.0) (handles_among genesis w all)
numbers_next w all ps p now new more whole is one same =
    ap (map (λ x. x.0)) one ∙ map-append (λ x. x.0) now more ∙ (λ i. is i ++ same i)
    ∙ sym (map-append (λ x. x.0) (handles_among genesis w ps) (handle_of genesis w p)) ∙ ap (map (λ x. x.0)) (sym (handles-push genesis w ps p) ∙ ap (handles_among genesis w) (sym whole))

firsts : (T : Tree) (gs : List ℕ) → map (λ x. x.0) (map (with_handle T) gs) ≡ gs
firsts T [] = refl
firsts T (g ∷ gs) = ap (λ l. g ∷ l) (firsts T gs)

-- the principals of version numbers
pub numbers_first : (ro : Membership) (h : List Entry) (ps : List Principal) → map (λ v. v.0) (map (numbered ro h) ps) ≡ ps
numbers_first ro h [] = refl
numbers_first ro h (p ∷ ps) = ap (λ l. p ∷ l) (numbers_first ro h ps)

pub numbers_carried : (w : List Area) (ro : Membership) → map (λ x. x.0) (handles_among genesis w (principals ro)) ≡ carried_groups ro w
numbers_carried w ro = ap (map (λ x. x.0)) (handles_carried genesis w ro) ∙ firsts genesis (carried_groups ro w)

-- of a group that is carried, and of one that isn't
pub carried_one : (T : Tree) (w : List Area) (p : Principal) (g : ℕ) (b : Bool) → p ≡ Group g → b ≡ carries g w → b ≡ true → handle_of T w p ≡ with_handle T g ∷ []
carried_one T w p g b group is holds = ap (handle_of T w) group ∙ ap (λ x. cond x (with_handle T g ∷ []) []) (sym is ∙ holds)

pub carried_none : (T : Tree) (w : List Area) (p : Principal) (g : ℕ) (b : Bool) → p ≡ Group g → b ≡ carries g w → b ≡ false → handle_of T w p ≡ []
carried_none T w p g b group is fails = ap (handle_of T w) group ∙ ap (λ x. cond x (with_handle T g ∷ []) []) (sym is ∙ fails)
