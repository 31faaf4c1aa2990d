-- What stands in the way of an operation, and what undos of that leave.
use Rattle.std.proofs.Common.{◌≡◌, ℕ, zero, suc, ◌+◌, ◌-◌, ◌<◌, ◌≤◌, Bool, true, false, not, cond, List, [], ◌∷◌, ◌++◌, length, take, drop, set, nat_eq, ◌&&◌, Option, Some, None, option_map, map, OnOk, Result, Ok, Err, IfErr, refl, sym, ap, ◌∙◌, subst, arith, slice_get, get_or, inl, inr}
use Rattle.std.specs.Prelude.{All, Contains, ◌⊎◌, IsErrAnd}
use Rattle.std.specs.List.{filter}
use Rattle.std.specs.Option.{option_or}
use Rattle.std.proofs.lemmas.List.{append_assoc, append-nil, set_split, set-get_or, length-take, length-drop, length-append, length-map, map-append}
use Rattle.std.proofs.lemmas.Option.{slice_get_cases, slice_get-get_or, slice_get-map}
use Rattle.std.proofs.lemmas.List.Elements.{All-append, All-contains, All-contains_itself, All-drop, All-nil, All-push, All-same, All-take, All-weaker}
use Rattle.su_bytes.specs.Membership.{Membership, has_user}
use Rattle.su_table.specs.Tree.{Tree}
use Rattle.su_bytes.specs.Format.{is_as_new}
use Rattle.su_bytes.specs.declared.formats.Format.{Format}
use Rattle.su_bytes.specs.declared.formats.Format.TheVariants.{V1, V2, V3, V4}
use Rattle.su_bytes.specs.declared.formats.TheConstants.{NEWEST_FORMAT}
use Rattle.su_bytes.specs.declared.refusals.Refusal.{Refusal}
use Rattle.su_bytes.specs.declared.refusals.Refusal.TheVariants.{Blocked, NoOperation, NoUser, OldFormat, NotOperation, AlreadyUndone}
use Rattle.su_op.specs.Action.{change_format}
use Rattle.su_op.specs.declared.operations.Change.{Change}
use Rattle.su_op.specs.declared.operations.Change.TheVariants.{Do, Undo, Rekey}
use Rattle.su_desk.specs.declared.entries.Entry.{Entry}
use Rattle.su_desk.specs.History.{NumberedAction, entry_at, format_after, is_undone, live, operation_by_change, operation_of, operations_from, undo_by, undoer, undoer_from, undoes}
use Rattle.su_desk.specs.Blocker.{blocker, IsLastReader, ReadsCellOf}
use Rattle.su_desk.specs.Desk.{DeskState, with_entry}
use Rattle.su_desk.specs.Headline.{Headline}
use Rattle.su_desk.specs.Answer.{author_refusal, blocked_refusal, format_refusal, change_refusal, entry_refusal, live_refusal, undone_refusal, undo_refusal, refusal_of, answer, reply, GoodAfter}
use Rattle.su_part_tree.specs.Loading.{IsLoadRefusal}
use Rattle.su_stored_desk.specs.Asked.{Answers}
use Rattle.su_reasons.specs.Reasons.{AreReasons, IsInTheWay, IsLive, author_in, undo_of, undos_of, IsInTheWay.of_itself, IsInTheWay.of_another}
use Rattle.su_reasons.proofs.LiveEntries.{live_has, entry_front, reads_front, slice_front}

module _ (ro : Membership) (h : List Entry) (n : ℕ) where
  -- a live operation of that number, which comes behind n
  pub record IsLater (m : ℕ) : Type 0 where
    pub operation : NumberedAction
    pub is_live : Contains (live h) operation
    pub number : operation.number ≡ m
    pub later : n < m

  pub way_later : (m : ℕ) → IsInTheWay ro h n m → IsLater m
  way_later m (of_itself t there reads) = record { operation = t; is_live = there; number = refl; later = reads.later }
  way_later m (of_another k t way there reads) =
      let before = (way_later k way).later in
      let behind = reads.later in
      record { operation = t; is_live = there; number = refl; later = omega arith }

-- what stands in the way behind further entries, which made nothing live, did so before them
pub way_front : (ro : Membership) (h us : List Entry) (n m : ℕ) → All (Contains (live h)) (live (h ++ us)) → IsInTheWay ro (h ++ us) n m → IsInTheWay ro h n m
way_front ro h us n m all (of_itself t there reads) =
    let was = All-contains (Contains (live h)) (live (h ++ us)) t all there in
    let last = (live_has h t was).most in
    of_itself t was (reads_front ro h us n t (omega arith) reads)
way_front ro h us n m all (of_another k t way there reads) =
    let was = All-contains (Contains (live h)) (live (h ++ us)) t all there in
    let last = (live_has h t was).most in
    of_another k t (way_front ro h us n k all way) was (reads_front ro h us k t (omega arith) reads)

-- ---- a live number stays one

-- who undid n, where there is one entry more
undoer_more : (k : ℕ) (h : List Entry) (u : Entry) (n : ℕ) → undoes n u.change ≡ false → undoer_from k h n ≡ None → undoer_from k (h ++ u ∷ []) n ≡ None
undoer_more k [] u n other none = ap (λ b. cond b (Some k) None) other
undoer_more k (e ∷ h) u n other none = go (undoes n e.change) none (undoer_more (k + 1) h u n other)
  where
    go : (b : Bool) → cond b (Some k) (undoer_from (k + 1) h n) ≡ None → (undoer_from (k + 1) h n ≡ None → undoer_from (k + 1) (h ++ u ∷ []) n ≡ None) → cond b (Some k) (undoer_from (k + 1) (h ++ u ∷ []) n) ≡ None
    go true e more = absurd (let bad : Some k ≡ None = e in cc)
    go false e more = more e

-- what is no refusal of n has an entry n
in_front : (h : List Entry) (n : ℕ) → live_refusal h n ≡ None → n ≤ length h
in_front h n e = go (nat_eq n 0) refl e
  where
    within : (i : ℕ) → entry_refusal h n (slice_get h i) ≡ None → i < length h
    within i e = by (slice_get_cases h i)
      where
        by : (slice_get h i ≡ slice_get h i) × (((x : Entry) × (i < length h) × (slice_get h i ≡ Some x) × (get_or h i x ≡ x)) ⊎ ((length h ≤ i) × (slice_get h i ≡ None))) → i < length h
        by (is, inl there) = there.1
        by (is, inr past) = absurd (let bad : Some (NoOperation n) ≡ None = ap (entry_refusal h n) (sym past.1) ∙ e in cc)

    go : (b : Bool) → nat_eq n 0 ≡ b → entry_refusal h n (cond b None (slice_get h (n - 1))) ≡ None → n ≤ length h
    go true is e = grind arith
    go false is e = let least = within (n - 1) e in omega (arith, least)

pub stays_live : (h : List Entry) (a : ℕ) (f : Format) (m n : ℕ) → n < m → live_refusal h n ≡ None → live_refusal (h ++ undo_by a f m ∷ []) n ≡ None
stays_live h a f m n lt e = ap (entry_refusal (h ++ undo_by a f m ∷ []) n) (entry_front h (undo_by a f m ∷ []) n (in_front h n e)) ∙ go (entry_at h n) e
  where
    other : undoes n (Undo m) ≡ false
    other = grind arith

    free : (o : Option ℕ) → undone_refusal n o ≡ None → o ≡ None
    free None e = refl
    free (Some by) e = absurd (let bad : Some (AlreadyUndone n by) ≡ None = e in cc)

    change : (c : Change) → change_refusal h n c ≡ None → change_refusal (h ++ undo_by a f m ∷ []) n c ≡ None
    change (Do op) e = ap (undone_refusal n) (undoer_more 1 h (undo_by a f m) n other (free (undoer h n) e))
    change (Undo k) e = e
    change (Rekey k) e = e

    go : (o : Option Entry) → entry_refusal h n o ≡ None → entry_refusal (h ++ undo_by a f m ∷ []) n o ≡ None
    go None e = e
    go (Some x) e = change x.change e

-- ---- more is undone

pub good_more : (ro : Membership) (h us : List Entry) (u : Entry) → GoodAfter ro h us → refusal_of ro (h ++ us) u ≡ None → GoodAfter ro h (us ++ u ∷ [])
good_more ro h [] u good e = (subst (λ (g : List Entry). refusal_of ro g u ≡ None) (append-nil h) e, tt)
good_more ro h (v ∷ us) u good e = (good.0, good_more ro (h ++ v ∷ []) us u good.1 (subst (λ (g : List Entry). refusal_of ro g u ≡ None) (sym (append_assoc h (v ∷ []) us)) e))

-- what is left of a list is no longer than it
filter_most : {X : Type 0} (p : X → Bool) (xs : List X) → length (filter p xs) ≤ length xs
filter_most p [] = omega arith
filter_most p (x ∷ xs) = go (p x) (filter_most p xs)
  where
    go : (b : Bool) → length (filter p xs) ≤ length xs → length (cond b (x ∷ filter p xs) (filter p xs)) ≤ length (x ∷ xs)
    go true most = omega (arith, most)
    go false most = omega (arith, most)

-- and shorter, where an element is left out
pub filter_shorter : {X : Type 0} (p : X → Bool) (xs : List X) (x : X) (i : ℕ) → slice_get xs i ≡ Some x → p x ≡ false → length (filter p xs) < length xs
filter_shorter p [] x i e out = absurd (let bad : None ≡ Some x = e in cc)
filter_shorter p (y ∷ xs) x zero e out =
    let same : y ≡ x = cc in
    let most = filter_most p xs in
    let is : length (cond (p y) (y ∷ filter p xs) (filter p xs)) ≡ length (filter p xs) = ap (λ b. length (cond b (y ∷ filter p xs) (filter p xs))) (ap p same ∙ out) in
    omega (arith, most, is)
filter_shorter p (y ∷ xs) x (suc i) e out = go (p y) (filter_shorter p xs x i e out)
  where
    go : (b : Bool) → length (filter p xs) < length xs → length (cond b (y ∷ filter p xs) (filter p xs)) < length (y ∷ xs)
    go true less = omega (arith, less)
    go false less = omega (arith, less)

-- ---- from an operation over what blocks it

-- from n that number is reached, over what was found last
abbrev pub IsReached : Membership → List Entry → ℕ → Option ℕ → ℕ → Type 0
IsReached ro h n None at = at ≡ n
IsReached ro h n (Some m) at = (at ≡ m) × IsInTheWay ro h n m

-- what blocks it stands in the way
pub reached_more : (ro : Membership) (h : List Entry) (n : ℕ) (first : Option ℕ) (at m : ℕ) → IsReached ro h n first at → IsLastReader ro h at m → IsInTheWay ro h n m
reached_more ro h n None at m is r =
    subst (IsInTheWay ro h n) r.number (of_itself r.reader r.is_live (subst (λ k. ReadsCellOf ro h k r.reader) is r.reads))
reached_more ro h n (Some k) at m is r =
    subst (IsInTheWay ro h n) r.number (of_another k r.reader is.1 r.is_live (subst (λ j. ReadsCellOf ro h j r.reader) is.0 r.reads))

-- and is a later entry
pub reader_later : (ro : Membership) (h : List Entry) (at m : ℕ) → IsLastReader ro h at m → (at < m) × (m ≤ length h)
reader_later ro h at m r =
    let last = (live_has h r.reader r.is_live).most in
    let number = r.number in
    let later = r.reads.later in
    (omega (arith, number, later), omega (arith, number, last))

-- ---- a live operation is refused only for what blocks it

-- an element with those before and after it
pub record Among {X : Type 0} (xs : List X) (x : X) : Type 0 where
  pub before : List X
  pub after : List X
  pub whole : xs ≡ before ++ x ∷ after

pub among : {X : Type 0} (xs : List X) (x : X) → Contains xs x → Among xs x
among xs x c = record {
  before = take c.0 xs;
  after = drop (suc c.0) xs;
  whole = sym (sym (set_split xs c.0 x c.1) ∙ ap (set xs c.0) (sym c.2) ∙ set-get_or xs c.0 x);
}

-- why an entry is no live operation is never what blocks one
never_blocked : (h : List Entry) (n m : ℕ) → live_refusal h n ≡ Some (Blocked m) → ⊥
never_blocked h n m e = entry (entry_at h n) e
  where
    undone : (o : Option ℕ) → undone_refusal n o ≡ Some (Blocked m) → ⊥
    undone None e = let bad : None ≡ Some (Blocked m) = e in cc
    undone (Some by) e = let bad : Some (AlreadyUndone n by) ≡ Some (Blocked m) = e in cc

    change : (c : Change) → change_refusal h n c ≡ Some (Blocked m) → ⊥
    change (Do op) e = undone (undoer h n) e
    change (Undo k) e = let bad : Some (NotOperation n) ≡ Some (Blocked m) = e in cc
    change (Rekey k) e = let bad : Some (NotOperation n) ≡ Some (Blocked m) = e in cc

    entry : (o : Option Entry) → entry_refusal h n o ≡ Some (Blocked m) → ⊥
    entry None e = let bad : Some (NoOperation n) ≡ Some (Blocked m) = e in cc
    entry (Some x) e = change x.change e

-- the refusal of a user's undo, where it is none or what blocks it
or_blocked : (ro : Membership) (h : List Entry) (a n : ℕ) (o : Option ℕ) → undo_refusal ro h a n ≡ blocked_refusal o → live_refusal h n ≡ None
or_blocked ro h a n o e = user (has_user ro a) e
  where
    some : (r : Refusal) (o : Option ℕ) → live_refusal h n ≡ Some r → Some r ≡ blocked_refusal o → ⊥
    some r None is e = let bad : Some r ≡ None = e in cc
    some r (Some m) is e = never_blocked h n m (is ∙ e)

    live : (l : Option Refusal) → live_refusal h n ≡ l → option_or l (option_or (author_refusal a (entry_at h n)) (blocked_refusal (blocker ro h n))) ≡ blocked_refusal o → live_refusal h n ≡ None
    live None is e = is
    live (Some r) is e = absurd (some r o is e)

    none : (o : Option ℕ) → Some (NoUser a) ≡ blocked_refusal o → ⊥
    none None e = let bad : Some (NoUser a) ≡ None = e in cc
    none (Some m) e = let bad : Some (NoUser a) ≡ Some (Blocked m) = e in cc

    user : (b : Bool) → cond b (option_or (live_refusal h n) (option_or (author_refusal a (entry_at h n)) (blocked_refusal (blocker ro h n)))) (Some (NoUser a)) ≡ blocked_refusal o → live_refusal h n ≡ None
    user true e = live (live_refusal h n) refl e
    user false e = absurd (none o e)

pub undo_refused : (ro : Membership) (h : List Entry) (T : Tree) → Headline ro h T → (n : ℕ) (l : IsLive h n) → undo_refusal ro h l.operation.action.author n ≡ blocked_refusal (blocker ro h n)
undo_refused ro h T head n l =
    let split = among (live h) l.operation l.is_there in
    subst (λ k. undo_refusal ro h l.operation.action.author k ≡ blocked_refusal (blocker ro h k)) l.number
    (head.blocked split.before split.after l.operation split.whole)

pub live_passes : (ro : Membership) (h : List Entry) (T : Tree) → Headline ro h T → (n : ℕ) → IsLive h n → live_refusal h n ≡ None
live_passes ro h T head n l = or_blocked ro h l.operation.action.author n (blocker ro h n) (undo_refused ro h T head n l)

-- where it is reached over what blocks it, only n itself may be refused as none
pub reached_refused : (ro : Membership) (h : List Entry) (T : Tree) → Headline ro h T → (n : ℕ) (first : Option ℕ) (at : ℕ) (e : Refusal) → IsReached ro h n first at → live_refusal h at ≡ Some e → live_refusal h n ≡ Some e
reached_refused ro h T head n None at e is refused = subst (λ k. live_refusal h k ≡ Some e) is refused
reached_refused ro h T head n (Some m) at e is refused =
    let l = way_later ro h n m is.1 in
    let passes : live_refusal h m ≡ None = live_passes ro h T head m (record { operation = l.operation; is_there = l.is_live; number = l.number }) in
    let again : live_refusal h m ≡ Some e = subst (λ k. live_refusal h k ≡ Some e) is.0 refused in
    absurd (let bad : None ≡ Some e = sym passes ∙ again in cc)

pub refused_by : {X : Type 0} (P : Refusal → Type 0) (r : Result X Refusal) (x : Refusal) → IsErrAnd r (λ e. e ≡ x) → P x → IfErr r P
refused_by P (Ok v) x is p = tt
refused_by P (Err e) x is p = subst P (sym is) p

-- ---- an undo that nothing blocks is accepted

-- an undo in the newest format is never refused for that
newest_fits : (h : List Entry) (n : ℕ) → format_refusal h NEWEST_FORMAT (Undo n) ≡ None
newest_fits h n = go (format_after h)
  where
    go : (f : Format) → cond (is_as_new NEWEST_FORMAT f && is_as_new NEWEST_FORMAT (change_format (Undo n))) None (Some OldFormat) ≡ None
    go V1 = refl
    go V2 = refl
    go V3 = refl
    go V4 = refl

pub undo_accepted : (ro : Membership) (h : List Entry) (T : Tree) → Headline ro h T → (n : ℕ) → IsLive h n → blocker ro h n ≡ None → refusal_of ro h (undo_of h n) ≡ None
undo_accepted ro h T head n l free =
    let has = live_has h l.operation l.is_there in
    let least = has.least in
    let number = l.number in
    let there : entry_at h n ≡ Some has.entry = entry_of n has.entry (omega (arith, least, number)) (ap (λ k. slice_get h (k - 1)) (sym l.number) ∙ has.there) in
    let author : author_in (entry_at h n) ≡ l.operation.action.author = ap author_in there ∙ has.author in
    ap (λ r. option_or r (undo_refusal ro h (author_in (entry_at h n)) n)) (newest_fits h n)
    ∙ ap (λ a. undo_refusal ro h a n) author
    ∙ undo_refused ro h T head n l
    ∙ ap blocked_refusal free
  where
    entry_of : (n : ℕ) (x : Entry) → 1 ≤ n → slice_get h (n - 1) ≡ Some x → entry_at h n ≡ Some x
    entry_of n x some is = let other : nat_eq n 0 ≡ false = grind arith in ap (λ b. cond b None (slice_get h (n - 1))) other ∙ is

-- ---- whose entry it is

pub author_there : (h : List Entry) (authors others : List ℕ) (n : ℕ) (l : IsLive h n) (a : ℕ) → map (λ (e : Entry). e.author) h ≡ authors ++ others → n ≤ length authors → a ≡ get_or authors (n - 1) a → author_in (entry_at h n) ≡ a
author_there h authors others n l a known among is =
    let has = live_has h l.operation l.is_there in
    let least = has.least in
    let number = l.number in
    let some : 1 ≤ n = omega (arith, least, number) in
    let there : slice_get h (n - 1) ≡ Some has.entry = ap (λ k. slice_get h (k - 1)) (sym l.number) ∙ has.there in
    let told : Some has.entry.author ≡ Some a
    = sym (ap (option_map (λ (e : Entry). e.author)) there) ∙ sym (slice_get-map (λ (e : Entry). e.author) h (n - 1)) ∙ ap (λ xs. slice_get xs (n - 1)) known
    ∙ slice_front authors others (n - 1) (omega (arith, some, among)) ∙ slice_get-get_or authors (n - 1) a (omega (arith, some, among)) ∙ ap Some (sym is) in
    ap author_in (at_entry n has.entry some there) ∙ (let same : has.entry.author ≡ a = cc in same)
  where
    at_entry : (n : ℕ) (x : Entry) → 1 ≤ n → slice_get h (n - 1) ≡ Some x → entry_at h n ≡ Some x
    at_entry n x some is = let other : nat_eq n 0 ≡ false = grind arith in ap (λ b. cond b None (slice_get h (n - 1))) other ∙ is

-- what a desk answers to an entry that is accepted
answered : (ro : Membership) (h : List Entry) (e : Entry) → refusal_of ro h e ≡ None → answer ro h e ≡ Ok (length h + 1)
unfolding answer
answered ro h e accepted = ap (reply (length h + 1)) accepted

pub answers_accepted : (d : DeskState) (e : Entry) (r : Result ℕ Refusal) (d' : DeskState) → Answers d e r d' → refusal_of d.roster d.history e ≡ None → OnOk r (d' ≡ with_entry d e) × IfErr r IsLoadRefusal
answers_accepted d e (Ok n) d' answers accepted = (answers.1, tt)
answers_accepted d e (Err x) d' answers accepted = (tt, either answers.0)
  where
    either : IsLoadRefusal x ⊎ (answer d.roster d.history e ≡ Err x) → IsLoadRefusal x
    either (inl load) = load
    either (inr refused) = absurd (let bad : Ok (length d.history + 1) ≡ Err x = sym (answered d.roster d.history e accepted) ∙ refused in cc)

-- and to the undo of a live operation that nothing blocks, by its author
pub undo_answered : (d d' : DeskState) (T : Tree) → Headline d.roster d.history T → (authors others : List ℕ) (n : ℕ) → IsLive d.history n → (a : ℕ) (r : Result ℕ Refusal)
    → map (λ (e : Entry). e.author) d.history ≡ authors ++ others → n ≤ length authors → a ≡ get_or authors (n - 1) a → blocker d.roster d.history n ≡ None → Answers d (undo_by a NEWEST_FORMAT n) r d'
    → OnOk r (d' ≡ with_entry d (undo_of d.history n)) × IfErr r IsLoadRefusal
undo_answered d d' T head authors others n l a r known among is free answers =
    answers_accepted d (undo_of d.history n) r d'
    (subst (λ b. Answers d (undo_by b NEWEST_FORMAT n) r d') (sym (author_there d.history authors others n l a known among is)) answers)
    (undo_accepted d.roster d.history T head n l free)

-- ---- what an undo leaves live

pub live_after : (ro : Membership) (h : List Entry) (T : Tree) → Headline ro h T → (n : ℕ) (l : IsLive h n) (a : ℕ) (f : Format) → live (h ++ undo_by a f n ∷ []) ≡ take l.is_there.0 (live h) ++ drop (suc l.is_there.0) (live h)
unfolding among
live_after ro h T head n l a f =
    let split = among (live h) l.operation l.is_there in
    subst (λ k. live (h ++ undo_by a f k ∷ []) ≡ take l.is_there.0 (live h) ++ drop (suc l.is_there.0) (live h)) l.number
    (head.out split.before split.after l.operation a f split.whole)

pub fewer_live : (ro : Membership) (h : List Entry) (T : Tree) → Headline ro h T → (n : ℕ) (l : IsLive h n) (a : ℕ) (f : Format) → length (live (h ++ undo_by a f n ∷ [])) < length (live h)
fewer_live ro h T head n l a f =
    let k = l.is_there.0 in
    let there = l.is_there.1 in
    let front = length-take k (live h) in
    let rest = length-drop (suc k) (live h) in
    let both = length-append (take k (live h)) (drop (suc k) (live h)) in
    let is = ap (λ (ts : List NumberedAction). length ts) (live_after ro h T head n l a f) in
    grind (arith, there, front, rest, both, is)

pub none_new : (ro : Membership) (h : List Entry) (T : Tree) → Headline ro h T → (n : ℕ) (l : IsLive h n) (a : ℕ) (f : Format) → All (Contains (live h)) (live (h ++ undo_by a f n ∷ []))
none_new ro h T head n l a f =
    let k = l.is_there.0 in
    let P = Contains (live h) in
    let all = All-contains_itself (live h) in
    All-same P (live (h ++ undo_by a f n ∷ [])) (take k (live h) ++ drop (suc k) (live h)) (live_after ro h T head n l a f)
    (All-append P (take k (live h)) (drop (suc k) (live h)) (All-take P k (live h) all) (All-drop P (suc k) (live h) all))

-- ---- one reason more

-- a desk on which these were undone
pub record HasUndone (ro : Membership) (h : List Entry) (n : ℕ) (ms : List ℕ) (d : DeskState) : Type 0 where
  pub roster : d.roster ≡ ro
  pub history : d.history ≡ h ++ undos_of h ms
  pub live : All (Contains (live h)) (live d.history)

pub reason_front : (ro : Membership) (h : List Entry) (n : ℕ) (ms : List ℕ) (d : DeskState) (m : ℕ) → HasUndone ro h n ms d → IsInTheWay d.roster d.history n m → IsInTheWay ro h n m
reason_front ro h n ms d m has way =
    way_front ro h (undos_of h ms) n m (subst (λ g. All (Contains (live h)) (live g)) has.history has.live)
    (subst (λ g. IsInTheWay ro g n m) has.history (subst (λ r. IsInTheWay r d.history n m) has.roster way))

reason_among : (ro : Membership) (h : List Entry) (n m : ℕ) → IsInTheWay ro h n m → m ≤ length h
reason_among ro h n m way =
    let l = way_later ro h n m way in
    let most = (live_has h l.operation l.is_live).most in
    let number = l.number in
    omega (arith, most, number)

pub known_authors : (ro : Membership) (h : List Entry) (n : ℕ) (ms : List ℕ) (d : DeskState) (authors : List ℕ) → HasUndone ro h n ms d → authors ≡ map (λ (e : Entry). e.author) h
    → (others : List ℕ) × (map (λ (e : Entry). e.author) d.history ≡ authors ++ others)
known_authors ro h n ms d authors has is =
    let author = λ (e : Entry). e.author in
    (map author (undos_of h ms), ap (map author) has.history ∙ map-append author h (undos_of h ms) ∙ ap (λ xs. xs ++ map author (undos_of h ms)) (sym is))

pub known_reason : (ro : Membership) (h : List Entry) (n : ℕ) (ms : List ℕ) (d : DeskState) (m : ℕ) (authors : List ℕ) → HasUndone ro h n ms d → IsInTheWay d.roster d.history n m → authors ≡ map (λ (e : Entry). e.author) h
    → m ≤ length authors
known_reason ro h n ms d m authors has way is =
    let among = reason_among ro h n m (reason_front ro h n ms d m has way) in
    let long = ap (λ (xs : List ℕ). length xs) is ∙ length-map h (λ (e : Entry). e.author) in
    omega (arith, among, long)

pub is_live : (ro : Membership) (h : List Entry) (n m : ℕ) → IsInTheWay ro h n m → IsLive h m
is_live ro h n m way = let l = way_later ro h n m way in record { operation = l.operation; is_there = l.is_live; number = l.number }

-- the undo of m is that of the history before
same_undo : (ro : Membership) (h : List Entry) (n : ℕ) (ms : List ℕ) (d : DeskState) (m : ℕ) → HasUndone ro h n ms d → IsInTheWay d.roster d.history n m → undo_of d.history m ≡ undo_of h m
same_undo ro h n ms d m has way =
    ap (λ o. undo_by (author_in o) NEWEST_FORMAT m)
    (ap (λ g. entry_at g m) has.history ∙ entry_front h (undos_of h ms) m (reason_among ro h n m (reason_front ro h n ms d m has way)))

undos_more : (h : List Entry) (ms : List ℕ) (m : ℕ) → undos_of h (ms ++ m ∷ []) ≡ undos_of h ms ++ undo_of h m ∷ []
undos_more h ms m = map-append (undo_of h) ms (m ∷ [])

pub more_good : (ro : Membership) (h : List Entry) (n : ℕ) (ms : List ℕ) (d : DeskState) (m : ℕ) → HasUndone ro h n ms d → IsInTheWay d.roster d.history n m → GoodAfter ro h (undos_of h ms)
    → refusal_of d.roster d.history (undo_of d.history m) ≡ None → GoodAfter ro h (undos_of h (ms ++ m ∷ []))
more_good ro h n ms d m has way good accepted =
    let taken : refusal_of ro (h ++ undos_of h ms) (undo_of h m) ≡ None
    = subst (λ u. refusal_of ro (h ++ undos_of h ms) u ≡ None) (same_undo ro h n ms d m has way)
    (subst (λ g. refusal_of ro g (undo_of d.history m) ≡ None) has.history (subst (λ r. refusal_of r d.history (undo_of d.history m) ≡ None) has.roster accepted)) in
    subst (GoodAfter ro h) (sym (undos_more h ms m)) (good_more ro h (undos_of h ms) (undo_of h m) good taken)

pub more_undone : (ro : Membership) (h : List Entry) (n : ℕ) (ms : List ℕ) (d d' : DeskState) (m : ℕ) → HasUndone ro h n ms d → IsInTheWay d.roster d.history n m → d' ≡ with_entry d (undo_of d.history m)
    → All (Contains (live d.history)) (live d'.history) → HasUndone ro h n (ms ++ m ∷ []) d'
more_undone ro h n ms d d' m has way is none_new = record {
  roster = ap (λ (x : DeskState). x.roster) is ∙ has.roster;
  history = ap (λ (x : DeskState). x.history) is
      ∙ ap (λ g. g ++ undo_of d.history m ∷ []) has.history
      ∙ ap (λ u. (h ++ undos_of h ms) ++ u ∷ []) (same_undo ro h n ms d m has way)
      ∙ append_assoc h (undos_of h ms) (undo_of h m ∷ [])
      ∙ ap (λ us. h ++ us) (sym (undos_more h ms m));
  live = All-weaker (Contains (live d.history)) (Contains (live h)) (λ t there. All-contains (Contains (live h)) (live d.history) t has.live there) (live d'.history) none_new;
}

pub more_still : (n : ℕ) (d d' : DeskState) (m : ℕ) → IsInTheWay d.roster d.history n m → d' ≡ with_entry d (undo_of d.history m) → live_refusal d.history n ≡ None → live_refusal d'.history n ≡ None
more_still n d d' m way is still =
    ap (λ (x : DeskState). live_refusal x.history n) is
    ∙ stays_live d.history (author_in (entry_at d.history m)) NEWEST_FORMAT m n (way_later d.roster d.history n m way).later still

-- ---- reasons that were found and undone, one after another

-- no history has more live operations than entries
one_at_most : (k : ℕ) (e : Entry) (c : Change) → length (operation_by_change k e c) ≤ 1
one_at_most k e (Do op) = omega arith
one_at_most k e (Undo n) = omega arith
one_at_most k e (Rekey key) = omega arith

operations_most : (k : ℕ) (es : List Entry) → length (operations_from k es) ≤ length es
operations_most k [] = omega arith
operations_most k (e ∷ es) =
    let rest = operations_most (k + 1) es in
    let both = length-append (operation_of k e) (operations_from (k + 1) es) in
    let own = one_at_most k e e.change in
    omega (arith, rest, both, own)

live_most : (h : List Entry) → length (live h) ≤ length h
live_most h =
    let all = operations_most 1 h in
    let left = filter_most (λ (t : NumberedAction). not (is_undone h t.number)) (operations_from 1 h) in
    omega (arith, all, left)

-- from the desk d these were undone, reasons of n each, which led to e
pub record IsUndoneSoFar (d : DeskState) (n : ℕ) (ms : List ℕ) (e : DeskState) : Type 0 where
  pub in_the_way : All (IsInTheWay d.roster d.history n) ms
  pub good : GoodAfter d.roster d.history (undos_of d.history ms)
  pub has : HasUndone d.roster d.history n ms e
  pub still : live_refusal e.history n ≡ None
  pub count : length (live e.history) + length ms ≤ length d.history

pub none_yet : (d : DeskState) (n : ℕ) (ms : List ℕ) → ms ≡ [] → live_refusal d.history n ≡ None → IsUndoneSoFar d n ms d
none_yet d n ms none still = record {
  in_the_way = All-same (IsInTheWay d.roster d.history n) ms [] none (All-nil (IsInTheWay d.roster d.history n));
  good = subst (λ xs. GoodAfter d.roster d.history (undos_of d.history xs)) (sym none) tt;
  has = record {
    roster = refl;
    history = sym (append-nil d.history) ∙ ap (λ xs. d.history ++ undos_of d.history xs) (sym none);
    live = All-contains_itself (live d.history);
  };
  still = still;
  count =
      let most = live_most d.history in
      let long = ap (λ (xs : List ℕ). length xs) none in
      omega (arith, most, long);
}

pub one_more : (d : DeskState) (n : ℕ) (ms ms' : List ℕ) (e e' : DeskState) (m : ℕ) → IsUndoneSoFar d n ms e → ms' ≡ ms ++ m ∷ [] → IsInTheWay e.roster e.history n m → e' ≡ with_entry e (undo_of e.history m)
    → refusal_of e.roster e.history (undo_of e.history m) ≡ None → length (live e'.history) < length (live e.history) → All (Contains (live e.history)) (live e'.history) → IsUndoneSoFar d n ms' e'
one_more d n ms ms' e e' m far pushed way is accepted fewer none_new = record {
  in_the_way = All-same (IsInTheWay d.roster d.history n) ms' (ms ++ m ∷ []) pushed
      (All-push (IsInTheWay d.roster d.history n) ms m far.in_the_way (reason_front d.roster d.history n ms e m far.has way));
  good = subst (λ xs. GoodAfter d.roster d.history (undos_of d.history xs)) (sym pushed) (more_good d.roster d.history n ms e m far.has way far.good accepted);
  has = subst (λ xs. HasUndone d.roster d.history n xs e') (sym pushed) (more_undone d.roster d.history n ms e e' m far.has way is none_new);
  still = more_still n e e' m way is far.still;
  count =
      let was = far.count in
      let long = ap (λ (xs : List ℕ). length xs) pushed ∙ length-append ms (m ∷ []) in
      omega (arith, was, long, fewer);
}

-- there are no more of them than entries
pub never_more : (d : DeskState) (n : ℕ) (ms : List ℕ) (e : DeskState) (m : ℕ) → IsUndoneSoFar d n ms e → IsInTheWay e.roster e.history n m → length d.history ≤ length ms → ⊥
never_more d n ms e m far way all =
    let some = (way_later e.roster e.history n m way).is_live.1 in
    let count = far.count in
    omega (arith, some, count, all)

-- where nothing blocks n at last, these were its reasons
pub are_reasons : (d : DeskState) (n : ℕ) (ms : List ℕ) (e : DeskState) → IsUndoneSoFar d n ms e → blocker e.roster e.history n ≡ None → AreReasons d.roster d.history n ms
are_reasons d n ms e far free = record {
  in_the_way = far.in_the_way;
  undone = far.good;
  free = subst (λ g. blocker d.roster g n ≡ None) far.has.history (subst (λ r. blocker r e.history n ≡ None) far.has.roster free);
}

pub all_undone : (d : DeskState) (n : ℕ) (ms : List ℕ) (e : DeskState) → IsUndoneSoFar d n ms e → e ≡ record d { history = d.history ++ undos_of d.history ms }
all_undone d n ms e far =
    ap (λ (ro : Membership). record { roster = ro; history = e.history }) far.has.roster
    ∙ ap (λ (h : List Entry). record { roster = d.roster; history = h }) far.has.history
