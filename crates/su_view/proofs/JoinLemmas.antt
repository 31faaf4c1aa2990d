-- A commit that may be next, and the change that its item spells.
use Rattle.std.proofs.Common.{◌≡◌, ◌≢◌, ℕ, suc, ◌+◌, ◌≤◌, ◌<◌, ◌⊎◌, List, [], ◌∷◌, map, length, Option, Some, None, Result, Ok, Err, slice_index, refl, sym, ap, ◌∙◌, subst, arith, inl, inr}
use Rattle.std.specs.List.Sorted.{IsStrictlyIncreasing}
use Rattle.sha2.specs.Sha256.{sha256}
use Rattle.su_bytes.specs.Membership.{Membership, IsRoster}
use Rattle.su_bytes.specs.Order.{RefusedBy}
use Rattle.su_bytes.specs.declared.formats.Format.{Format}
use Rattle.su_bytes.specs.declared.refusals.Refusal.{Refusal}
use Rattle.su_bytes.specs.declared.refusals.Refusal.TheVariants.{NoMemory, WrongKey}
use Rattle.su_bytes.specs.declared.principals.Principal.{Principal}
use Rattle.su_bytes.specs.declared.principals.Principal.TheVariants.{User, Group}
use Rattle.su_format.specs.Format.{EachFrom}
use Rattle.su_op.specs.declared.operations.Change.{Change}
use Rattle.su_op.specs.Action.{named_key}
use Rattle.su_desk.specs.declared.entries.Entry.{Entry}
use Rattle.su_desk.specs.declared.prepared.Prepared.{Prepared}
use Rattle.su_desk.specs.Desk.{DeskState}
use Rattle.su_desk.specs.History.{entry_by}
use Rattle.su_desk.specs.Answer.{refusal_of, reply, answer}
use Rattle.su_desk.specs.Version.{carried_groups}
use Rattle.su_table.specs.Handle.{handle}
use Rattle.su_desk.specs.Trial.{TrialState, Tells, ready_with}
use Rattle.su_desk.proofs.VersionNumbers.{carried_ascend as groups_ascend}
use Rattle.su_version.specs.Version.{Version, IsCarried}
use Rattle.su_version.specs.Commit.{Commit, commit_bytes}
use Rattle.su_version.specs.Chain.{MayBeNext, next_order, tip}
use Rattle.su_change.specs.Item.{IsChange, HasItem, item_bytes}
use Rattle.su_legal.specs.Legal.{commits_of, entry_made, history, author_handle, group_handles, MayJoin}
use Rattle.su_view.specs.Holding.{HoldingState, with_more}
use Rattle.su_view.specs.Keeping.{held_in, holding_of, IsKeeping, JoinsNext, view_of}
use Rattle.su_view.specs.declared.records.Keeping.{Keeping}
use Rattle.su_view.specs.Joining.{AscendFrom, handle_in, IsOtherHandle, IsWrongHandle, HoldsHandles, fitting_order, IsRefusedWith, IsNotNext}
use Rattle.su_view.specs.declared.refusals.ViewRefusal.{ViewRefusal}
use Rattle.su_view.specs.declared.refusals.ViewRefusal.TheVariants.{Plain, WrongHandle, Change as ChangeRefused}
use Rattle.su_part_tree.specs.Loading.{IsLoadRefusal}
use Rattle.su_stored_desk.specs.Asked.{IsClear as IsDeskClear, NoneMixed, TrialOn}
use Rattle.su_stored_desk.specs.Right.{HasShape}
use Rattle.su_view.specs.Viewed.{FailsToLoad, Grows, IsClear, ViewOn}

-- the entry of the author and in the format that a version structure tells
pub made_as : (c : Commit) (v : Version) (f : Format) (a : ℕ) (change : Change) → v ≡ c.version → f ≡ v.format → a ≡ v.author → entry_by a f change ≡ entry_made c change
made_as c v f a change is in_format by = λ i. entry_by ((by ∙ ap (λ (v : Version). v.author) is) i) ((in_format ∙ ap (λ (v : Version). v.format) is) i) change

-- ---- answers of a desk

refused_reply : (n : ℕ) (o : Option Refusal) (e : Refusal) → reply n o ≡ Err e → o ≡ Some e
refused_reply n None e is = absurd cc
refused_reply n (Some x) e is = cc

accepted_reply : (n m : ℕ) (o : Option Refusal) → reply n o ≡ Ok m → o ≡ None
accepted_reply n m None is = refl
accepted_reply n m (Some x) is = absurd cc

pub refused_answer : (ro : Membership) (h : List Entry) (e : Entry) (r : Refusal) → answer ro h e ≡ Err r → refusal_of ro h e ≡ Some r
unfolding answer
refused_answer ro h e r is = refused_reply (length h + 1) (refusal_of ro h e) r is

pub accepted_answer : (ro : Membership) (h : List Entry) (e : Entry) (n : ℕ) → answer ro h e ≡ Ok n → refusal_of ro h e ≡ None
unfolding answer
accepted_answer ro h e n is = accepted_reply (length h + 1) n (refusal_of ro h e) is

-- ---- groups ascend

pub carried_ascend : (least : ℕ) (groups : List (ℕ × List ℕ)) → EachFrom IsCarried (λ g. g.0 + 1) least groups → AscendFrom least groups
carried_ascend least [] each = tt
carried_ascend least (g ∷ groups) (here, each) = (here.above, carried_ascend (g.0 + 1) groups each)

rise_from : (f : ℕ → List ℕ) (least : ℕ) (gs : List ℕ) → (0 < length gs → least ≤ slice_index gs 0) → IsStrictlyIncreasing gs → AscendFrom least (map (λ g. (g, f g)) gs)
rise_from f least [] low rising = tt
rise_from f least (g ∷ gs) low rising = (low (omega arith), rise_from f (g + 1) gs (λ some. let above = rising 0 (omega (arith, some)) in omega (arith, above)) later)
  where
    later : (k : ℕ) → k + 1 < length gs → slice_index gs k < slice_index gs (k + 1)
    later k within =
        let next : suc k + 1 ≡ suc (k + 1) = omega arith in
        subst (λ n. slice_index gs k < slice_index (g ∷ gs) n) next (rising (suc k) (omega (arith, within)))

pub handles_ascend : (f : ℕ → List ℕ) (gs : List ℕ) → IsStrictlyIncreasing gs → AscendFrom 0 (map (λ g. (g, f g)) gs)
handles_ascend f gs rising = rise_from f 0 gs (λ some. omega arith) rising

-- ---- what joins, and what doesn't

module _ (v : HoldingState) (c : Commit) (change : Change) (item : List ℕ) (is_change : IsChange change) (has_item : HasItem change) (spelled : item ≡ item_bytes change) where
  unfit : (e : ViewRefusal) → RefusedBy (fitting_order v c change) e → IsRefusedWith v c item e
  unfit e why = inr (record { change = change; is_change = is_change; has_item = has_item; spelled = spelled; unfit = why })

  -- the desk refused the change, or there was no room
  pub not_prepared : (e : Refusal) (r : ViewRefusal)
      → ((e ≡ NoMemory) ⊎ (answer v.roster (history v.held) (entry_made c change) ≡ Err e))
      → (((e ≡ NoMemory) × (r ≡ Plain NoMemory)) ⊎ ((e ≢ NoMemory) × (r ≡ ChangeRefused e)))
      → (r ≡ Plain NoMemory) ⊎ IsRefusedWith v c item r
  not_prepared e r why (inl (none, is)) = inl is
  not_prepared e r (inl none) (inr (other, is)) = absurd (other none)
  not_prepared e r (inr refused) (inr (other, is)) =
      let why = refused_answer v.roster (history v.held) (entry_made c change) e refused in
      inr (unfit r (inl ((e, is, why), λ none. let clash : Some e ≡ None = sym why ∙ none in absurd cc)))

  -- where one is another, they aren't all held
  other_than : (p : Principal) → IsWrongHandle v c change p → HoldsHandles v c change → ⊥
  other_than (User u) wrong (author, groups) = wrong.1 author
  other_than (Group g) wrong (author, groups) = wrong.1.other (ap (λ l. handle_in l g) groups)

  -- the next key is another than the one that the change names
  pub other_key : (n : ℕ) → answer v.roster (history v.held) (entry_made c change) ≡ Ok n
      → (c.version.next_key ≡ named_key change → ⊥) → IsRefusedWith v c item (Plain WrongKey)
  other_key n accepted other =
      unfit (Plain WrongKey) (inr (accepted_answer v.roster (history v.held) (entry_made c change) n accepted, inl (refl, other)))

  -- a handle is another than the one that was told
  pub other_handle : (n : ℕ) (handle : List ℕ) (groups : List (ℕ × List ℕ)) (p : Principal)
      → answer v.roster (history v.held) (entry_made c change) ≡ Ok n
      → handle ≡ author_handle v.roster (history v.held) (entry_made c change)
      → groups ≡ group_handles v.roster (history v.held) (entry_made c change)
      → c.version.next_key ≡ named_key change → IsOtherHandle c.version handle groups p → IsRefusedWith v c item (WrongHandle p)
  other_handle n handle groups p accepted told_handle told_groups key other =
      let wrong = subst (λ gs. IsOtherHandle c.version (author_handle v.roster (history v.held) (entry_made c change)) gs p) told_groups
      (subst (λ d. IsOtherHandle c.version d groups p) told_handle other) in
      unfit (WrongHandle p) (inr (accepted_answer v.roster (history v.held) (entry_made c change) n accepted, inr (key, inl ((p, refl, wrong), other_than p wrong))))

  -- all handles are those that were told
  pub may_join : (n : ℕ) → MayBeNext v.roster (commits_of v.held) c → sha256 item ≡ c.version.change
      → answer v.roster (history v.held) (entry_made c change) ≡ Ok n → c.version.next_key ≡ named_key change
      → c.version.handle ≡ author_handle v.roster (history v.held) (entry_made c change)
      → c.version.groups ≡ group_handles v.roster (history v.held) (entry_made c change)
      → MayJoin v.roster v.held (record { commit = c; change = change })
  may_join n next named accepted key handle groups = record {
    next = next;
    accepted = accepted_answer v.roster (history v.held) (entry_made c change) n accepted;
    fits = record {
      is_change = is_change;
      has_item = has_item;
      named = sym named ∙ ap sha256 spelled;
      next_key_is = key;
      author_handle_is = handle;
      group_handles_are = groups;
    };
  }

-- ---- groups ascend, whatever their i-handles are

ascend_alike : (f : ℕ → List ℕ) (least : ℕ) (groups : List (ℕ × List ℕ)) → AscendFrom least (map (λ g. (g, f g)) (map (λ g. g.0) groups)) → AscendFrom least groups
ascend_alike f least [] up = tt
ascend_alike f least (g ∷ groups) up = (up.0, ascend_alike f (g.0 + 1) groups up.1)

pub shape_ascends : (ro : Membership) → IsRoster ro → (p : Prepared) → HasShape ro p → AscendFrom 0 p.groups.items
shape_ascends ro roster p shape =
    ascend_alike (λ g. []) 0 p.groups.items
    (subst (λ gs. AscendFrom 0 (map (λ g. (g, [])) gs)) (sym shape.groups)
    (handles_ascend (λ g. []) (carried_groups ro shape.written) (groups_ascend ro shape.written roster)))

-- ---- what is refused

-- the desk refused the change, or failed to load something
pub not_prepared_on : (v : HoldingState) (c : Commit) (change : Change) (item : List ℕ) → IsChange change → HasItem change → item ≡ item_bytes change → (e : Refusal) (r : ViewRefusal)
    → IsLoadRefusal e ⊎ (answer v.roster (history v.held) (entry_made c change) ≡ Err e)
    → ((IsLoadRefusal e × (r ≡ Plain e)) ⊎ ((IsLoadRefusal e → ⊥) × (r ≡ ChangeRefused e)))
    → FailsToLoad r ⊎ IsRefusedWith v c item r
not_prepared_on v c change item is_change has_item spelled e r why (inl (load, is)) = inl (e, is, load)
not_prepared_on v c change item is_change has_item spelled e r (inl load) (inr (other, is)) = absurd (other load)
not_prepared_on v c change item is_change has_item spelled e r (inr refused) (inr (other, is)) =
    either (not_prepared v c change item is_change has_item spelled e r (inr refused) (inr (no_memory, is)))
  where
    no_memory : e ≢ NoMemory
    no_memory none = other (inr (inr (inr (inl none))))

    either : (r ≡ Plain NoMemory) ⊎ IsRefusedWith v c item r → FailsToLoad r ⊎ IsRefusedWith v c item r
    either (inl none) = inl (NoMemory, none, inr (inr (inr (inl refl))))
    either (inr with) = inr with

pub no_memory : (e : ViewRefusal) → e ≡ Plain NoMemory → FailsToLoad e
no_memory e is = (NoMemory, is, inr (inr (inr (inl refl))))

-- the commit may not be next
pub not_next : (v : HoldingState) (c : Commit) (e : Refusal) → (e ≡ NoMemory) ⊎ RefusedBy (next_order v.roster (tip v.roster (commits_of v.held) c.version.author) c) e
    → FailsToLoad (Plain e) ⊎ IsNotNext v c (Plain e)
not_next v c e (inl none) = inl (no_memory (Plain e) (ap Plain none))
not_next v c e (inr why) = inr (record { why = e; refusal = refl; not_next = why })

-- ---- of what a client keeps

module _ {S : Type 0} (M : S → List ℕ → Type 0) (k : Keeping S) (kept : IsKeeping M k) (e : Entry) (c : Commit) (change : Change) (made : e ≡ entry_made c change) where
  abbrev v : HoldingState
  v = holding_of k

  abbrev d : DeskState
  d = k.desk.state.settled

  pub answered : (r : Result ℕ Refusal) → answer d.roster d.history e ≡ r → answer v.roster (history v.held) (entry_made c change) ≡ r
  answered r is = (λ i. answer d.roster (kept.entries i) (sym made i)) ∙ is

  pub told_handle : (p : Prepared) → Tells d e p → p.author_handle ≡ author_handle v.roster (history v.held) (entry_made c change)
  told_handle p told = told.author_handle ∙ same
    where
      same : author_handle d.roster d.history e ≡ author_handle v.roster (history v.held) (entry_made c change)
      same = λ i. author_handle d.roster (sym kept.entries i) (made i)

  pub told_groups : (p : Prepared) → Tells d e p → p.groups.items ≡ group_handles v.roster (history v.held) (entry_made c change)
  told_groups p told = told.groups ∙ same
    where
      same : group_handles d.roster d.history e ≡ group_handles v.roster (history v.held) (entry_made c change)
      same = λ i. group_handles d.roster (sym kept.entries i) (made i)

  pub prepared_so : (r : Refusal) → IsLoadRefusal r ⊎ (answer d.roster d.history e ≡ Err r)
      → IsLoadRefusal r ⊎ (answer v.roster (history v.held) (entry_made c change) ≡ Err r)
  prepared_so r (inl load) = inl load
  prepared_so r (inr refused) = inr (answered (Err r) refused)

  -- the commit with the change joins, where nothing was mixed up when it was made on trial
  pub joined_so : (p : Prepared) (bytes item : List ℕ) (t : TrialOn S) → IsChange change → HasItem change → item ≡ item_bytes change
      → MayBeNext v.roster (commits_of v.held) c → sha256 item ≡ c.version.change
      → (IsDeskClear M t → answer d.roster d.history e ≡ Ok p.number) → (IsDeskClear M t → Tells d e p) → c.version.next_key ≡ named_key change
      → c.version.handle ≡ p.author_handle → c.version.groups ≡ p.groups.items → bytes ≡ commit_bytes c → t.state ≡ ready_with d e
      → (l : Keeping S) → l.records.items ≡ k.records.items → l.desk ≡ t → JoinsNext M l c change bytes item
  joined_so p bytes item t is_change has_item spelled next named accepted told key handle groups bytes_are state l records desk = record {
    ready = ap (λ (u : TrialOn S). u.state.ready) desk ∙ ap (λ (u : TrialState). u.ready) state ∙ ap (λ x. x ∷ []) made;
    next = subst (λ (w : DeskState). MayBeNext w.roster (commits_of (held_in l.records.items w.history)) c) (sym settled)
        (subst (λ rs. MayBeNext d.roster (commits_of (held_in rs d.history)) c) (sym records) next);
    spelled = (is_change, has_item);
    joins = λ clear. let so = subst (IsDeskClear M) desk clear in
        subst (λ (w : DeskState). MayJoin w.roster (held_in l.records.items w.history) (record { commit = c; change = change })) (sym settled)
        (subst (λ rs. MayJoin d.roster (held_in rs d.history) (record { commit = c; change = change })) (sym records)
        (may_join v c change item is_change has_item spelled p.number next named (answered (Ok p.number) (accepted so)) key
        (handle ∙ told_handle p (told so)) (groups ∙ told_groups p (told so))));
    bytes_are = bytes_are;
    item_is = spelled;
  }
    where
      settled : l.desk.state.settled ≡ d
      settled = ap (λ (u : TrialOn S). u.state.settled) desk ∙ ap (λ (u : TrialState). u.settled) state

-- what is held then
pub grown_next : {S : Type 0} (M : S → List ℕ → Type 0) (k l m : Keeping S) (w : ViewOn S) (c : Commit) (change : Change) (bytes item : List ℕ) → view_of k ≡ w
    → l.user ≡ k.user → l.records.items ≡ k.records.items → l.itemless ≡ k.itemless → l.desk.state.settled ≡ k.desk.state.settled
    → JoinsNext M l c change bytes item → holding_of m ≡ with_more (holding_of l) (record { commit = c; change = change } ∷ []) → m.desk.asked ≡ l.desk.asked
    → Grows M w (record { commit = c; change = change } ∷ []) (view_of m)
grown_next {S = S} M k l m w c change bytes item is user records itemless settled next more asked = record {
  becomes = more ∙ ap (λ v. with_more v (record { commit = c; change = change } ∷ [])) same;
  may = λ clear. (subst (λ (v : HoldingState). MayJoin v.roster v.held (record { commit = c; change = change })) same (next.joins (before clear)), tt);
}
  where
    same : holding_of l ≡ w.holding
    same = (λ i. record { roster = (settled i).roster; user = user i; held = held_in (records i) (settled i).history; itemless = itemless i })
        ∙ ap (λ (x : ViewOn S). x.holding) is

    before : IsClear M (view_of m) → NoneMixed M l.desk.state.settled.roster l.desk.asked
    before clear = subst (NoneMixed M l.desk.state.settled.roster) asked (subst (λ (v : HoldingState). NoneMixed M v.roster m.desk.asked) more clear)
