-- What is kept with one commit more.
use Rattle.std.proofs.Common.{◌≡◌, ℕ, zero, suc, ◌+◌, ◌-◌, ◌<◌, ◌≤◌, Bool, true, false, cond, List, [], ◌∷◌, ◌++◌, length, length-append, drop, Option, Some, None, nat_eq, slice_get, Result, Ok, Err, ◌⊎◌, inl, inr, refl, sym, ap, ◌∙◌, subst, arith}
use Rattle.std.specs.Global.{Vec}
use Rattle.std.specs.List.{AllByRecursion}
use Rattle.std.specs.Option.{option_map, option_or}
use Rattle.std.proofs.lemmas.Option.{slice_get-map}
use Rattle.std.proofs.lemmas.Bool.{eqb-true}
use Rattle.std.proofs.lemmas.List.{drop-append-le, map-append, length-map}
use Rattle.su_bytes.specs.Membership.{Membership, IsRoster, has_user}
use Rattle.su_bytes.specs.declared.formats.Format.{Format as CommitFormat}
use Rattle.su_bytes.specs.declared.refusals.Refusal.{Refusal}
use Rattle.su_bytes.specs.declared.refusals.Refusal.TheVariants.{NoMemory}
use Rattle.su_change.specs.Item.{item_bytes}
use Rattle.su_op.specs.declared.operations.Change.{Change}
use Rattle.su_desk.specs.declared.entries.Entry.{Entry}
use Rattle.su_desk.specs.Desk.{DeskState, with_entry}
use Rattle.sha2.specs.Sha256.{sha256}
use Rattle.su_version.specs.Commit.{Commit, commit_bytes}
use Rattle.su_version.specs.Chain.{MayBeNext}
use Rattle.su_chain.specs.ChainEnd.{IsEndOf}
use Rattle.su_legal.specs.Legal.{Committed, author_of, commits_of, entry_made, entry_of, history, Legal}
use Rattle.su_legal.proofs.Public.{legal_further}
use Rattle.su_view.specs.LastCommits.{last_by, own_last}
use Rattle.su_view.specs.Entry.{AreBytesAt, committed_at}
use Rattle.su_view.specs.Holding.{HasSpelledChange}
use Rattle.su_view.specs.Keeping.{held_in, contents, spellings_of, if_by, holding_of, IsKeeping, JoinsNext}
use Rattle.su_view.specs.declared.records.Spelling.{Spelling}
use Rattle.su_view.specs.declared.records.Keeping.{Keeping}
use Rattle.su_stored_desk.specs.Asked.{NoneMixed}

-- ---- commits beside entries

held_further : (cs : List Commit) (h : List Entry) (c : Commit) (e : Entry) → length cs ≡ length h
    → held_in (cs ++ c ∷ []) (h ++ e ∷ []) ≡ held_in cs h ++ record { commit = c; change = e.change } ∷ []
held_further [] [] c e l = refl
held_further [] (x ∷ h) c e l = absurd (omega arith)
held_further (x ∷ cs) [] c e l = absurd (omega arith)
held_further (x ∷ cs) (y ∷ h) c e l = ap (λ r. record { commit = x; change = y.change } ∷ r) (held_further cs h c e (omega arith))

-- ---- the last one of a user

or_assoc : {A : Type 0} (a b c : Option A) → option_or (option_or a b) c ≡ option_or a (option_or b c)
or_assoc None b c = refl
or_assoc (Some x) b c = refl

or_none : {A : Type 0} (a : Option A) → option_or a None ≡ a
or_none None = refl
or_none (Some x) = refl

last_more : (u : ℕ) (cs : List Committed) (c : Committed) → last_by u (cs ++ c ∷ []) ≡ option_or (cond (nat_eq (author_of c) u) (Some c) None) (last_by u cs)
last_more u [] c = sym (or_none (cond (nat_eq (author_of c) u) (Some c) None))
last_more u (x ∷ cs) c =
    ap (λ o. option_or o (cond (nat_eq (author_of x) u) (Some x) None)) (last_more u cs c)
    ∙ or_assoc (cond (nat_eq (author_of c) u) (Some c) None) (last_by u cs) (cond (nat_eq (author_of x) u) (Some x) None)

-- the commit, where its own user made it, and else the one before
pub own_more : (u : ℕ) (cs : List Committed) (c : Committed) (own old : Option Commit) → own ≡ if_by u c.commit → old ≡ option_map (λ d. d.commit) (last_by u cs)
    → option_or own old ≡ option_map (λ d. d.commit) (last_by u (cs ++ c ∷ []))
own_more u cs c own old own_is old_is =
    (λ i. option_or (own_is i) (old_is i)) ∙ by (nat_eq (author_of c) u) ∙ sym (ap (option_map (λ (d : Committed). d.commit)) (last_more u cs c))
  where
    by : (b : Bool) → option_or (cond b (Some c.commit) None) (option_map (λ (d : Committed). d.commit) (last_by u cs)) ≡ option_map (λ (d : Committed). d.commit) (option_or (cond b (Some c) None) (last_by u cs))
    by true = refl
    by false = refl

all_at : (P : Committed → Type 0) (cs : List Committed) → AllByRecursion P cs → (i : ℕ) (c : Committed) → slice_get cs i ≡ Some c → P c
all_at P [] all i c at = absurd (let bad : None ≡ Some c = at in cc)
all_at P (x ∷ cs) (here, all) zero c at = let same : x ≡ c = cc in subst P same here
all_at P (x ∷ cs) (here, all) (suc i) c at = all_at P cs all i c at

all_more : (P : Committed → Type 0) (cs : List Committed) (c : Committed) → AllByRecursion P cs → P c → AllByRecursion P (cs ++ c ∷ [])
all_more P [] c all is = (is, tt)
all_more P (x ∷ cs) c (here, all) is = (here, all_more P cs c all is)

-- ---- with one commit more

abbrev pair_in : Spelling → List ℕ × List ℕ
pair_in s = (s.commit.items, s.item.items)

abbrev pair_of : Committed → List ℕ × List ℕ
pair_of c = (commit_bytes c.commit, item_bytes c.change)

module _ {S : Type 0} (M : S → List ℕ → Type 0) (k : Keeping S) (c : Commit) (change : Change) (kept : IsKeeping M k) (s : Spelling)
    (next : JoinsNext M k c change s.commit.items s.item.items) where
  abbrev ro : Membership
  ro = k.desk.state.settled.roster

  abbrev rs : List Commit
  rs = k.records.items

  abbrev h : List Entry
  h = k.desk.state.settled.history

  abbrev x : Committed
  x = record { commit = c; change = change }

  abbrev e : Entry
  e = entry_made c change

  abbrev held : List Committed
  held = held_in rs h

  long : length rs ≡ length h
  long = ap length (sym kept.commits) ∙ length-map held (λ c. c.commit) ∙ sym (length-map held entry_of) ∙ ap length kept.entries

  pub held_more : held_in (rs ++ c ∷ []) (h ++ e ∷ []) ≡ held ++ x ∷ []
  held_more = held_further rs h c e long

  -- the commit may be the next of those that are kept
  pub next_kept : MayBeNext ro rs c
  next_kept = subst (λ cs. MayBeNext ro cs c) kept.commits next.next

  within : k.itemless ≤ length held
  within =
      let long = length-map held (λ c. c.commit) in
      let same = ap length kept.commits in
      omega (arith, long, same, kept.counted)

  more_spellings : spellings_of (drop k.itemless (held ++ x ∷ [])) ≡ contents (k.spellings.items ++ s ∷ [])
  more_spellings =
      ap spellings_of (drop-append-le k.itemless held (x ∷ []) within)
      ∙ map-append (λ (d : Committed). (commit_bytes d.commit, item_bytes d.change)) (drop k.itemless held) (x ∷ [])
      ∙ (λ i. sym kept.spellings i ++ (sym next.bytes_are i, sym next.item_is i) ∷ [])
      ∙ sym (map-append (λ (t : Spelling). (t.commit.items, t.item.items)) k.spellings.items (s ∷ []))

  pub keeping_more : (l : Keeping S) → l.user ≡ k.user → l.records.items ≡ rs ++ c ∷ [] → l.itemless ≡ k.itemless → l.spellings.items ≡ k.spellings.items ++ s ∷ [] → l.desk.state.settled ≡ with_entry k.desk.state.settled e
      → l.desk.asked ≡ k.desk.asked → IsEndOf ro (rs ++ c ∷ []) l.end → (own : Option Commit) → own ≡ if_by k.user c → l.own ≡ option_or own k.own → IsKeeping M l
  keeping_more l user records itemless spellings settled asked end own own_is own_then = record {
    roster = subst (λ (d : DeskState). IsRoster d.roster) (sym settled) kept.roster;
    commits = ap commits_of all ∙ map-append (λ c. c.commit) held (x ∷ []) ∙ ap (λ cs. cs ++ c ∷ []) kept.commits ∙ sym records;
    entries = ap history all ∙ map-append entry_of held (x ∷ []) ∙ ap (λ es. es ++ e ∷ []) kept.entries ∙ sym (ap (λ (d : DeskState). d.history) settled);
    counted = ap length records ∙ length-append rs (c ∷ []) ∙ ap (λ n. n + 1) kept.counted
        ∙ (let long = length-append k.spellings.items (s ∷ []) in omega (arith, long))
        ∙ (λ i. sym itemless i + length (sym spellings i));
    spellings = ap contents spellings ∙ sym more_spellings ∙ (λ i. spellings_of (drop (sym itemless i) (sym all i)));
    end_is = subst (λ (d : DeskState). IsEndOf d.roster l.records.items l.end) (sym settled)
        (subst (λ cs. IsEndOf ro cs l.end) (sym records) end);
    member = subst (λ (d : DeskState). has_user d.roster l.user ≡ true) (sym settled) (ap (has_user ro) user ∙ kept.member);
    last_own = own_then ∙ own_more k.user held x own k.own own_is kept.last_own ∙ (λ i. option_map (λ (d : Committed). d.commit) (last_by (sym user i) (sym all i)));
    changes = subst (AllByRecursion HasSpelledChange) (sym all) (all_more HasSpelledChange held x kept.changes next.spelled);
    legal = λ clear. subst (λ (d : DeskState). Legal d.roster (holding_of l).held) (sym settled)
        (subst (Legal ro) (sym all) (legal_further ro held x (kept.legal (before clear)) (next.joins (before clear))));
  }
    where
      all : (holding_of l).held ≡ held ++ x ∷ []
      all = (λ i. held_in (records i) (settled i).history) ∙ held_more

      before : NoneMixed M l.desk.state.settled.roster l.desk.asked → NoneMixed M ro k.desk.asked
      before clear = subst (NoneMixed M ro) asked (subst (λ (d : DeskState). NoneMixed M d.roster l.desk.asked) settled clear)

-- ---- with more room, or another entry that stands ready, or once its store was asked

pub keeping_still : {S : Type 0} (M : S → List ℕ → Type 0) (k l : Keeping S) → IsKeeping M k
    → l.user ≡ k.user → l.own ≡ k.own → l.records.items ≡ k.records.items → l.itemless ≡ k.itemless → l.spellings.items ≡ k.spellings.items → l.desk.state.settled ≡ k.desk.state.settled
    → ((ro : Membership) (cs : List Commit) → IsEndOf ro cs k.end → IsEndOf ro cs l.end)
    → (NoneMixed M l.desk.state.settled.roster l.desk.asked → NoneMixed M k.desk.state.settled.roster k.desk.asked) → IsKeeping M l
keeping_still M k l kept user own records itemless spellings settled end before = record {
  roster = subst (λ (d : DeskState). IsRoster d.roster) (sym settled) kept.roster;
  commits = ap commits_of held ∙ kept.commits ∙ sym records;
  entries = ap history held ∙ kept.entries ∙ sym (ap (λ (d : DeskState). d.history) settled);
  counted = ap length records ∙ kept.counted ∙ (λ i. sym itemless i + length (sym spellings i));
  spellings = ap contents spellings ∙ kept.spellings ∙ (λ i. spellings_of (drop (sym itemless i) (sym held i)));
  end_is = subst (λ (d : DeskState). IsEndOf d.roster l.records.items l.end) (sym settled)
      (subst (λ rs. IsEndOf k.desk.state.settled.roster rs l.end) (sym records) (end k.desk.state.settled.roster k.records.items kept.end_is));
  member = subst (λ (d : DeskState). has_user d.roster l.user ≡ true) (sym settled) (ap (has_user k.desk.state.settled.roster) user ∙ kept.member);
  last_own = own ∙ kept.last_own ∙ (λ i. option_map (λ (d : Committed). d.commit) (last_by (sym user i) (sym held i)));
  changes = subst (AllByRecursion HasSpelledChange) (sym held) kept.changes;
  legal = λ clear. subst (λ (d : DeskState). Legal d.roster (holding_of l).held) (sym settled)
      (subst (Legal k.desk.state.settled.roster) (sym held) (kept.legal (before clear)));
}
  where
    held : (holding_of l).held ≡ (holding_of k).held
    held = λ i. held_in (records i) (settled i).history

-- only the desk is another, and what is settled on it is the same
pub keeping_desk : {S : Type 0} (M : S → List ℕ → Type 0) (k l : Keeping S) → IsKeeping M k
    → l ≡ record k { desk = l.desk } → l.desk.state.settled ≡ k.desk.state.settled
    → (NoneMixed M l.desk.state.settled.roster l.desk.asked → NoneMixed M k.desk.state.settled.roster k.desk.asked) → IsKeeping M l
keeping_desk {S = S} M k l kept same settled before =
    keeping_still M k l kept (ap (λ (z : Keeping S). z.user) same) (ap (λ (z : Keeping S). z.own) same) (ap (λ (z : Keeping S). z.records.items) same)
    (ap (λ (z : Keeping S). z.itemless) same) (ap (λ (z : Keeping S). z.spellings.items) same) settled
    (λ ro cs is. subst (IsEndOf ro cs) (sym (ap (λ (z : Keeping S). z.end) same)) is) before

-- over another source, once it is known that the list is legal
pub keeping_moved : {S T : Type 0} (M : S → List ℕ → Type 0) (N : T → List ℕ → Type 0) (k : Keeping S) (l : Keeping T) → IsKeeping M k → l.user ≡ k.user → l.own ≡ k.own → l.records ≡ k.records
    → l.itemless ≡ k.itemless → l.spellings ≡ k.spellings → l.end ≡ k.end → l.desk.state.settled ≡ k.desk.state.settled → Legal k.desk.state.settled.roster (holding_of k).held → IsKeeping N l
keeping_moved M N k l kept user own records itemless spellings end settled legal = record {
  roster = subst (λ (d : DeskState). IsRoster d.roster) (sym settled) kept.roster;
  commits = ap commits_of held ∙ kept.commits ∙ (λ i. (sym records i).items);
  entries = ap history held ∙ kept.entries ∙ sym (ap (λ (d : DeskState). d.history) settled);
  counted = (λ i. length (records i).items) ∙ kept.counted ∙ (λ i. sym itemless i + length (sym spellings i).items);
  spellings = (λ i. contents (spellings i).items) ∙ kept.spellings ∙ (λ i. spellings_of (drop (sym itemless i) (sym held i)));
  end_is = subst (λ (d : DeskState). IsEndOf d.roster l.records.items l.end) (sym settled)
      (subst (λ (rs : Vec Commit). IsEndOf k.desk.state.settled.roster rs.items l.end) (sym records)
      (subst (IsEndOf k.desk.state.settled.roster k.records.items) (sym end) kept.end_is));
  member = subst (λ (d : DeskState). has_user d.roster l.user ≡ true) (sym settled) (ap (has_user k.desk.state.settled.roster) user ∙ kept.member);
  last_own = own ∙ kept.last_own ∙ (λ i. option_map (λ (d : Committed). d.commit) (last_by (sym user i) (sym held i)));
  changes = subst (AllByRecursion HasSpelledChange) (sym held) kept.changes;
  legal = λ _. subst (λ (d : DeskState). Legal d.roster (holding_of l).held) (sym settled) (subst (Legal k.desk.state.settled.roster) (sym held) legal);
}
  where
    held : (holding_of l).held ≡ (holding_of k).held
    held = λ i. held_in (records i).items (settled i).history

-- ---- by number

above_zero : (n : ℕ) → 0 < n → nat_eq n 0 ≡ false
above_zero n less = go (nat_eq n 0) refl
  where
    go : (b : Bool) → nat_eq n 0 ≡ b → nat_eq n 0 ≡ false
    go false is = is
    go true is = let none = eqb-true n 0 is in absurd (omega (arith, none, less))

some_same : {A : Type 0} (x y : A) → ◌≡◌ {A = Option A} (Some x) (Some y) → x ≡ y
some_same x y e = cc

slice_drop : {A : Type 0} (n : ℕ) (xs : List A) (i : ℕ) → slice_get (drop n xs) i ≡ slice_get xs (n + i)
slice_drop zero xs i = ap (slice_get xs) (omega arith)
slice_drop (suc n) [] i = refl
slice_drop (suc n) (x ∷ xs) i = slice_drop n xs i ∙ (let e : suc (n + i) ≡ suc n + i = omega arith in ap (slice_get (x ∷ xs)) e)

module _ {S : Type 0} (M : S → List ℕ → Type 0) (k : Keeping S) (kept : IsKeeping M k) where
  pub length-held : length (holding_of k).held ≡ length k.records.items
  length-held = sym (length-map (holding_of k).held (λ c. c.commit)) ∙ ap length kept.commits

  -- the commit that is kept at an index
  commit_kept : (i : ℕ) (r : Commit) → slice_get k.records.items i ≡ Some r → option_map (λ (d : Committed). d.commit) (slice_get (holding_of k).held i) ≡ Some r
  commit_kept i r here = sym (slice_get-map (λ (d : Committed). d.commit) (holding_of k).held i) ∙ ap (λ cs. slice_get cs i) kept.commits ∙ here

  pub digest_kept : (n : ℕ) (r : Commit) → 0 < n → slice_get k.records.items (n - 1) ≡ Some r
      → option_map (λ c. sha256 (commit_bytes c.commit)) (committed_at (holding_of k).held n) ≡ Some (sha256 (commit_bytes r))
  digest_kept n r some here =
      ap (λ b. option_map (λ (d : Committed). sha256 (commit_bytes d.commit)) (cond b None (slice_get (holding_of k).held (n - 1)))) (above_zero n some)
      ∙ go (slice_get (holding_of k).held (n - 1)) (commit_kept (n - 1) r here)
    where
      go : (o : Option Committed) → option_map (λ (d : Committed). d.commit) o ≡ Some r → option_map (λ (d : Committed). sha256 (commit_bytes d.commit)) o ≡ Some (sha256 (commit_bytes r))
      go None same = absurd (cc)
      go (Some c) same = let is : c.commit ≡ r = some_same c.commit r same in ap (λ d. Some (sha256 (commit_bytes d))) is

  -- the bytes and the item that are kept at an index behind those that aren't at hand
  spelling_kept : (i : ℕ) (s : Spelling) → k.itemless ≤ i → slice_get k.spellings.items (i - k.itemless) ≡ Some s
      → (c : Committed) × (slice_get (holding_of k).held i ≡ Some c) × (s.commit.items ≡ commit_bytes c.commit) × (s.item.items ≡ item_bytes c.change)
  spelling_kept i s behind here = go (slice_get (drop k.itemless (holding_of k).held) (i - k.itemless)) refl
    where
      pairs : option_map pair_of (slice_get (drop k.itemless (holding_of k).held) (i - k.itemless)) ≡ Some (pair_in s)
      pairs =
          sym (slice_get-map pair_of (drop k.itemless (holding_of k).held) (i - k.itemless)) ∙ ap (λ zs. slice_get zs (i - k.itemless)) (sym kept.spellings)
          ∙ slice_get-map pair_in k.spellings.items (i - k.itemless) ∙ ap (option_map pair_in) here

      there : slice_get (drop k.itemless (holding_of k).held) (i - k.itemless) ≡ slice_get (holding_of k).held i
      there = slice_drop k.itemless (holding_of k).held (i - k.itemless) ∙ ap (slice_get (holding_of k).held) (omega (arith, behind))

      go : (o : Option Committed) → slice_get (drop k.itemless (holding_of k).held) (i - k.itemless) ≡ o
          → (c : Committed) × (slice_get (holding_of k).held i ≡ Some c) × (s.commit.items ≡ commit_bytes c.commit) × (s.item.items ≡ item_bytes c.change)
      go None is = absurd (let bad : ◌≡◌ {A = Option (List ℕ × List ℕ)} None (Some (pair_in s)) = sym (ap (option_map pair_of) is) ∙ pairs in cc)
      go (Some c) is =
          let same : pair_of c ≡ pair_in s = some_same (pair_of c) (pair_in s) (sym (ap (option_map pair_of) is) ∙ pairs) in
          (c, sym there ∙ is, ap (λ p. p.0) (sym same), ap (λ p. p.1) (sym same))

  pub entry_found : (n : ℕ) (s : Spelling) (commit item : List ℕ) → 0 < n → k.itemless ≤ n - 1 → slice_get k.spellings.items (n - 1 - k.itemless) ≡ Some s
      → commit ≡ s.commit.items → item ≡ s.item.items → AreBytesAt (holding_of k).held n commit item
  entry_found n s commit item some behind at_hand commit_is item_is =
      let (c, there, bytes_are, spelled) = spelling_kept (n - 1) s behind at_hand in
      record {
        committed = c;
        found = ap (λ b. cond b None (slice_get (holding_of k).held (n - 1))) (above_zero n some) ∙ there;
        commit_is = commit_is ∙ bytes_are;
        item_is = item_is ∙ spelled;
      }

  -- the entry of the commit that is kept at an index
  pub entry_kept : (i : ℕ) (r : Commit) (x : Committed) (a : ℕ) (f : CommitFormat) (change : Change) → slice_get k.records.items i ≡ Some r → slice_get (holding_of k).held i ≡ Some x
      → a ≡ r.version.author → f ≡ r.version.format → change ≡ x.change → slice_get (history (holding_of k).held) i ≡ Some (record { author = a; format = f; change = change })
  entry_kept i r x a f change here there author format same =
      slice_get-map entry_of (holding_of k).held i ∙ ap (option_map entry_of) there
      ∙ ap (λ c. Some (entry_made c x.change)) commit
      ∙ (λ j. Some (record { author = sym author j; format = sym format j; change = sym same j }))
    where
      commit : x.commit ≡ r
      commit = some_same x.commit r (sym (ap (option_map (λ (d : Committed). d.commit)) there) ∙ commit_kept i r here)

  -- what its item spells
  pub change_kept : (n : ℕ) (x : Committed) → 0 < n → committed_at (holding_of k).held n ≡ Some x → (slice_get (holding_of k).held (n - 1) ≡ Some x) × HasSpelledChange x
  change_kept n x some found =
      let there = sym (ap (λ b. cond b None (slice_get (holding_of k).held (n - 1))) (above_zero n some)) ∙ found in
      (there, all_at HasSpelledChange (holding_of k).held kept.changes (n - 1) x there)

-- ---- what is read of an item

pub read_so : {X : Type 0} (r : Result X Refusal) (c x : X) → r ≡ Ok x → (r ≡ Ok c) ⊎ (r ≡ Err NoMemory) → x ≡ c
read_so r c x is (inl ok) = let both : Ok x ≡ Ok c = sym is ∙ ok in cc
read_so r c x is (inr none) = absurd (let bad : Ok x ≡ Err NoMemory = sym is ∙ none in cc)
