-- What a client's user makes of a change.
use Rattle.std.proofs.Common.{◌≡◌, ◌≢◌, ℕ, ◌+◌, ◌<◌, ◌≤◌, ◌^◌, ◌⊎◌, Bool, true, false, ◌||◌, ◌&&◌, cond, List, [], ◌∷◌, ◌++◌, map, length, nat_eq, nat_le, if◌then◌else◌, None, Some, Result, Ok, Err, refl, sym, ap, ◌∙◌, subst, arith, inl, inr}
use Rattle.std.specs.List.{filter, AllByRecursion}
use Rattle.std.proofs.lemmas.List.{length-map, map-append}
use Rattle.std.proofs.lemmas.Bool.{eq-eqb}
use Rattle.su_bytes.specs.Format.{is_as_new}
use Rattle.su_bytes.specs.Membership.{Membership, has_number, has_user}
use Rattle.su_bytes.specs.Principal.{principals}
use Rattle.su_bytes.specs.declared.formats.Format.{Format as CommitFormat}
use Rattle.su_bytes.specs.declared.formats.Format.TheVariants.{V1, V2, V3, V4}
use Rattle.su_bytes.specs.declared.formats.TheConstants.{FIRST_FORMAT}
use Rattle.su_bytes.specs.Order.{RefusedBy}
use Rattle.su_bytes.specs.declared.refusals.Refusal.{Refusal}
use Rattle.su_bytes.specs.declared.refusals.Refusal.TheVariants.{BadKey, BadNumber, KeyReuse, NoMemory, NoUser, OldFormat, TooBig, KeyFileFault, Malformed, MissingBlock, SourceFailed, WrongBlock}
use Rattle.su_bytes.specs.declared.principals.Principal.{Principal}
use Rattle.su_bytes.specs.declared.principals.Principal.TheVariants.{Group}
use Rattle.su_bytes.specs.Keys.{is_among}
use Rattle.su_format.specs.Format.{EachFrom}
use Rattle.su_op.specs.declared.operations.Change.{Change}
use Rattle.su_op.specs.declared.operations.Change.TheVariants.{Do, Undo, Rekey}
use Rattle.su_op.specs.Action.{change_format, named_key}
use Rattle.su_table.specs.Handle.{handle}
use Rattle.su_desk.specs.declared.entries.Entry.{Entry}
use Rattle.su_desk.specs.Answer.{format_refusal, made_format, refusal_by_change, refusal_of, answer, rekey_refusal}
use Rattle.su_desk.specs.History.{entry_by, format_after, keys_after, last_format as desk_last}
use Rattle.su_desk.specs.Version.{versions}
use Rattle.su_desk.proofs.FormatLemmas.{by_change, made_fits, made_new}
use Rattle.su_desk.specs.Trial.{Tells}
use Rattle.su_desk.specs.declared.prepared.Prepared.{Prepared}
use Rattle.su_change.specs.Item.{IsChange, HasItem, HasSpelling, IsTooLong, item_bytes, change_digest}
use Rattle.su_lms.specs.Signature.{IsSigned, IsPublicKey, is_public_key, ots_of}
use Rattle.su_lms.specs.ParameterSets.{chain_count}
use Rattle.su_vector.specs.Vector.{bump}
use Rattle.su_version.specs.Version.{Version, IsVersion, IsCarried, IsNextKey}
use Rattle.su_version.specs.Commit.{Commit, IsCommit}
use Rattle.su_version.specs.Chain.{ChainAfter, IsChain, IsNewKey, IsGoodKey, IsNewLeaf, IsSignedBy, last_leaf, tip, MayBeNext, last_format as chain_last, chain_format, chain_head, chain_key, chain_keys}
use Rattle.su_legal.specs.Legal.{Committed, commits_of, entry_made, history, head_of, vector_of, tree_with, author_handle, group_handles, MayJoin, LegalAfter, Legal}
use Rattle.su_legal.proofs.Public.{vector_counts, bump_counts, groups_listed, keys_told}
use Rattle.su_view.specs.Holding.{HoldingState}
use Rattle.su_view.specs.Joining.{AscendFrom}
use Rattle.su_view.specs.Keeping.{holding_of, IsKeeping}
use Rattle.su_view.specs.Making.{drafting_order, own_entry, own_format, next_version, IsMade}
use Rattle.su_view.specs.declared.records.Keeping.{Keeping}
use Rattle.su_view.specs.declared.refusals.ViewRefusal.{ViewRefusal}
use Rattle.su_view.specs.declared.refusals.ViewRefusal.TheVariants.{Plain, Change as ChangeRefused}
use Rattle.su_view.proofs.JoinLemmas.{refused_answer, accepted_answer, no_memory, shape_ascends}
use Rattle.su_desk.specs.Desk.{DeskState}
use Rattle.su_part_tree.specs.Loading.{IsLoadRefusal}
use Rattle.su_stored_desk.specs.Right.{HasShape}
use Rattle.su_view.specs.Drafting.{FitsTree, IsDraft, IsVersionOf}
use Rattle.su_view.specs.Viewed.{FailsToLoad}
use Rattle.su_view.specs.declared.views.drafts.Draft.{Draft}

-- ---- a legal list is a chain

chained : (ro : Membership) (before cs : List Committed) → LegalAfter ro before cs → ChainAfter ro (commits_of before) (commits_of cs)
chained ro before [] legal = tt
chained ro before (c ∷ cs) (may, legal) =
    (may.next, subst (λ ds. ChainAfter ro ds (commits_of cs)) (map-append (λ c. c.commit) before (c ∷ [])) (chained ro (before ++ c ∷ []) cs legal))

pub is_chain : (ro : Membership) (cs : List Committed) → Legal ro cs → IsChain ro (commits_of cs)
is_chain ro cs legal = chained ro [] cs legal

-- ---- the next vector

pub next_vector : (ro : Membership) (cs : List Committed) (e : Entry) → Legal ro cs
    → bump ro (vector_of ro cs) e.author (map (λ g. g.0) (group_handles ro (history cs) e)) ≡ map (λ v. v.1) (versions ro (history cs ++ e ∷ []))
next_vector ro cs e legal =
    (λ i. bump ro (vector_counts ro cs legal i) e.author (groups_listed ro (history cs) e i)) ∙ bump_counts ro (history cs) e

-- ---- carried groups are in the roster

or_right : (a b : Bool) → b ≡ true → (a || b) ≡ true
or_right true b is = refl
or_right false b is = is

or_left : (a b : Bool) → a ≡ true → (a || b) ≡ true
or_left true b is = refl
or_left false b is = absurd cc

listed : (p : ℕ → Bool) (f : ℕ → List ℕ) (all gs : List (ℕ × List ℕ)) → ((x : ℕ) → has_number gs x ≡ true → has_number all x ≡ true)
    → AllByRecursion (λ (g : ℕ × List ℕ). has_number all g.0 ≡ true) (map (λ g. (g, f g)) (filter p (map (λ g. g.0) gs)))
listed p f all [] within = tt
listed p f all (g ∷ gs) within =
    go (p g.0) (within g.0 (or_left (nat_eq g.0 g.0) (has_number gs g.0) (eq-eqb g.0 g.0 refl)))
    (listed p f all gs (λ x has. within x (or_right (nat_eq g.0 x) (has_number gs x) has)))
  where
    go : (b : Bool) → has_number all g.0 ≡ true → AllByRecursion (λ (g : ℕ × List ℕ). has_number all g.0 ≡ true) (map (λ g. (g, f g)) (filter p (map (λ g. g.0) gs)))
        → AllByRecursion (λ (g : ℕ × List ℕ). has_number all g.0 ≡ true) (map (λ g. (g, f g)) (cond b (g.0 ∷ filter p (map (λ g. g.0) gs)) (filter p (map (λ g. g.0) gs))))
    go true here others = (here, others)
    go false here others = others

pub groups_known : (ro : Membership) (h : List Entry) (e : Entry) → AllByRecursion (λ (g : ℕ × List ℕ). has_number ro.groups g.0 ≡ true) (group_handles ro h e)
groups_known ro h e = listed _ (λ g. handle (tree_with ro h e) (Group g)) ro.groups ro.groups (λ x has. has)

-- ---- the key that an accepted change names

good_key : (k : List ℕ) → is_public_key k ≡ true → IsPublicKey k
good_key k is = record {
  size = grind (arith, is);
  tree_type = (grind (arith, is), grind (arith, is));
  one_time_type = (grind (arith, is), grind (arith, is));
}

-- what an accepted rekey names is a key, and new
rekey_good : (ro : Membership) (h : List Entry) (a : ℕ) (k : List ℕ) → rekey_refusal ro h a k ≡ None → (is_among (keys_after ro h) k ≡ false) × (is_public_key k ≡ true)
rekey_good ro h a k is = go (has_user ro a) (is_public_key k) refl (is_among (keys_after ro h) k) refl is
  where
    go : (u p : Bool) → is_public_key k ≡ p → (m : Bool) → is_among (keys_after ro h) k ≡ m
        → cond u (cond p (cond m (Some KeyReuse) None) (Some BadKey)) (Some (NoUser a)) ≡ None → (is_among (keys_after ro h) k ≡ false) × (is_public_key k ≡ true)
    go false p e m f is = absurd (cc)
    go true false e m f is = absurd (cc)
    go true true e true f is = absurd (cc)
    go true true e false f is = (f, e)

pub named_good : (ro : Membership) (h : List Entry) (e : Entry) (change : Change) → refusal_by_change ro h e change ≡ None
    → IsNewKey (keys_after ro h) (named_key change) × IsGoodKey (named_key change)
named_good ro h e (Do op) accepted = (tt, tt)
named_good ro h e (Undo n) accepted = (tt, tt)
named_good ro h e (Rekey k) accepted = let good = rekey_good ro h e.author k accepted in (good.0, good_key k good.1)

-- ---- formats

-- a list of commits and its history have one format
formats_told : (f : CommitFormat) (cs : List Committed) → chain_last f (commits_of cs) ≡ desk_last f (history cs)
formats_told f [] = refl
formats_told f (c ∷ cs) = formats_told c.commit.version.format cs

as_new_of : (h : List Entry) (f : CommitFormat) (change : Change) → format_refusal h f change ≡ None → is_as_new f (format_after h) ≡ true
as_new_of h f change none = go (is_as_new f (format_after h)) (is_as_new f (change_format change)) none
  where
    go : (a b : Bool) → cond (a && b) None (Some OldFormat) ≡ None → a ≡ true
    go true b e = refl
    go false b e = absurd (let bad : Some OldFormat ≡ None = e in cc)

made_as_new : (v : HoldingState) (change : Change) → is_as_new (own_format v change) (chain_format (commits_of v.held)) ≡ true
unfolding chain_format
made_as_new v change = ap (is_as_new (own_format v change)) (formats_told V1 v.held) ∙ as_new_of (history v.held) (own_format v change) change (made_fits (history v.held) change)

-- ---- a commit that is made joins the list

module _ (v : HoldingState) (change : Change) (leaf : ℕ) (c : Commit) (legal : Legal v.roster v.held) (member : has_user v.roster v.user ≡ true)
    (is_commit : IsCommit c) (made : IsMade v change leaf c) where
  made_key : IsNewKey (chain_keys v.roster (commits_of v.held)) c.version.next_key × IsGoodKey c.version.next_key
  made_key =
      let good = named_good v.roster (history v.held) (own_entry v change) change
      (sym (by_change v.roster (history v.held) (own_entry v change) (made_fits (history v.held) change)) ∙ made.accepted) in
      subst (λ o. IsNewKey (chain_keys v.roster (commits_of v.held)) o × IsGoodKey o) (sym (ap (λ (s : Version). s.next_key) made.version))
      (subst (λ keys. IsNewKey keys (named_key change)) (keys_told v.roster v.held legal) good.0, good.1)

  made_next : IsNewLeaf (last_leaf v.user (commits_of v.held)) leaf → MayBeNext v.roster (commits_of v.held) c
  unfolding tip
  made_next new = record {
    spelled = is_commit;
    follows = (
      subst (λ (s : Version). IsSignedBy (chain_key v.roster s.author (commits_of v.held)) c) (sym made.version) made.signed,
      (
        ap (λ (s : Version). s.prev) made.version,
        (
          ap (λ (s : Version). is_as_new s.format (chain_format (commits_of v.held))) made.version ∙ made_as_new v change,
          (
            record {
              groups = subst (λ (s : Version). AllByRecursion (λ (g : ℕ × List ℕ). has_number v.roster.groups g.0 ≡ true) s.groups) (sym made.version)
                  (groups_known v.roster (history v.held) (own_entry v change));
              vector_is = ap (λ (s : Version). s.vector) made.version
                  ∙ ap (λ (s : Version). bump v.roster (vector_of v.roster v.held) s.author (map (λ g. g.0) s.groups)) (sym made.version);
            },
            (
              subst (λ q. IsNewLeaf (last_leaf c.version.author (commits_of v.held)) q) (sym made.leaf_is)
                  (subst (λ (s : Version). IsNewLeaf (last_leaf s.author (commits_of v.held)) leaf) (sym made.version) new),
              (made_key.0, (made_key.1, tt)),
            ),
          ),
        ),
      ),
    );
  }

  pub made_joins : IsChange change → HasItem change → IsNewLeaf (last_leaf v.user (commits_of v.held)) leaf
      → MayJoin v.roster v.held (record { commit = c; change = change })
  made_joins is_change has_item new = record {
    next = made_next new;
    accepted = ap (λ (s : Version). refusal_of v.roster (history v.held) (entry_made (record c { version = s }) change)) made.version ∙ made.accepted;
    fits = record {
      is_change = is_change;
      has_item = has_item;
      named = ap (λ (s : Version). s.change) made.version;
      next_key_is = ap (λ (s : Version). s.next_key) made.version;
      author_handle_is = ap (λ (s : Version). s.handle) made.version
          ∙ ap (λ (s : Version). author_handle v.roster (history v.held) (entry_made (record c { version = s }) change)) (sym made.version);
      group_handles_are = ap (λ (s : Version). s.groups) made.version
          ∙ ap (λ (s : Version). group_handles v.roster (history v.held) (entry_made (record c { version = s }) change)) (sym made.version);
    };
  }

-- ---- a signature is short enough

chain_few : (ots : ℕ) → chain_count ots ≤ 265
unfolding chain_count
chain_few ots = go (nat_eq ots 1) (nat_eq ots 2) (nat_eq ots 3)
  where
    go : (a b c : Bool) → (if a then 265 else if b then 133 else if c then 67 else 34) ≤ 265
    go true b c = omega arith
    go false true c = omega arith
    go false false true = omega arith
    go false false false = omega arith

pub signature_few : (key message signature : List ℕ) → IsSigned key message signature → length signature ≤ 9324
signature_few key message signature is =
    let chains = chain_few (ots_of key) in
    let tall = is.public_key.tree_type in
    omega (arith, is.shape.size, chains, tall.0, tall.1)

-- ---- a draft, as it is kept

module _ {S : Type 0} (M : S → List ℕ → Type 0) (k : Keeping S) (kept : IsKeeping M k) (change : Change) where
  abbrev w : HoldingState
  w = holding_of k

  abbrev d : DeskState
  d = k.desk.state.settled

  pub draft_answered : (r : Result ℕ Refusal) → answer d.roster d.history (own_entry w change) ≡ r → answer w.roster (history w.held) (own_entry w change) ≡ r
  draft_answered r is = (λ i. answer w.roster (kept.entries i) (own_entry w change)) ∙ is

  -- the entry that is made on trial is the user's own
  pub entry_so : (f : CommitFormat) → f ≡ made_format d.history change → entry_by k.user f change ≡ own_entry w change
  entry_so f is = ap (λ (g : CommitFormat). entry_by k.user g change) (is ∙ ap (λ h. made_format h change) (sym kept.entries))

  pub draft_so : (x : Draft) (p : Prepared) → x.prepared ≡ p → x.format ≡ made_format d.history change → IsChange change → HasItem change
      → x.item.items ≡ item_bytes change → 1 ≤ length x.item.items → length x.item.items ≤ 70000 → x.next_key ≡ named_key change → HasShape d.roster p → IsDraft w change x
  draft_so x p is format is_change has_item spelled some few key shape = record {
    format = format ∙ ap (λ h. made_format h change) (sym kept.entries);
    is_change = is_change;
    has_item = has_item;
    spelled = spelled;
    some_bytes = some;
    few_bytes = few;
    next_key = key;
    shape = subst (HasShape w.roster) (sym is) shape;
  }

  pub fits_so : (x : Draft) (p : Prepared) (n : ℕ) → x.prepared ≡ p → answer d.roster d.history (own_entry w change) ≡ Ok n → Tells d (own_entry w change) p → FitsTree w change x
  fits_so x p n is accepted told = record {
    accepted = accepted_answer w.roster (history w.held) (own_entry w change) n (draft_answered (Ok n) accepted);
    handle = ap (λ (p : Prepared). p.author_handle) is ∙ told.author_handle ∙ (λ i. author_handle w.roster (sym kept.entries i) (own_entry w change));
    groups = ap (λ (p : Prepared). p.groups.items) is ∙ told.groups ∙ (λ i. group_handles w.roster (sym kept.entries i) (own_entry w change));
    numbers = ap (λ (p : Prepared). p.versions.items) is ∙ told.versions ∙ (λ i. versions w.roster (sym kept.entries i ++ own_entry w change ∷ []));
  }

  -- a change that the desk refuses, or fails to load something for
  pub draft_refused : (e : Refusal) → IsLoadRefusal e ⊎ (answer d.roster d.history (own_entry w change) ≡ Err e) → (r : ViewRefusal)
      → ((IsLoadRefusal e × (r ≡ Plain e)) ⊎ ((IsLoadRefusal e → ⊥) × (r ≡ ChangeRefused e)))
      → FailsToLoad r ⊎ RefusedBy (drafting_order w change) r
  draft_refused e why r (inl (load, is)) = inl (e, is, load)
  draft_refused e (inl load) r (inr (other, is)) = absurd (other load)
  draft_refused e (inr refused) r (inr (other, is)) =
      let some = refused_answer w.roster (history w.held) (own_entry w change) e (draft_answered (Err e) refused) in
      inr (inl ((e, is, some), λ none. absurd (let bad = sym none ∙ some in cc)))

-- neither a load nor a change is refused as the store of a key fails
pub apart_loaded : (e : Refusal) (r : ViewRefusal) → ((IsLoadRefusal e × (r ≡ Plain e)) ⊎ ((IsLoadRefusal e → ⊥) × (r ≡ ChangeRefused e))) → r ≢ Plain KeyFileFault
apart_loaded e r (inl (load, is)) same = none (let both : Plain e ≡ Plain KeyFileFault = sym is ∙ same in cc) load
  where
    none : e ≡ KeyFileFault → IsLoadRefusal e → ⊥
    none key (inl other) = let bad : KeyFileFault ≡ MissingBlock = sym key ∙ other in cc
    none key (inr (inl other)) = let bad : KeyFileFault ≡ WrongBlock = sym key ∙ other in cc
    none key (inr (inr (inl other))) = let bad : KeyFileFault ≡ SourceFailed = sym key ∙ other in cc
    none key (inr (inr (inr (inl other)))) = let bad : KeyFileFault ≡ NoMemory = sym key ∙ other in cc
    none key (inr (inr (inr (inr other)))) = let bad : KeyFileFault ≡ Malformed 0 = sym key ∙ other in cc
apart_loaded e r (inr (other, is)) same = let bad : ChangeRefused e ≡ Plain KeyFileFault = sym is ∙ same in cc

pub apart_within : (e : Refusal) (r : ViewRefusal) → (((e ≡ NoMemory) × (r ≡ Plain NoMemory)) ⊎ ((e ≢ NoMemory) × (r ≡ ChangeRefused e))) → r ≢ Plain KeyFileFault
apart_within e r (inl (none, is)) same = let bad : Plain NoMemory ≡ Plain KeyFileFault = sym is ∙ same in cc
apart_within e r (inr (other, is)) same = let bad : ChangeRefused e ≡ Plain KeyFileFault = sym is ∙ same in cc

spelled_long : (change : Change) → IsTooLong change → HasSpelling change
spelled_long (Do []) long = absurd long
spelled_long (Do (x ∷ [])) long = absurd long
spelled_long (Do (x ∷ y ∷ ops)) long = long.0
spelled_long (Undo n) long = absurd long
spelled_long (Rekey key) long = absurd long

-- an accepted change without an item
pub item_refused : (w : HoldingState) (change : Change) (e : Refusal) → refusal_of w.roster (history w.held) (own_entry w change) ≡ None
    → ((e ≡ BadNumber) × (HasSpelling change → ⊥)) ⊎ ((e ≡ TooBig) × IsTooLong change) ⊎ ((e ≡ NoMemory) × HasItem change) → (r : ViewRefusal)
    → (((e ≡ NoMemory) × (r ≡ Plain NoMemory)) ⊎ ((e ≢ NoMemory) × (r ≡ ChangeRefused e)))
    → FailsToLoad r ⊎ RefusedBy (drafting_order w change) r
item_refused w change e accepted why r (inl (none, is)) = inl (no_memory r is)
item_refused w change e accepted (inl (bad, lacks)) r (inr (other, is)) = inr (inr (accepted, inl (is ∙ ap ChangeRefused bad, lacks)))
item_refused w change e accepted (inr (inl (big, long))) r (inr (other, is)) = inr (inr (accepted, inr (spelled_long change long, inl (is ∙ ap ChangeRefused big, λ short. short long))))
item_refused w change e accepted (inr (inr (none, has))) r (inr (other, is)) = absurd (other none)

-- ---- the parts of its version structure are in their ranges

le_true : (a b : ℕ) → a ≤ b → nat_le a b ≡ true
le_true a b low = go (nat_le a b) refl
  where
    go : (x : Bool) → nat_le a b ≡ x → nat_le a b ≡ true
    go true is = is
    go false is = absurd (grind (arith, is, low))

named_in_range : (f : CommitFormat) (change : Change) → is_as_new f FIRST_FORMAT ≡ true → IsChange change → IsNextKey f (named_key change)
named_in_range V1 change new is = absurd (let bad : false ≡ true = new in cc)
named_in_range V2 change new is = absurd (let bad : false ≡ true = new in cc)
named_in_range V3 (Do ops) new is = tt
named_in_range V3 (Undo n) new is = tt
named_in_range V3 (Rekey k) new is = is
named_in_range V4 (Do ops) new is = tt
named_in_range V4 (Undo n) new is = tt
named_in_range V4 (Rekey k) new is = is

module _ {S : Type 0} (M : S → List ℕ → Type 0) (k : Keeping S) (kept : IsKeeping M k) (v : HoldingState) (is : holding_of k ≡ v) (change : Change) (x : Draft) (draft : IsDraft v change x) where
  abbrev ro : Membership
  ro = k.desk.state.settled.roster

  abbrev groups : List (ℕ × List ℕ)
  groups = x.prepared.groups.items

  -- the version structure that is made of it
  abbrev drafted : List ℕ → List ℕ → List ℕ → Version
  drafted head digest vector = record {
    format = x.format;
    author = k.user;
    prev = head;
    change = digest;
    handle = x.prepared.author_handle;
    groups = groups;
    vector = vector;
    next_key = x.next_key;
  }

  kept_draft : IsDraft (holding_of k) change x
  kept_draft = subst (λ w. IsDraft w change x) (sym is) draft

  pub version_in_range : (head digest vector : List ℕ) → k.user ≤ 63 → length head ≡ 32 → length digest ≡ 32 → length x.prepared.author_handle ≡ 32
      → ((least : ℕ) → AscendFrom least groups → EachFrom IsCarried (λ g. g.0 + 1) least groups)
      → ((least : ℕ) → AscendFrom least groups → least ≤ 16 → length groups + least ≤ 16)
      → 2 ≤ length (principals ro) → length (principals ro) ≤ 80
      → vector ≡ map (λ n. n.1) x.prepared.versions.items → AllByRecursion (λ n. n < 2 ^ 64) vector
      → IsVersion (drafted head digest vector)
  version_in_range head digest vector user head_long digest_long handle_long carried few some most numbers range = record {
    author = le_true k.user 63 user;
    prev = head_long;
    change = digest_long;
    handle = handle_long;
    group_count = let count = few 0 ascend (omega arith) in omega (arith, count);
    groups = carried 0 ascend;
    some_numbers = omega (arith, long, some);
    few_numbers = omega (arith, long, most);
    numbers = range;
    next_key = subst (IsNextKey x.format) (sym kept_draft.next_key) (named_in_range x.format change (ap (λ f. is_as_new f FIRST_FORMAT) kept_draft.format ∙ made_new (history (holding_of k).held) change) kept_draft.is_change);
  }
    where
      ascend : AscendFrom 0 groups
      ascend = shape_ascends ro kept.roster x.prepared kept_draft.shape

      long : length vector ≡ length (principals ro)
      long = ap length numbers ∙ length-map x.prepared.versions.items (λ (n : Principal × ℕ). n.1)
          ∙ sym (length-map x.prepared.versions.items (λ (n : Principal × ℕ). n.0)) ∙ ap length kept_draft.shape.versions

  prev_is : (head : List ℕ) → head ≡ k.end.head → head ≡ head_of v.roster v.held
  prev_is head head_is = head_is ∙ kept.end_is.head ∙ ap (chain_head ro) (sym kept.commits) ∙ ap (λ (w : HoldingState). head_of w.roster w.held) is

  pub version_of : (head digest vector : List ℕ) → head ≡ k.end.head → digest ≡ change_digest change → IsVersionOf v change (drafted head digest vector)
  version_of head digest vector head_is digest_is = record {
    format = draft.format;
    author = ap (λ (w : HoldingState). w.user) is;
    prev = prev_is head head_is;
    names = digest_is;
    next_key = draft.next_key;
  }

  pub version_is : (head digest vector : List ℕ) → Legal ro (holding_of k).held → FitsTree v change x → head ≡ k.end.head → digest ≡ change_digest change → vector ≡ map (λ n. n.1) x.prepared.versions.items
      → drafted head digest vector ≡ next_version v change
  version_is head digest vector legal fits head_is digest_is vector_is = made ∙ ap (λ w. next_version w change) is
    where
      kept_fits : FitsTree (holding_of k) change x
      kept_fits = subst (λ w. FitsTree w change x) (sym is) fits

      head_so : head ≡ head_of ro (holding_of k).held
      head_so = head_is ∙ kept.end_is.head ∙ ap (chain_head ro) (sym kept.commits)

      numbers_so : vector ≡ bump ro (vector_of ro (holding_of k).held) k.user
          (map (λ g. g.0) (group_handles ro (history (holding_of k).held) (own_entry (holding_of k) change)))
      numbers_so = vector_is ∙ ap (map (λ (n : Principal × ℕ). n.1)) kept_fits.numbers ∙ sym (next_vector ro (holding_of k).held (own_entry (holding_of k) change) legal)

      made : drafted head digest vector ≡ next_version (holding_of k) change
      made = λ i. record {
        format = kept_draft.format i;
        author = k.user;
        prev = head_so i;
        change = digest_is i;
        handle = kept_fits.handle i;
        groups = kept_fits.groups i;
        vector = numbers_so i;
        next_key = kept_draft.next_key i;
      }
