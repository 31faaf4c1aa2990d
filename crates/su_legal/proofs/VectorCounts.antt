-- The history of a legal list is a good one, and its vector counts it.
use Rattle.std.proofs.Common.{◌≡◌, ℕ, ◌+◌, Bool, true, false, ◌||◌, cond, List, [], ◌∷◌, ◌++◌, map, nat_eq, refl, sym, ap, ◌∙◌, subst, arith, append_assoc, inl, inr, ◌⊎◌}
use Rattle.std.specs.List.{filter, list_any, Contains}
use Rattle.std.proofs.lemmas.List.{map-append}
use Rattle.std.proofs.lemmas.List.Elements.{Contains-append_cases, Contains-append_right}
use Rattle.std.proofs.lemmas.Bool.{eqb-true, eq-eqb}
use Rattle.su_bytes.specs.Membership.{Membership}
use Rattle.su_bytes.specs.Principal.{principals, user_principal, group_principal}
use Rattle.su_bytes.specs.declared.principals.Principal.{Principal}
use Rattle.su_bytes.specs.declared.principals.Principal.TheVariants.{User, Group}
use Rattle.su_op.specs.declared.areas.Area.{Area}
use Rattle.su_desk.specs.declared.entries.Entry.{Entry}
use Rattle.su_desk.specs.Answer.{Good, GoodAfter}
use Rattle.su_desk.specs.Version.{cells_of, carries, carried_groups, raises, raised, numbered, version, versions}
use Rattle.su_desk.proofs.VersionNumbers.{versions-append}
use Rattle.su_vector.specs.Vector.{zeros, concerns, numbers_after, bump}
use Rattle.su_version.specs.Chain.{last_vector, chain_vector}
use Rattle.su_version.proofs.Public.{next_counts}
use Rattle.su_legal.specs.Legal.{Committed, commits_of, author_of, entry_of, history, vector_of, group_handles, MayJoin, LegalAfter, Legal}
use Rattle.su_legal.proofs.Lists.{found_split, from_the_end, none_in_empty, only_in, is_in_middle}
use Rattle.su_legal.proofs.LegalLists.{legal_front, legal_next}

good_after : (ro : Membership) (before cs : List Committed) → LegalAfter ro before cs → GoodAfter ro (history before) (history cs)
good_after ro before [] l = tt
good_after ro before (c ∷ cs) (f, l) =
    (f.accepted, subst (λ h. GoodAfter ro h (history cs)) (map-append entry_of before (c ∷ [])) (good_after ro (before ++ c ∷ []) cs l))

pub good_history : (ro : Membership) (cs : List Committed) → Legal ro cs → Good ro (history cs)
good_history ro cs l = good_after ro [] cs l

-- ---- vectors

last_vector-append : (v : List ℕ) (cs : List Committed) (c : Committed) → last_vector v (commits_of (cs ++ c ∷ [])) ≡ c.commit.version.vector
last_vector-append v [] c = refl
last_vector-append v (x ∷ cs) c = last_vector-append x.commit.version.vector cs c

pub vector_last : (ro : Membership) (cs : List Committed) (c : Committed) → vector_of ro (cs ++ c ∷ []) ≡ c.commit.version.vector
unfolding chain_vector
vector_last ro cs c = last_vector-append (zeros ro) cs c

-- a number is among those that are filtered just where it passes the filter
none_any : (f : ℕ → Bool) (gs : List ℕ) (g : ℕ) → f g ≡ false → list_any (nat_eq g) (filter f gs) ≡ false
none_any f [] g e = refl
none_any f (x ∷ gs) g e = go (f x) refl (nat_eq g x) refl (none_any f gs g e)
  where
    go : (b : Bool) → f x ≡ b → (d : Bool) → nat_eq g x ≡ d → list_any (nat_eq g) (filter f gs) ≡ false
        → list_any (nat_eq g) (cond b (x ∷ filter f gs) (filter f gs)) ≡ false
    go false is d n ih = ih
    go true is false n ih = ap (λ b. b || list_any (nat_eq g) (filter f gs)) n ∙ ih
    go true is true n ih = let same = eqb-true g x n in absurd (let clash : true ≡ false = sym is ∙ ap f (sym same) ∙ e in cc)

some_any : (f : ℕ → Bool) (before after : List ℕ) (g : ℕ) → f g ≡ true → list_any (nat_eq g) (filter f (before ++ g ∷ after)) ≡ true
some_any f [] after g e =
    ap (λ b. list_any (nat_eq g) (cond b (g ∷ filter f after) (filter f after))) e
    ∙ ap (λ b. b || list_any (nat_eq g) (filter f after)) (eq-eqb g g refl)
some_any f (x ∷ before) after g e = go (f x) (some_any f before after g e)
  where
    either : (d : Bool) → list_any (nat_eq g) (filter f (before ++ g ∷ after)) ≡ true → (d || list_any (nat_eq g) (filter f (before ++ g ∷ after))) ≡ true
    either true ih = refl
    either false ih = ih

    go : (b : Bool) → list_any (nat_eq g) (filter f (before ++ g ∷ after)) ≡ true
        → list_any (nat_eq g) (cond b (x ∷ filter f (before ++ g ∷ after)) (filter f (before ++ g ∷ after))) ≡ true
    go false ih = ih
    go true ih = either (nat_eq g x) ih

any_filter : (f : ℕ → Bool) (gs : List ℕ) (g : ℕ) → Contains gs g → list_any (nat_eq g) (filter f gs) ≡ f g
any_filter f gs g c = go (f g) refl
  where
    go : (b : Bool) → f g ≡ b → list_any (nat_eq g) (filter f gs) ≡ b
    go true e = let s = found_split gs g c in ap (λ l. list_any (nat_eq g) (filter f l)) s.whole ∙ some_any f s.before s.after g e
    go false e = none_any f gs g e

-- a user, or one of these groups
abbrev IsIdIn : List ℕ → Principal → Type 0
IsIdIn ids (User u) = Unit {0}
IsIdIn ids (Group g) = Contains ids g

-- a commit concerns the principals whose numbers its entry raises
concerns_raises : (a : ℕ) (w : List Area) (ids : List ℕ) (p : Principal) → IsIdIn ids p → concerns a (filter (λ g. carries g w) ids) p ≡ raises a w p
concerns_raises a w ids (User u) i = refl
concerns_raises a w ids (Group g) i = any_filter (λ g. carries g w) ids g i

bumped : (ro : Membership) (h : List Entry) (a : ℕ) (w : List Area) (ids : List ℕ) (ps : List Principal) → ((p : Principal) → Contains ps p → IsIdIn ids p)
    → numbers_after ps (map (λ v. v.1) (map (numbered ro h) ps)) a (filter (λ g. carries g w) ids) ≡ map (λ v. v.1) (map (raised a w) (map (numbered ro h) ps))
bumped ro h a w ids [] i = refl
bumped ro h a w ids (p ∷ ps) i =
    let here = concerns_raises a w ids p (i p (0, omega arith, refl)) in
    let rest = bumped ro h a w ids ps (λ q c. i q (Contains-append_right (p ∷ []) ps q c)) in
    λ j. (version ro h p + cond (here j) 1 0) ∷ rest j

user_ids : (ids : List ℕ) (us : List (ℕ × List ℕ)) (p : Principal) → Contains (map user_principal us) p → IsIdIn ids p
user_ids ids [] p c = absurd (none_in_empty p c)
user_ids ids (u ∷ us) p c = go (λ later. user_ids ids us p later) (Contains-append_cases (user_principal u ∷ []) (map user_principal us) p c)
  where
    go : (Contains (map user_principal us) p → IsIdIn ids p) → Contains (user_principal u ∷ []) p ⊎ Contains (map user_principal us) p → IsIdIn ids p
    go more (inl here) = subst (IsIdIn ids) (only_in (user_principal u) p here) tt
    go more (inr later) = more later

group_ids : (done gs : List (ℕ × List ℕ)) (p : Principal) → Contains (map group_principal gs) p → IsIdIn (map (λ g. g.0) (done ++ gs)) p
group_ids done [] p c = absurd (none_in_empty p c)
group_ids done (g ∷ gs) p c =
    go (λ later. group_ids (done ++ g ∷ []) gs p later) (Contains-append_cases (group_principal g ∷ []) (map group_principal gs) p c)
  where
    there : Contains (map (λ g. g.0) (done ++ g ∷ gs)) g.0
    there = subst (λ l. Contains l g.0) (sym (map-append (λ g. g.0) done (g ∷ gs))) (is_in_middle (map (λ g. g.0) done) (map (λ g. g.0) gs) g.0)

    go : (Contains (map group_principal gs) p → IsIdIn (map (λ g. g.0) ((done ++ g ∷ []) ++ gs)) p)
        → Contains (group_principal g ∷ []) p ⊎ Contains (map group_principal gs) p → IsIdIn (map (λ g. g.0) (done ++ g ∷ gs)) p
    go more (inl here) = subst (IsIdIn (map (λ g. g.0) (done ++ g ∷ gs))) (only_in (group_principal g) p here) there
    go more (inr later) = subst (λ l. IsIdIn (map (λ g. g.0) l) p) (append_assoc done (g ∷ []) gs) (more later)

all_ids : (ro : Membership) (p : Principal) → Contains (principals ro) p → IsIdIn (map (λ g. g.0) ro.groups) p
all_ids ro p c = go (Contains-append_cases (map user_principal ro.users) (map group_principal ro.groups) p c)
  where
    go : Contains (map user_principal ro.users) p ⊎ Contains (map group_principal ro.groups) p → IsIdIn (map (λ g. g.0) ro.groups) p
    go (inl u) = user_ids (map (λ g. g.0) ro.groups) ro.users p u
    go (inr g) = group_ids [] ro.groups p g

-- the vector after a commit that carries the groups of which it writes a pointer is that of the history with one entry
-- more
pub bump_counts : (ro : Membership) (h : List Entry) (e : Entry)
    → bump ro (map (λ v. v.1) (versions ro h)) e.author (carried_groups ro (cells_of ro h e))
    ≡ map (λ v. v.1) (versions ro (h ++ e ∷ []))
unfolding bump
bump_counts ro h e =
    bumped ro h e.author (cells_of ro h e) (map (λ g. g.0) ro.groups) (principals ro) (all_ids ro)
    ∙ ap (map (λ (v : Principal × ℕ). v.1)) (sym (versions-append ro h e (cells_of ro h e) refl))

-- the groups with i-handles are those that the change carries
pub groups_listed : (ro : Membership) (h : List Entry) (e : Entry)
    → map (λ g. g.0) (group_handles ro h e) ≡ carried_groups ro (cells_of ro h e)
groups_listed ro h e = firsts _ (carried_groups ro (cells_of ro h e))
  where
    firsts : (f : ℕ → List ℕ) (gs : List ℕ) → map (λ (g : ℕ × List ℕ). g.0) (map (λ g. (g, f g)) gs) ≡ gs
    firsts f [] = refl
    firsts f (g ∷ gs) = ap (λ l. g ∷ l) (firsts f gs)

pub carried_listed : (ro : Membership) (cs : List Committed) (c : Committed) → MayJoin ro cs c
    → map (λ g. g.0) c.commit.version.groups ≡ carried_groups ro (cells_of ro (history cs) (entry_of c))
carried_listed ro cs c f =
    ap (map (λ (g : ℕ × List ℕ). g.0)) f.fits.group_handles_are ∙ groups_listed ro (history cs) (entry_of c)

zeros_count : (ro : Membership) (ps : List Principal) → map (λ p. 0) ps ≡ map (λ v. v.1) (map (numbered ro []) ps)
zeros_count ro [] = refl
zeros_count ro (p ∷ ps) = ap (λ l. 0 ∷ l) (zeros_count ro ps)

Counts : Membership → List Committed → Type 0
Counts ro cs = Legal ro cs → vector_of ro cs ≡ map (λ v. v.1) (versions ro (history cs))

-- the vector of a legal list counts, of each user, the user's commits, and of each group those that carry it
pub vector_counts : (ro : Membership) (cs : List Committed) → Legal ro cs → vector_of ro cs ≡ map (λ v. v.1) (versions ro (history cs))
unfolding Counts chain_vector
vector_counts ro = from_the_end (Counts ro) (λ l. zeros_count ro (principals ro)) step
  where
    step : (cs : List Committed) (c : Committed) → Counts ro cs → Counts ro (cs ++ c ∷ [])
    step cs c ih l =
        let f = legal_next ro cs [] c l in
        vector_last ro cs c ∙ (next_counts ro (commits_of cs) c.commit f.next).vector_is
        ∙ (λ i. bump ro (ih (legal_front ro cs (c ∷ []) l) i) (author_of c) (carried_listed ro cs c f i))
        ∙ bump_counts ro (history cs) (entry_of c)
        ∙ ap (λ h. map (λ (v : Principal × ℕ). v.1) (versions ro h)) (sym (map-append entry_of cs (c ∷ [])))
