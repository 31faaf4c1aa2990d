-- Runs of events: their fronts are runs, each event may come after those before it, and the lists in them are legal.
use Rattle.std.proofs.Common.{◌≡◌, ◌≢◌, ℕ, Bool, true, false, cond, List, [], ◌∷◌, ◌++◌, nat_eq, refl, sym, ap, ◌∙◌, subst, append_assoc, append-nil, arith}
use Rattle.std.specs.List.{flat_map, Contains}
use Rattle.std.proofs.lemmas.Grind.{flat_map-append}
use Rattle.std.proofs.lemmas.List.Elements.{Contains-append_left, Contains-append_right}
use Rattle.std.proofs.lemmas.Bool.{eqb-true, eq-eqb}
use Rattle.su_bytes.specs.Membership.{Membership}
use Rattle.su_bytes.specs.RosterBytes.{roster_bytes}
use Rattle.su_change.specs.Item.{item_bytes}
use Rattle.su_version.specs.Version.{Version}
use Rattle.su_version.specs.Commit.{commit_bytes}
use Rattle.su_legal.specs.Legal.{Committed, Legal}
use Rattle.su_legal.specs.Act.{Act, Act.Takes, Act.Signs, May}
use Rattle.su_legal.proofs.Public.{after_both, found_split, only_in}
use Rattle.su_fork.specs.Events.{World, Event, signing, taken, signed, taken_by, list_of, all_taken, signed_by, versions_of, RunAfter, Run, Held}
use Rattle.su_fork.specs.Premises.{committed_bytes, hashed}
use Rattle.su_fork.proofs.Places.{found, in_joined}
use Rattle.su_fork.proofs.Heads.{Within}

run_front_after : (w : World) (before es more : List Event) → RunAfter w before (es ++ more) → RunAfter w before es
run_front_after w before [] more r = tt
run_front_after w before (e ∷ es) more (h, m, r) = (h, m, run_front_after w (before ++ e ∷ []) es more r)

run_rest_after : (w : World) (before es more : List Event) → RunAfter w before (es ++ more) → RunAfter w (before ++ es) more
run_rest_after w before [] more r = subst (λ b. RunAfter w b more) (sym (append-nil before)) r
run_rest_after w before (e ∷ es) more (h, m, r) =
    subst (λ b. RunAfter w b more) (append_assoc before (e ∷ []) es) (run_rest_after w (before ++ e ∷ []) es more r)

pub run_front : (w : World) (es more : List Event) → Run w (es ++ more) → Run w es
run_front w es more r = run_front_after w [] es more r

-- what an event was that others came before and after
pub record Came (w : World) (before : List Event) (e : Event) : Type 0 where
  pub run : Run w before
  pub by : w.honest (w.user e.client) ≡ true
  pub may : May w.roster (w.user e.client) (list_of e.client before) e.act

pub came : (w : World) (before after : List Event) (e : Event) → Run w (before ++ e ∷ after) → Came w before e
came w before after e r =
    let rest = run_rest_after w [] before (e ∷ after) r in
    record { run = run_front w before (e ∷ after) r; by = rest.0; may = rest.1 }

run_more_after : (w : World) (before es : List Event) (e : Event) → RunAfter w before es → w.honest (w.user e.client) ≡ true
    → May w.roster (w.user e.client) (list_of e.client (before ++ es)) e.act → RunAfter w before (es ++ e ∷ [])
run_more_after w before [] e r h m = (h, subst (λ b. May w.roster (w.user e.client) (list_of e.client b) e.act) (append-nil before) m, tt)
run_more_after w before (x ∷ es) e (hx, mx, r) h m =
    (hx, mx, run_more_after w (before ++ x ∷ []) es e r h (subst (λ b. May w.roster (w.user e.client) (list_of e.client b) e.act) (sym (append_assoc before (x ∷ []) es)) m))

-- a run with one event more
pub run_more : (w : World) (es : List Event) (e : Event) → Run w es → w.honest (w.user e.client) ≡ true → May w.roster (w.user e.client) (list_of e.client es) e.act → Run w (es ++ e ∷ [])
run_more w es e r h m = run_more_after w [] es e r h m

-- ---- lists

pub list-append : (k : ℕ) (es more : List Event) → list_of k (es ++ more) ≡ list_of k es ++ list_of k more
unfolding list_of
list-append k es more = flat_map-append (taken_by k) es more

pub list-one : (k : ℕ) (es : List Event) (e : Event) → list_of k (es ++ e ∷ []) ≡ list_of k es ++ taken_by k e
unfolding list_of
list-one k es e = flat_map-append (taken_by k) es (e ∷ []) ∙ ap (λ l. flat_map (taken_by k) es ++ l) (append-nil (taken_by k e))

own_event : (k : ℕ) (x : Act) → taken_by k (record { client = k; act = x }) ≡ taken x
own_event k x = ap (λ b. cond b (taken x) []) (eq-eqb k k refl)

-- an event of a client adds to its list what it takes, and to no other list
pub list_own : (k : ℕ) (es : List Event) (x : Act) → list_of k (es ++ record { client = k; act = x } ∷ []) ≡ list_of k es ++ taken x
list_own k es x = list-one k es (record { client = k; act = x }) ∙ ap (λ l. list_of k es ++ l) (own_event k x)

other_client : (j k : ℕ) → j ≢ k → nat_eq k j ≡ false
other_client j k n = grind arith

pub list_other : (j k : ℕ) (es : List Event) (x : Act) → j ≢ k → list_of j (es ++ record { client = k; act = x } ∷ []) ≡ list_of j es
list_other j k es x n =
    list-one j es (record { client = k; act = x }) ∙ ap (λ b. list_of j es ++ cond b (taken x) []) (other_client j k n) ∙ append-nil (list_of j es)

taken_legal : (ro : Membership) (a : ℕ) (held : List Committed) (x : Act) → Legal ro held → May ro a held x → Legal ro (held ++ taken x)
taken_legal ro a held (Takes more) l m = after_both ro [] held more l m
taken_legal ro a held (Signs v) l m = subst (Legal ro) (sym (append-nil held)) l

legal_after : (w : World) (k : ℕ) (before es : List Event) → Legal w.roster (list_of k before) → RunAfter w before es → Legal w.roster (list_of k (before ++ es))
legal_after w k before [] l r = subst (λ b. Legal w.roster (list_of k b)) (sym (append-nil before)) l
legal_after w k before (e ∷ es) l (h, m, r) =
    subst (λ b. Legal w.roster (list_of k b)) (append_assoc before (e ∷ []) es) (legal_after w k (before ++ e ∷ []) es next r)
  where
    go : (b : Bool) → nat_eq e.client k ≡ b → Legal w.roster (list_of k before ++ cond b (taken e.act) [])
    go true is =
        let same = eqb-true e.client k is in
        taken_legal w.roster (w.user e.client) (list_of k before) e.act l (subst (λ j. May w.roster (w.user e.client) (list_of j before) e.act) same m)
    go false is = subst (Legal w.roster) (sym (append-nil (list_of k before))) l

    next : Legal w.roster (list_of k (before ++ e ∷ []))
    next = subst (Legal w.roster) (sym (list-one k before e)) (go (nat_eq e.client k) refl)

-- what a client holds is legal at every moment
pub run_legal : (w : World) (k : ℕ) (es : List Event) → Run w es → Legal w.roster (list_of k es)
unfolding list_of
run_legal w k es r = legal_after w k [] es tt r

-- ---- who took or signed something

in_chosen : {A : Type 0} (b : Bool) (xs : List A) (x : A) → Contains (cond b xs []) x → (b ≡ true) × Contains xs x
in_chosen true xs x c = (refl, c)
in_chosen false xs x (k, l, e) = absurd (omega (arith, l))

pub taken_from : (k : ℕ) (e : Event) (c : Committed) → Contains (taken_by k e) c → Contains (taken e.act) c
taken_from k e c i = (in_chosen (nat_eq e.client k) (taken e.act) c i).1

-- the event in which a client of user u signed a version structure
pub record SignedIn (w : World) (es : List Event) (u : ℕ) (v : Version) : Type 0 where
  pub client : ℕ
  pub user : w.user client ≡ u
  pub before : List Event
  pub after : List Event
  pub moment : es ≡ before ++ signing client v ∷ after

only_signed : (x : Act) (v : Version) → Contains (signed x) v → x ≡ Signs v
only_signed (Takes more) v (k, l, e) = absurd (omega (arith, l))
only_signed (Signs w) v c = ap Signs (only_in w v c)

pub signed_in : (w : World) (u : ℕ) (es : List Event) (v : Version) → Contains (versions_of w u es) v → SignedIn w es u v
unfolding versions_of
signed_in w u es v c =
    let f = found (signed_by w u) es v c in
    let i = in_chosen (nat_eq (w.user f.element.client) u) (signed f.element.act) v f.there in
    let what = only_signed f.element.act v i.1 in
    record {
      client = f.element.client;
      user = eqb-true (w.user f.element.client) u i.0;
      before = f.before;
      after = f.after;
      moment = f.whole ∙ (λ j. f.before ++ record { client = f.element.client; act = what j } ∷ f.after);
    }

-- ---- what was taken, and what is hashed of it

-- what a client holds was taken
pub held_taken : (k : ℕ) (es : List Event) (c : Committed) → Contains (list_of k es) c → Contains (all_taken es) c
unfolding list_of
held_taken k es c i =
    let f = found (taken_by k) es c i in
    subst (λ l. Contains (all_taken l) c) (sym f.whole) (in_joined (λ e. taken e.act) f.before f.after f.element c (taken_from k f.element c f.there))

-- what was taken a client holds
pub taken_held : (es : List Event) (c : Committed) → Contains (all_taken es) c → (k : ℕ) × Contains (list_of k es) c
unfolding list_of
taken_held es c i =
    let f = found (λ (e : Event). taken e.act) es c i in (
      f.element.client,
      subst (λ l. Contains (flat_map (taken_by f.element.client) l) c) (sym f.whole)
          (in_joined (taken_by f.element.client) f.before f.after f.element c (by_itself (nat_eq f.element.client f.element.client) (taken f.element.act) c (eq-eqb f.element.client f.element.client refl) f.there)),
    )
  where
    by_itself : (b : Bool) (xs : List Committed) (x : Committed) → b ≡ true → Contains xs x → Contains (cond b xs []) x
    by_itself true xs x is there = there
    by_itself false xs x is there = absurd (cc)

-- the byte strings of a list of these commits are among those that are hashed of them
pub within_hashed : (ro : Membership) (cs list : List Committed) → ((c : Committed) → Contains list c → Contains cs c) → Within (hashed ro cs) list
unfolding hashed
within_hashed ro cs list all = record {
  commits = λ c i. place c (commit_bytes c.commit) (all c i) (0, omega arith, refl);
  changes = λ c i. place c (item_bytes c.change) (all c i) (1, omega arith, refl);
}
  where
    place : (c : Committed) (s : List ℕ) → Contains cs c → Contains (committed_bytes c) s → Contains (roster_bytes ro ∷ flat_map committed_bytes cs) s
    place c s i t =
        let g = found_split cs c i in
        let there : Contains (flat_map committed_bytes cs) s = subst (λ l. Contains (flat_map committed_bytes l) s) (sym g.whole) (in_joined committed_bytes g.before g.after c s t) in
        Contains-append_right (roster_bytes ro ∷ []) (flat_map committed_bytes cs) s there

pub roster_within : (ro : Membership) (cs : List Committed) → Contains (hashed ro cs) (roster_bytes ro)
unfolding hashed
roster_within ro cs = (0, omega arith, refl)

-- ---- lists of commits that were taken or shown

-- a legal list of these commits
pub record IsSeen (ro : Membership) (cs : List Committed) (list : List Committed) : Type 0 where
  pub legal : Legal ro list
  pub among : (c : Committed) → Contains list c → Contains cs c

pub within_seen : (ro : Membership) (cs list : List Committed) → IsSeen ro cs list → Within (hashed ro cs) list
within_seen ro cs list s = within_hashed ro cs list s.among

-- what was held at a moment was taken
pub is_held : (w : World) (es before after : List Event) (k : ℕ) → Run w es → es ≡ before ++ after → IsSeen w.roster (all_taken es) (list_of k before)
is_held w es before after k r is =
    let grown : list_of k es ≡ list_of k before ++ list_of k after = ap (list_of k) is ∙ list-append k before after in
    record {
      legal = run_legal w k before (run_front w before after (subst (Run w) is r));
      among = λ c i. held_taken k es c (subst (λ l. Contains l c) (sym grown) (Contains-append_left (list_of k before) (list_of k after) c i));
    }

pub held_list : (w : World) (es : List Event) (k : ℕ) (list : List Committed) → Run w es → Held es k list → IsSeen w.roster (all_taken es) list
held_list w es k list r h = subst (IsSeen w.roster (all_taken es)) h.holding (is_held w es h.before h.after k r h.moment)

-- with a list that is shown
pub with_shown : (ro : Membership) (cs ys list : List Committed) → IsSeen ro cs list → IsSeen ro (cs ++ ys) list
with_shown ro cs ys list s = record { legal = s.legal; among = λ c i. Contains-append_left cs ys c (s.among c i) }

pub is_shown : (ro : Membership) (cs ys : List Committed) → Legal ro ys → IsSeen ro (cs ++ ys) ys
is_shown ro cs ys l = record { legal = l; among = λ c i. Contains-append_right cs ys c i }
