-- What is held stays, what is told is held in the end, and who adds what while nobody else leads.
use Rattle.std.proofs.Common.{◌≡◌, ◌⊎◌, ◌∙◌, sym, ap, subst, refl, ℕ, Bool, true, false, ◌&&◌, not, List, [], ◌∷◌, ◌++◌, Option, Some, None, inl, inr, if◌then◌else◌, arith}
use Rattle.std.proofs.lemmas.Bool.Decides.{nat_tests}
use Rattle.std.proofs.lemmas.Slice.Eq.{bytes_eq-Decides}
use Rattle.std.proofs.lemmas.List.Elements.{Contains-append_right}
use Rattle.std.specs.Prelude.{bytes_eq, is_some, Contains}
use Rattle.su_engine_keeper.specs.Machine.{Event, leads, ends, asks, tells, lacks, Store, begun, held, is_led_by, is_done, step, run_from, IsSo, IsRunFrom, IsRun, held_after, leader_after, IsTold, IsNoLead, KeepsLead, Asks, IsAsked}

-- the store where what was asked is done, and where it isn't
abbrev grown : Bool → Store → List (List ℕ × List ℕ) → Store
grown does store more = if does then record store { pairs = store.pairs ++ more } else store

stays_by : (b : Bool) (first value : List ℕ) (rest more : Option (List ℕ)) → (rest ≡ Some value → more ≡ Some value)
    → (if b then Some first else rest) ≡ Some value → (if b then Some first else more) ≡ Some value
stays_by true first value rest more next was = was
stays_by false first value rest more next was = next was

-- what is held stays
held_stays : (before more : List (List ℕ × List ℕ)) (key value : List ℕ) → held before key ≡ Some value
    → held (before ++ more) key ≡ Some value
held_stays [] more key value was = absurd cc
held_stays (first ∷ later) more key value was =
    stays_by (bytes_eq first.0 key) first.1 value (held later key) (held (later ++ more) key) (held_stays later more key value) was

grown_stays : (does : Bool) (store : Store) (more : List (List ℕ × List ℕ)) (key value : List ℕ) → held store.pairs key ≡ Some value
    → held (grown does store more).pairs key ≡ Some value
grown_stays true store more key value was = held_stays store.pairs more key value was
grown_stays false store more key value was = was

step_stays : (store : Store) (event : Event) (key value : List ℕ) → held store.pairs key ≡ Some value
    → held (step store event).pairs key ≡ Some value
step_stays store (leads token) key value was = was
step_stays store ends key value was = was
step_stays store (asks token first beside) key value was =
    grown_stays (is_done store token first.0) store (first ∷ beside) key value was
step_stays store (tells k v) key value was = was
step_stays store (lacks k) key value was = was

pub stays : (store : Store) (events : List Event) (key value : List ℕ) → held store.pairs key ≡ Some value
    → held (run_from store events).pairs key ≡ Some value
stays store [] key value was = was
stays store (event ∷ events) key value was =
    stays (step store event) events key value (step_stays store event key value was)

-- what is told is held in the end
pub told_from : (store : Store) (events : List Event) (key value : List ℕ) → IsRunFrom store events → IsTold events key value
    → held (run_from store events).pairs key ≡ Some value
told_from store [] key value run told = absurd told
told_from store (event ∷ events) key value run (inl same) =
    let so : held store.pairs key ≡ Some value = subst (λ (e : Event). IsSo store e) same run.0 in
    stays (step store event) events key value (step_stays store event key value so)
told_from store (event ∷ events) key value run (inr told) =
    told_from (step store event) events key value run.1 told

pub one_value : (events : List Event) (key one other : List ℕ) → IsRun events → IsTold events key one
    → IsTold events key other → one ≡ other
one_value events key one other run first second =
    let a : held_after events key ≡ Some one = told_from begun events key one run first in
    let b : held_after events key ≡ Some other = told_from begun events key other run second in
    let c : Some one ≡ Some other = sym a ∙ b in
    cc

-- a run in two parts
pub run_from-append : (store : Store) (before after : List Event) → run_from store (before ++ after) ≡ run_from (run_from store before) after
run_from-append store [] after = refl
run_from-append store (event ∷ before) after = run_from-append (step store event) before after

pub parts : (store : Store) (before after : List Event) → IsRunFrom store (before ++ after)
    → IsRunFrom store before × IsRunFrom (run_from store before) after
parts store [] after run = (tt, run)
parts store (event ∷ before) after run =
    let rest = parts (step store event) before after run.1 in
    ((run.0, rest.0), rest.1)

pub told_before : (before after : List Event) (key value : List ℕ) → IsTold before key value → IsTold (before ++ after) key value
told_before [] after key value told = absurd told
told_before (event ∷ before) after key value (inl same) = inl same
told_before (event ∷ before) after key value (inr told) = inr (told_before before after key value told)

-- where a key held nothing, it holds what comes
held_push_by : (b : Bool) (first : List ℕ) (rest more last : Option (List ℕ)) → (rest ≡ None → more ≡ last) → (if b then Some first else rest) ≡ None → (if b then Some first else more) ≡ last
held_push_by true first rest more last next was = absurd cc
held_push_by false first rest more last next was = next was

held_behind : (before more : List (List ℕ × List ℕ)) (key : List ℕ) → held before key ≡ None → held (before ++ more) key ≡ held more key
held_behind [] more key was = refl
held_behind (first ∷ later) more key was =
    held_push_by (bytes_eq first.0 key) first.1 (held later key) (held (later ++ more) key) (held more key) (held_behind later more key) was

-- what a key holds was put
held_by : (b : Bool) (first value : List ℕ) (rest : Option (List ℕ)) (key k : List ℕ) (later : List (List ℕ × List ℕ)) → bytes_eq k key ≡ b
    → (rest ≡ Some value → Contains later (key, value)) → (if b then Some first else rest) ≡ Some value → Contains ((k, first) ∷ later) (key, value)
held_by true first value rest key k later own next was =
    let same : k ≡ key = (bytes_eq-Decides k key).0 own in
    let is : first ≡ value = cc in
    subst (λ (p : List ℕ × List ℕ). Contains ((k, first) ∷ later) p) (ap (λ (x : List ℕ). (x, first)) same ∙ ap (λ (x : List ℕ). (key, x)) is) (Contains-first (k, first) later)
  where
    Contains-first : (p : List ℕ × List ℕ) (ps : List (List ℕ × List ℕ)) → Contains (p ∷ ps) p
    Contains-first p ps = (0, omega arith, refl)
held_by false first value rest key k later own next was = Contains-append_right ((k, first) ∷ []) later (key, value) (next was)

pub held_was_put : (pairs : List (List ℕ × List ℕ)) (key value : List ℕ) → held pairs key ≡ Some value → Contains pairs (key, value)
held_was_put [] key value was = absurd cc
held_was_put (first ∷ later) key value was =
    held_by (bytes_eq first.0 key) first.1 value (held later key) key first.0 later refl (held_was_put later key value) was

-- only this one may lead
abbrev LeadsAtMost : Store → ℕ → Type 0
LeadsAtMost store token = (t : ℕ) → is_led_by store.leader t ≡ true → t ≡ token

-- a key holds nothing yet, or what this event asks for under that token
abbrev Adds : Store → ℕ → List ℕ → Event → Type 0
Adds after token key event =
    (held after.pairs key ≡ None) ⊎ ((value : List ℕ) × (held after.pairs key ≡ Some value) × Asks token key value event)

left_part : (a b : Bool) → (a && b) ≡ true → a ≡ true
left_part true b is = refl
left_part false b is = is

put_adds : (o : Option (List ℕ)) (store : Store) (t token : ℕ) (first : List ℕ × List ℕ) (beside : List (List ℕ × List ℕ)) (key : List ℕ) → held (first ∷ beside) key ≡ o → t ≡ token → held store.pairs key ≡ None
    → Adds (grown true store (first ∷ beside)) token key (asks t first beside)
put_adds None store t token first beside key is by none = inl (held_behind store.pairs (first ∷ beside) key none ∙ is)
put_adds (Some value) store t token first beside key is by none =
    inr (value, held_behind store.pairs (first ∷ beside) key none ∙ is, (by, held_was_put (first ∷ beside) key value is))

asks_add : (does : Bool) (store : Store) (t token : ℕ) (first : List ℕ × List ℕ) (beside : List (List ℕ × List ℕ)) (key : List ℕ) → is_done store t first.0 ≡ does → LeadsAtMost store token → held store.pairs key ≡ None
    → Adds (grown does store (first ∷ beside)) token key (asks t first beside)
asks_add true store t token first beside key does led none =
    put_adds (held (first ∷ beside) key) store t token first beside key refl (led t (left_part (is_led_by store.leader t) (not (is_some (held store.pairs first.0))) does)) none
asks_add false store t token first beside key does led none = inl none

step_adds : (store : Store) (event : Event) (token : ℕ) (key : List ℕ) → IsNoLead event → LeadsAtMost store token → held store.pairs key ≡ None → Adds (step store event) token key event
step_adds store (leads t) token key never led none = absurd never
step_adds store ends token key never led none = inl none
step_adds store (asks t first beside) token key never led none =
    asks_add (is_done store t first.0) store t token first beside key refl led none
step_adds store (tells k v) token key never led none = inl none
step_adds store (lacks k) token key never led none = inl none

grown_led : (does : Bool) (store : Store) (more : List (List ℕ × List ℕ)) (token : ℕ) → LeadsAtMost store token → LeadsAtMost (grown does store more) token
grown_led true store more token led = led
grown_led false store more token led = led

step_led : (store : Store) (event : Event) (token : ℕ) → IsNoLead event → LeadsAtMost store token → LeadsAtMost (step store event) token
step_led store (leads t) token never led = absurd never
step_led store ends token never led = λ t is. absurd cc
step_led store (asks t first beside) token never led = grown_led (is_done store t first.0) store (first ∷ beside) token led
step_led store (tells k v) token never led = led
step_led store (lacks k) token never led = led

adds_by : (after : Store) (event : Event) (events : List Event) (token : ℕ) (key value : List ℕ) → Adds after token key event → (held after.pairs key ≡ None → IsAsked token key value events)
    → held (run_from after events).pairs key ≡ Some value → Asks token key value event ⊎ IsAsked token key value events
adds_by after event events token key value (inl none) rest was = inr (rest none)
adds_by after event events token key value (inr (put, is, asked)) rest was =
    let late : held (run_from after events).pairs key ≡ Some put = stays after events key put is in
    let both : Some put ≡ Some value = sym late ∙ was in
    let same : put ≡ value = cc in
    inl (subst (λ (v : List ℕ). Asks token key v event) same asked)

pub adds_from : (store : Store) (events : List Event) (token : ℕ) (key value : List ℕ) → LeadsAtMost store token → KeepsLead events → held store.pairs key ≡ None → held (run_from store events).pairs key ≡ Some value → IsAsked token key value events
adds_from store [] token key value led keeps none was = absurd (let bad : None ≡ Some value = sym none ∙ was in cc)
adds_from store (event ∷ events) token key value led keeps none was =
    adds_by (step store event) event events token key value (step_adds store event token key keeps.0 led none)
    (λ still. adds_from (step store event) events token key value (step_led store event token keeps.0 led) keeps.1 still was) was

-- the token under which somebody leads is the only one
leads_at_most : (store : Store) (token : ℕ) → store.leader ≡ Some token → LeadsAtMost store token
leads_at_most store token is t led =
    let by : is_led_by (Some token) t ≡ true = subst (λ (l : Option ℕ). is_led_by l t ≡ true) is led in
    grind (arith, nat_tests)

-- what is told of a key that lacks a value is so at that moment
pub lacks_before : (before after : List Event) (key : List ℕ) → IsRun (before ++ (lacks key ∷ after)) → held_after before key ≡ None
lacks_before before after key run = (parts begun before (lacks key ∷ after) run).1.0

pub leader_adds : (before after : List Event) (token : ℕ) (key value : List ℕ) → IsRun (before ++ (lacks key ∷ after)) → leader_after before ≡ Some token → KeepsLead after
    → held_after (before ++ (lacks key ∷ after)) key ≡ Some value → IsAsked token key value after
leader_adds before after token key value run by keeps was =
    let store = run_from begun before in
    let late : held (run_from store after).pairs key ≡ Some value =
    subst (λ (s : Store). held s.pairs key ≡ Some value) (run_from-append begun before (lacks key ∷ after)) was in
    adds_from store after token key value (leads_at_most store token by) keeps (lacks_before before after key run) late
