-- The keys that users have along a chain.
use Rattle.std.proofs.Common.{◌≡◌, ℕ, Bool, true, false, cond, List, [], ◌∷◌, ◌++◌, map, nat_eq, refl, sym, ap, ◌∙◌, append_assoc, append-nil}
use Rattle.std.specs.Prelude.{Option, Some, None, option_to_list}
use Rattle.std.specs.Cmp.Lexicographic.{pointwise, bytes_decides}
use Rattle.std.proofs.lemmas.Bool.{or_left, or_right}
use Rattle.std.proofs.lemmas.Grind.{flat_map-append}
use Rattle.std.proofs.lemmas.List.Folds.{list_any-append}
use Rattle.su_bytes.specs.Keys.{is_among, roster_keys}
use Rattle.su_bytes.specs.Membership.{Membership, has_user}
use Rattle.su_bytes.proofs.Public.{key_listed}
use Rattle.su_bytes.specs.RosterBytes.{key_in, user_key}
use Rattle.su_version.specs.Commit.{Commit}
use Rattle.su_version.specs.Chain.{key_after, later_key, chain_key, next_keys, chain_keys}

later_key-append : (u : ℕ) (k : Option (List ℕ)) (cs : List Commit) (c : Commit)
    → later_key u k (cs ++ c ∷ []) ≡ cond (nat_eq c.version.author u) (key_after (later_key u k cs) c.version.next_key) (later_key u k cs)
later_key-append u k [] c = refl
later_key-append u k (x ∷ cs) c = later_key-append u (cond (nat_eq x.version.author u) (key_after k x.version.next_key) k) cs c

-- the key of a user, with one commit more
pub key_further : (ro : Membership) (u : ℕ) (cs : List Commit) (c : Commit)
    → chain_key ro u (cs ++ c ∷ []) ≡ cond (nat_eq c.version.author u) (key_after (chain_key ro u cs) c.version.next_key) (chain_key ro u cs)
unfolding chain_key
key_further ro u cs c = later_key-append u (user_key ro u) cs c

next_keys-append : (cs : List Commit) (c : Commit) → next_keys (cs ++ c ∷ []) ≡ next_keys cs ++ option_to_list c.version.next_key
next_keys-append [] c = append-nil (option_to_list c.version.next_key)
next_keys-append (x ∷ cs) c =
    ap (λ l. option_to_list x.version.next_key ++ l) (next_keys-append cs c)
    ∙ sym (append_assoc (option_to_list x.version.next_key) (next_keys cs) (option_to_list c.version.next_key))

-- the keys that were had, with one commit more
pub keys_further : (ro : Membership) (cs : List Commit) (c : Commit) → chain_keys ro (cs ++ c ∷ []) ≡ chain_keys ro cs ++ option_to_list c.version.next_key
unfolding chain_keys
keys_further ro cs c =
    ap (λ l. roster_keys ro ++ l) (next_keys-append cs c)
    ∙ sym (append_assoc (roster_keys ro) (next_keys cs) (option_to_list c.version.next_key))

-- at first they are the roster's
pub keys_at_first : (ro : Membership) → chain_keys ro [] ≡ roster_keys ro
unfolding chain_keys
keys_at_first ro = append-nil (roster_keys ro)

pub key_at_first : (ro : Membership) (u : ℕ) → chain_key ro u [] ≡ user_key ro u
unfolding chain_key
key_at_first ro u = refl

still_none : (b : Bool) → cond {A = Option (List ℕ)} b None None ≡ None
still_none true = refl
still_none false = refl

-- who has no key in the roster has none
no_key_later : (u : ℕ) (cs : List Commit) → later_key u None cs ≡ None
no_key_later u [] = refl
no_key_later u (c ∷ cs) = ap (λ k. later_key u k cs) (still_none (nat_eq c.version.author u)) ∙ no_key_later u cs

-- ---- a key that was had stays one of those that were

among_more : (xs ys : List (List ℕ)) (key : List ℕ) → is_among xs key ≡ true → is_among (xs ++ ys) key ≡ true
among_more xs ys key is = list_any-append (pointwise nat_eq key) xs ys ∙ or_left (is_among xs key) (is_among ys key) is

among_last : (xs : List (List ℕ)) (x key : List ℕ) → x ≡ key → is_among (xs ++ x ∷ []) key ≡ true
among_last xs x key same =
    list_any-append (pointwise nat_eq key) xs (x ∷ [])
    ∙ or_right (is_among xs key) (is_among (x ∷ []) key) (or_left (pointwise nat_eq key x) false ((bytes_decides key x).1 (sym same)))

pub still_had : (ro : Membership) (before behind : List Commit) (key : List ℕ) → is_among (chain_keys ro before) key ≡ true → is_among (chain_keys ro (before ++ behind)) key ≡ true
unfolding chain_keys
still_had ro before behind key is =
    let more : chain_keys ro (before ++ behind) ≡ chain_keys ro before ++ next_keys behind =
    ap (λ l. roster_keys ro ++ l) (flat_map-append (λ (c : Commit). option_to_list c.version.next_key) before behind)
    ∙ sym (append_assoc (roster_keys ro) (next_keys before) (next_keys behind)) in
    ap (λ l. is_among l key) more ∙ among_more (chain_keys ro before) (next_keys behind) key is

listed_key : (users : List (ℕ × List ℕ)) (a : ℕ) (key : List ℕ) → key_in users a ≡ Some key → is_among (map (λ (u : ℕ × List ℕ). u.1) users) key ≡ true
listed_key [] a key is = absurd (let bad : None ≡ Some key = is in cc)
listed_key (u ∷ us) a key is = go (listed_key us a key) (nat_eq u.0 a) is
  where
    go : (key_in us a ≡ Some key → is_among (map (λ (u : ℕ × List ℕ). u.1) us) key ≡ true) → (b : Bool) → cond b (Some u.1) (key_in us a) ≡ Some key → is_among (map (λ (u : ℕ × List ℕ). u.1) (u ∷ us)) key ≡ true
    go later true same = or_left (pointwise nat_eq key u.1) (is_among (map (λ (u : ℕ × List ℕ). u.1) us) key) ((bytes_decides key u.1).1 (let e : Some u.1 ≡ Some key = same in cc))
    go later false other = or_right (pointwise nat_eq key u.1) (is_among (map (λ (u : ℕ × List ℕ). u.1) us) key) (later other)

-- the key of a user is one of these
abbrev Had : List (List ℕ) → Option (List ℕ) → Type 0
Had used k = (key : List ℕ) → k ≡ Some key → is_among used key ≡ true

had_after : (used : List (List ℕ)) (k next : Option (List ℕ)) → Had used k → Had (used ++ option_to_list next) (key_after k next)
had_after used None next had key is = absurd (let bad : None ≡ Some key = is in cc)
had_after used (Some k) None had key is = among_more used [] key (had key is)
had_after used (Some k) (Some n) had key is = among_last used n key (let e : Some n ≡ Some key = is in cc)

had_then : (used : List (List ℕ)) (k next : Option (List ℕ)) (b : Bool) → Had used k → Had (used ++ option_to_list next) (cond b (key_after k next) k)
had_then used k next true had key is = had_after used k next had key is
had_then used k next false had key is = among_more used (option_to_list next) key (had key is)

had_later : (u : ℕ) (used : List (List ℕ)) (k : Option (List ℕ)) (cs : List Commit) → Had used k → Had (used ++ next_keys cs) (later_key u k cs)
had_later u used k [] had key is = among_more used [] key (had key is)
had_later u used k (c ∷ cs) had key is =
    ap (λ l. is_among l key) (sym (append_assoc used (option_to_list c.version.next_key) (next_keys cs)))
    ∙ had_later u (used ++ option_to_list c.version.next_key) (cond (nat_eq c.version.author u) (key_after k c.version.next_key) k) cs
    (had_then used k c.version.next_key (nat_eq c.version.author u) had) key is

-- the key of a user is one that was had
pub key_was_had : (ro : Membership) (u : ℕ) (cs : List Commit) (key : List ℕ) → chain_key ro u cs ≡ Some key → is_among (chain_keys ro cs) key ≡ true
unfolding chain_key chain_keys
key_was_had ro u cs key is = had_later u (roster_keys ro) (user_key ro u) cs (listed_key ro.users u) key is

-- who has a key is a user
pub key_of_user : (ro : Membership) (u : ℕ) (cs : List Commit) (key : List ℕ) → chain_key ro u cs ≡ Some key → has_user ro u ≡ true
unfolding chain_key
key_of_user ro u cs key is = go (user_key ro u) refl is
  where
    go : (k : Option (List ℕ)) → user_key ro u ≡ k → later_key u k cs ≡ Some key → has_user ro u ≡ true
    go None none later = absurd (let bad : None ≡ Some key = sym (no_key_later u cs) ∙ later in cc)
    go (Some first) has later = key_listed ro u first has
