-- What a chain comes to with one commit more.
use Rattle.std.proofs.Common.{◌≡◌, ℕ, ◌+◌, ◌<◌, ◌≤◌, Bool, true, false, cond, List, [], ◌∷◌, ◌++◌, map, length, length-append, None, nat_eq, refl, sym, ap, ◌∙◌, subst, arith, append_assoc, append-nil, inl, inr}
use Rattle.std.specs.Prelude.{get_or, option_to_list, ⊤, Result, Ok, Err, OnOk, IfErr, ◌⊎◌}
use Rattle.std.proofs.lemmas.List.{get_or_default}
use Rattle.su_bytes.specs.declared.refusals.Refusal.{Refusal}
use Rattle.su_bytes.specs.declared.refusals.Refusal.TheVariants.{NoMemory}
use Rattle.std.proofs.Math.ListN.{set}
use Rattle.std.proofs.lemmas.List.{get_or-set_same, get_or-set_other, length-set}
use Rattle.std.proofs.lemmas.Bool.{eqb-true, eq-eqb, leb-true}
use Rattle.su_bytes.specs.Membership.{Membership}
use Rattle.su_bytes.specs.Principal.{is_user}
use Rattle.su_bytes.specs.Order.{Passes, RefusedBy}
use Rattle.su_bytes.specs.RosterBytes.{roster_digest}
use Rattle.su_lms.specs.Signature.{leaf_of}
use Rattle.su_vector.specs.Vector.{zeros}
use Rattle.su_version.specs.Commit.{Commit, IsCommit, commit_digest}
use Rattle.su_bytes.specs.declared.formats.Format.{Format}
use Rattle.su_bytes.specs.declared.formats.Format.TheVariants.{V1}
use Rattle.su_used_keys.specs.UsedKeys.{HasJust}
use Rattle.su_version.specs.Chain.{last_digest, chain_head, last_format, chain_format, last_vector, chain_vector, key_after, leaf_after, chain_key, chain_keys, Tip, tip, IsSignedBy, next_order, MayBeNext, ChainAfter, IsChain}
use Rattle.su_version.specs.Tip.{tip_with}
use Rattle.su_version.specs.declared.chains.Tip as kept
use Rattle.su_vector.proofs.Public.{length-bump}
use Rattle.su_version.proofs.Public.{key_further, keys_further, leaf_further, length-chain_vector, next_counts, next_signed}
use Rattle.su_chain.specs.ChainEnd.{user_at, tip_at, IsEndOf}
use Rattle.su_chain.specs.declared.ends.ChainEnd.{ChainEnd}
use Rattle.su_chain.specs.declared.ends.UserKey.{UserKey}
use Rattle.su_chain.specs.declared.ends.TheConstants.{USERS}

chain_after : (ro : Membership) (before cs : List Commit) (c : Commit)
    → ChainAfter ro before cs → MayBeNext ro (before ++ cs) c → ChainAfter ro before (cs ++ c ∷ [])
chain_after ro before [] c chain next = (subst (λ l. MayBeNext ro l c) (append-nil before) next, tt)
chain_after ro before (d ∷ cs) c (here, chain) next =
    (here, chain_after ro (before ++ d ∷ []) cs c chain (subst (λ l. MayBeNext ro l c) (sym (append_assoc before (d ∷ []) cs)) next))

pub chain_further : (ro : Membership) (cs : List Commit) (c : Commit) → IsChain ro cs → MayBeNext ro cs c → IsChain ro (cs ++ c ∷ [])
chain_further ro cs c chain next = chain_after ro [] cs c chain next

last_digest-append : (d : List ℕ) (cs : List Commit) (c : Commit) → last_digest d (cs ++ c ∷ []) ≡ commit_digest c
last_digest-append d [] c = refl
last_digest-append d (x ∷ cs) c = last_digest-append (commit_digest x) cs c

pub head_further : (ro : Membership) (cs : List Commit) (c : Commit) → chain_head ro (cs ++ c ∷ []) ≡ commit_digest c
unfolding chain_head
head_further ro cs c = last_digest-append (roster_digest ro) cs c

last_format-append : (f : Format) (cs : List Commit) (c : Commit) → last_format f (cs ++ c ∷ []) ≡ c.version.format
last_format-append f [] c = refl
last_format-append f (x ∷ cs) c = last_format-append x.version.format cs c

pub format_further : (cs : List Commit) (c : Commit) → chain_format (cs ++ c ∷ []) ≡ c.version.format
unfolding chain_format
format_further cs c = last_format-append V1 cs c

last_vector-append : (v : List ℕ) (cs : List Commit) (c : Commit) → last_vector v (cs ++ c ∷ []) ≡ c.version.vector
last_vector-append v [] c = refl
last_vector-append v (x ∷ cs) c = last_vector-append x.version.vector cs c

pub vector_further : (ro : Membership) (cs : List Commit) (c : Commit) → chain_vector ro (cs ++ c ∷ []) ≡ c.version.vector
unfolding chain_vector
vector_further ro cs c = last_vector-append (zeros ro) cs c

-- ---- the users, of whom one has signed

module _ (users : List UserKey) (a : ℕ) (x : UserKey) (within : a < length users) where
  pub user_after : (u : ℕ) (b : Bool) → nat_eq a u ≡ b → user_at (set users a x) u ≡ cond b x (user_at users u)
  user_after u true is =
      let same : a ≡ u = eqb-true a u is in
      subst (λ y. user_at (set users a x) y ≡ x) same
      (get_or-set_same users a x (record { key = None; leaf = None }) within)
  user_after u false other =
      get_or-set_other users a u x (record { key = None; leaf = None }) (λ e. let no : false ≡ true = sym other ∙ eq-eqb a u (sym e) in absurd cc)

  -- what is known of the other users stays; of this one it is x
  known_after : {A : Type 0} (f : UserKey → A) (u : ℕ) (b : Bool) → nat_eq a u ≡ b → f (user_at (set users a x) u) ≡ cond b (f x) (f (user_at users u))
  known_after f u true is = ap f (user_after u true is)
  known_after f u false other = ap f (user_after u false other)

  pub key_now : (u : ℕ) → (user_at (set users a x) u).key ≡ cond (nat_eq a u) x.key (user_at users u).key
  key_now u = known_after (λ (y : UserKey). y.key) u (nat_eq a u) refl

  pub leaf_now : (u : ℕ) → (user_at (set users a x) u).leaf ≡ cond (nat_eq a u) x.leaf (user_at users u).leaf
  leaf_now u = known_after (λ (y : UserKey). y.leaf) u (nat_eq a u) refl

-- a key at this user is one at that user
same_user : {A : Type 0} (f : ℕ → A) (g : A → A) (a u : ℕ) (old new : A) (b : Bool) → nat_eq a u ≡ b → f a ≡ old → cond b (g old) new ≡ cond b (g (f u)) new
same_user f g a u old new true is here = ap g (sym here ∙ ap f (eqb-true a u is))
same_user f g a u old new false is here = refl

-- ---- what the end of a chain tells of the next commit

module _ (ro : Membership) (cs : List Commit) (e : ChainEnd) (is : IsEndOf ro cs e) where
  -- the tip for the user
  pub tip_of : (u : ℕ) → is_user u ≡ true
      → tip_at e u (chain_keys ro cs) ≡ tip ro cs u
  unfolding tip
  tip_of u user = λ i. record { number = is.number i; head = is.head i; format = is.format i; vector = is.vector i; key = is.keys u user i; leaf = is.leaves u user i; used = chain_keys ro cs }

  pub next_of : (t : Tip) (c : Commit) → t ≡ tip ro cs c.version.author → IsCommit c → Passes (next_order ro t c) → MayBeNext ro cs c
  next_of t c at spelled may = record { spelled = spelled; follows = subst (λ t. Passes (next_order ro t c)) at may }

  -- the key of an author
  pub author_key : (c : Commit) → MayBeNext ro cs c → is_user c.version.author ≡ true → (x : UserKey) → x ≡ user_at e.users.items c.version.author → x.key ≡ None → ⊥
  author_key c next user x at none =
      let signed : IsSignedBy (chain_key ro c.version.author cs) c = next_signed ro cs c next in
      let key : chain_key ro c.version.author cs ≡ None = sym (is.keys c.version.author user) ∙ ap (λ (y : UserKey). y.key) (sym at) ∙ none in
      subst (λ k. IsSignedBy k c) key signed

  -- the end with one commit more
  pub end_further : (c : Commit) (f : ChainEnd) (x : UserKey) → MayBeNext ro cs c → is_user c.version.author ≡ true
      → (within : c.version.author < length e.users.items)
      → x.key ≡ key_after (user_at e.users.items c.version.author).key c.version.next_key
      → x.leaf ≡ leaf_after c.version.next_key (leaf_of c.signature)
      → f.users.items ≡ set e.users.items c.version.author x
      → f.number ≡ e.number + 1 → f.head ≡ commit_digest c → f.format ≡ c.version.format → f.vector ≡ c.version.vector
      → HasJust (chain_keys ro cs ++ option_to_list c.version.next_key) f.used → IsEndOf ro (cs ++ c ∷ []) f
  end_further c f x next user within key leaf users number head format vector used = record {
    chain = chain_further ro cs c is.chain next;
    number = number ∙ ap (λ n. n + 1) is.number ∙ sym (length-append cs (c ∷ []));
    head = head ∙ sym (head_further ro cs c);
    format = format ∙ sym (format_further cs c);
    vector = vector ∙ sym (vector_further ro cs c);
    users = ap length users ∙ length-set e.users.items c.version.author x ∙ is.users;
    keys = λ u of. ap (λ l. (user_at l u).key) users
        ∙ key_now e.users.items c.version.author x within u
        ∙ ap (λ k. cond (nat_eq c.version.author u) k (user_at e.users.items u).key) (key ∙ ap (λ k. key_after k c.version.next_key) (is.keys c.version.author user))
        ∙ ap (λ k. cond (nat_eq c.version.author u) (key_after (chain_key ro c.version.author cs) c.version.next_key) k) (is.keys u of)
        ∙ same_user (λ v. chain_key ro v cs) (λ k. key_after k c.version.next_key) c.version.author u (chain_key ro c.version.author cs) (chain_key ro u cs) (nat_eq c.version.author u) refl refl
        ∙ sym (key_further ro u cs c);
    leaves = λ u of. ap (λ l. (user_at l u).leaf) users
        ∙ leaf_now e.users.items c.version.author x within u
        ∙ ap (λ q. cond (nat_eq c.version.author u) q (user_at e.users.items u).leaf) leaf
        ∙ ap (λ q. cond (nat_eq c.version.author u) (leaf_after c.version.next_key (leaf_of c.signature)) q) (is.leaves u of)
        ∙ sym (leaf_further u cs c);
    used = subst (λ keys. HasJust keys f.used) (sym (keys_further ro cs c)) used;
  }

-- ---- answers of a check, for each chain of which this is the end

module _ (ro : Membership) (e : ChainEnd) (c : Commit) (t : kept.Tip) (u : ℕ) (is : IsCommit c) (author : u ≡ c.version.author)
    (here : (used : List (List ℕ)) → tip_with t used ≡ tip_at e u used) (used_is : t.used.now ≡ e.used) where
  tip_is : (cs : List Commit) → IsEndOf ro cs e → tip_with t (chain_keys ro cs) ≡ tip ro cs c.version.author
  tip_is cs end = here (chain_keys ro cs) ∙ ap (λ v. tip_at e v (chain_keys ro cs)) author ∙ tip_of ro cs e end c.version.author is.version.author

  used_there : (cs : List Commit) → IsEndOf ro cs e → HasJust (chain_keys ro cs) t.used.now
  used_there cs end = subst (HasJust (chain_keys ro cs)) (sym used_is) end.used

  pub checked : (r : Result ⊤ Refusal) → OnOk r ((used : List (List ℕ)) → HasJust used t.used.now → Passes (next_order ro (tip_with t used) c))
      → OnOk r ((cs : List Commit) → IsEndOf ro cs e → MayBeNext ro cs c)
  checked (Ok x) may = λ cs end. next_of ro cs e end (tip_with t (chain_keys ro cs)) c (tip_is cs end) is (may (chain_keys ro cs) (used_there cs end))
  checked (Err x) may = tt

  pub unchecked : (r : Result ⊤ Refusal) → IfErr r (λ x. (x ≡ NoMemory) ⊎ ((used : List (List ℕ)) → HasJust used t.used.now → RefusedBy (next_order ro (tip_with t used) c) x))
      → IfErr r (λ x. (x ≡ NoMemory) ⊎ ((cs : List Commit) → IsEndOf ro cs e → RefusedBy (next_order ro (tip ro cs c.version.author) c) x))
  unchecked (Ok x) why = tt
  unchecked (Err x) (inl none) = inl none
  unchecked (Err x) (inr why) = inr (λ cs end. subst (λ t. RefusedBy (next_order ro t c) x) (tip_is cs end) (why (chain_keys ro cs) (used_there cs end)))

pub user_read : (users : List UserKey) (u : ℕ) (x : UserKey) → x ≡ get_or users u x → u < length users → x ≡ user_at users u
user_read users u x is within = is ∙ get_or_default users u x (record { key = None; leaf = None }) within

pub user_within : (users : List UserKey) (u : ℕ) → length users ≡ USERS → is_user u ≡ true → u < length users
user_within users u long user = let le : u ≤ 63 = leb-true u 63 user in omega (arith, long)

-- a commit that may come next has as many numbers as the chain's vector
pub vector_long : (ro : Membership) (cs : List Commit) (e : ChainEnd) → IsEndOf ro cs e → (c : Commit) → MayBeNext ro cs c → length e.vector ≡ length c.version.vector
vector_long ro cs e end c next =
    let long = length-chain_vector ro cs end.chain in
    ap length end.vector ∙ long ∙ sym (ap length (next_counts ro cs c next).vector_is ∙ length-bump ro (chain_vector ro cs) c.version.author (map (λ g. g.0) c.version.groups) long)
