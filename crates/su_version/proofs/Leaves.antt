-- The leaves of each key rise along a chain, so the last one tells them all.
use Rattle.std.proofs.Common.{◌≡◌, ℕ, ◌<◌, Bool, true, false, cond, List, [], ◌∷◌, ◌++◌, nat_eq, refl, sym, ap, subst, ◌∙◌, arith, append_assoc, append-nil, eq-eqb}
use Rattle.std.specs.Prelude.{Option, Some, None}
use Rattle.std.proofs.lemmas.Bool.{eqb-true}
use Rattle.su_bytes.specs.Keys.{is_among}
use Rattle.su_bytes.specs.Membership.{Membership}
use Rattle.su_lms.specs.Signature.{leaf_of}
use Rattle.su_version.specs.Commit.{Commit}
use Rattle.su_version.specs.Chain.{key_after, leaf_after, later_leaf, chain_key, chain_keys, last_leaf, tip, IsSignedBy, IsNewLeaf, IsNewKey, MayBeNext, ChainAfter, IsChain, SignedBefore}
use Rattle.su_version.proofs.Keys.{key_further, key_was_had, still_had}

later_leaf-append : (u : ℕ) (q : Option ℕ) (cs : List Commit) (c : Commit)
    → later_leaf u q (cs ++ c ∷ []) ≡ cond (nat_eq c.version.author u) (leaf_after c.version.next_key (leaf_of c.signature)) (later_leaf u q cs)
later_leaf-append u q [] c = refl
later_leaf-append u q (x ∷ cs) c = later_leaf-append u (cond (nat_eq x.version.author u) (leaf_after x.version.next_key (leaf_of x.signature)) q) cs c

-- the last leaf of a user, with one commit more
pub leaf_further : (u : ℕ) (cs : List Commit) (c : Commit)
    → last_leaf u (cs ++ c ∷ []) ≡ cond (nat_eq c.version.author u) (leaf_after c.version.next_key (leaf_of c.signature)) (last_leaf u cs)
unfolding last_leaf
leaf_further u cs c = later_leaf-append u None cs c

module _ (ro : Membership) (a : ℕ) where
  -- commit d behind these is by user a under that key only with a leaf below q
  abbrev Lower : Option (List ℕ) → ℕ → List Commit → Commit → Type 0
  Lower key q before d = d.version.author ≡ a → chain_key ro a before ≡ key → leaf_of d.signature < q

  -- so is each of these, behind those before it
  abbrev LowerAfter : Option (List ℕ) → ℕ → List Commit → List Commit → Type 0
  LowerAfter key q before [] = Unit {0}
  LowerAfter key q before (c ∷ cs) = Lower key q before c × LowerAfter key q (before ++ c ∷ []) cs

  push : (key : Option (List ℕ)) (q : ℕ) (before cs : List Commit) (c : Commit) → LowerAfter key q before cs → Lower key q (before ++ cs) c → LowerAfter key q before (cs ++ c ∷ [])
  push key q before [] c all here = (subst (λ l. Lower key q l c) (append-nil before) here, tt)
  push key q before (d ∷ cs) c (first, all) here =
      (first, push key q (before ++ d ∷ []) cs c all (subst (λ l. Lower key q l c) (sym (append_assoc before (d ∷ []) cs)) here))

  rising : (key : Option (List ℕ)) (p q : ℕ) → p < q → (before cs : List Commit) → LowerAfter key p before cs → LowerAfter key q before cs
  rising key p q less before [] all = tt
  rising key p q less before (d ∷ cs) (here, all) =
      ((λ by is. let low = here by is in omega arith), rising key p q less (before ++ d ∷ []) cs all)

  -- a key that no user had signed none of them
  unsigned : (key : List ℕ) (q : ℕ) (before cs : List Commit) → is_among (chain_keys ro (before ++ cs)) key ≡ false → LowerAfter (Some key) q before cs
  unsigned key q before [] new = tt
  unsigned key q before (d ∷ cs) new = (
    λ by is.
        let had : is_among (chain_keys ro (before ++ d ∷ cs)) key ≡ true = still_had ro before (d ∷ cs) key (key_was_had ro a before key is) in
        let no : false ≡ true = sym new ∙ had in absurd (cc),
    unsigned key q (before ++ d ∷ []) cs (ap (λ l. is_among (chain_keys ro l) key) (append_assoc before (d ∷ []) cs) ∙ new),
  )

  -- a leaf above the last one under the present key is above all under that key
  abbrev Bounds : List Commit → Type 0
  Bounds cs = (q : ℕ) → IsNewLeaf (last_leaf a cs) q → LowerAfter (chain_key ro a cs) q [] cs

  own_leaf : (before : List Commit) (c : Commit) → MayBeNext ro before c → c.version.author ≡ a → IsNewLeaf (last_leaf a before) (leaf_of c.signature)
  unfolding tip
  own_leaf before c next by = subst (λ b. IsNewLeaf (last_leaf b before) (leaf_of c.signature)) by next.follows.1.1.1.1.0

  new_key : (before : List Commit) (c : Commit) → MayBeNext ro before c → IsNewKey (chain_keys ro before) c.version.next_key
  unfolding tip
  new_key before c next = next.follows.1.1.1.1.1.0

  own_key : (before : List Commit) (c : Commit) → MayBeNext ro before c → c.version.author ≡ a → IsSignedBy (chain_key ro a before) c
  unfolding tip
  own_key before c next by = subst (λ b. IsSignedBy (chain_key ro b before) c) by next.follows.0

  -- the author signs again under the same key, or names the next one
  signs_more : (before : List Commit) (c : Commit) → Bounds before → (key next : Option (List ℕ)) → chain_key ro a before ≡ key → IsSignedBy key c → IsNewKey (chain_keys ro before) next
      → IsNewLeaf (last_leaf a before) (leaf_of c.signature)
      → (q : ℕ) → IsNewLeaf (leaf_after next (leaf_of c.signature)) q → LowerAfter (key_after key next) q [] (before ++ c ∷ [])
  signs_more before c bounds None next is signed new leaf q above = absurd signed
  signs_more before c bounds (Some key) None is signed new leaf q above =
      push (Some key) q [] before c
      (rising (Some key) (leaf_of c.signature) q above [] before (subst (λ k. LowerAfter k (leaf_of c.signature) [] before) is (bounds (leaf_of c.signature) leaf)))
      (λ by same. above)
  signs_more before c bounds (Some key) (Some next) is signed new leaf q above =
      push (Some next) q [] before c (unsigned next q [] before new)
      (λ by same. let no : false ≡ true = sym new ∙ key_was_had ro a before next same in absurd (cc))

  bounds_more : (before : List Commit) (c : Commit) → MayBeNext ro before c → Bounds before
      → (b : Bool) → nat_eq c.version.author a ≡ b
      → (q : ℕ) → IsNewLeaf (cond b (leaf_after c.version.next_key (leaf_of c.signature)) (last_leaf a before)) q
      → LowerAfter (cond b (key_after (chain_key ro a before) c.version.next_key) (chain_key ro a before)) q [] (before ++ c ∷ [])
  bounds_more before c next bounds true is q above =
      let by = eqb-true c.version.author a is in
      signs_more before c bounds (chain_key ro a before) c.version.next_key refl (own_key before c next by) (new_key before c next) (own_leaf before c next by) q above
  bounds_more before c next bounds false other q above =
      push (chain_key ro a before) q [] before c (bounds q above) (λ by same. let no : false ≡ true = sym other ∙ eq-eqb c.version.author a by in absurd (cc))

  bounds_further : (before : List Commit) (c : Commit) → MayBeNext ro before c → Bounds before → Bounds (before ++ c ∷ [])
  bounds_further before c next bounds q above =
      subst (λ k. LowerAfter k q [] (before ++ c ∷ [])) (sym (key_further ro a before c))
      (bounds_more before c next bounds (nat_eq c.version.author a) refl q (subst (λ o. IsNewLeaf o q) (leaf_further a before c) above))

  bounds_all : (before cs : List Commit) → ChainAfter ro before cs → Bounds before → Bounds (before ++ cs)
  bounds_all before [] chain bounds = subst Bounds (sym (append-nil before)) bounds
  bounds_all before (c ∷ cs) (next, chain) bounds =
      subst Bounds (append_assoc before (c ∷ []) cs) (bounds_all (before ++ c ∷ []) cs chain (bounds_further before c next bounds))

  nothing_before : Bounds []
  nothing_before q above = tt

  -- the commit at a place of them
  lower_at : (key : Option (List ℕ)) (q : ℕ) (front before behind : List Commit) (d : Commit) → LowerAfter key q front (before ++ d ∷ behind) → Lower key q (front ++ before) d
  lower_at key q front [] behind d all = subst (λ l. Lower key q l d) (sym (append-nil front)) all.0
  lower_at key q front (x ∷ before) behind d all =
      subst (λ l. Lower key q l d) (append_assoc front (x ∷ []) before) (lower_at key q (front ++ x ∷ []) before behind d all.1)

-- in a chain, a leaf above the last one under the author's present key is above each under that key
pub above_all : (ro : Membership) (a q : ℕ) (cs : List Commit) (d : Commit) → IsChain ro cs → IsNewLeaf (last_leaf a cs) q → SignedBefore ro cs a d → leaf_of d.signature < q
above_all ro a q cs d chain above s =
    let all : LowerAfter ro a (chain_key ro a cs) q [] cs = bounds_all ro a [] cs chain (nothing_before ro a) q above in
    let there = subst (λ l. LowerAfter ro a (chain_key ro a cs) q [] l) s.place all in
    lower_at ro a (chain_key ro a cs) q [] s.before s.behind d there s.by s.key

-- of what may come next, too
pub next_leaf : (ro : Membership) (cs : List Commit) (c d : Commit) → IsChain ro cs → MayBeNext ro cs c → SignedBefore ro cs c.version.author d → leaf_of d.signature < leaf_of c.signature
next_leaf ro cs c d chain next s = above_all ro c.version.author (leaf_of c.signature) cs d chain (own_leaf ro c.version.author cs c next refl) s
