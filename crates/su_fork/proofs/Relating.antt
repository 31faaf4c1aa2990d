-- Two legal lists are one a front of the other, or fork; and of byte strings it can be told whether two have one digest.
use Rattle.std.proofs.Common.{◌≡◌, ◌≢◌, ℕ, suc, ◌+◌, ◌-◌, ◌⊎◌, Bool, true, false, List, [], ◌∷◌, ◌++◌, take, slice_get, bytes_eq, Some, refl, sym, ap, ◌∙◌, subst, arith, inl, inr, Decides}
use Rattle.std.specs.List.{Contains, AllByRecursion}
use Rattle.std.proofs.lemmas.Slice.Eq.{bytes_eq-Decides}
use Rattle.std.proofs.lemmas.Option.{slice_get_within, get_or_from_slice_get, slice_get-get_or}
use Rattle.std.proofs.lemmas.List.Elements.{Contains-append_cases, Contains-append_right}
use Rattle.sha2.specs.Sha256.{sha256}
use Rattle.su_bytes.specs.Membership.{Membership}
use Rattle.su_tree.specs.Collision.{Collision}
use Rattle.su_change.specs.Item.{IsChange, HasItem, item_bytes}
use Rattle.su_version.specs.Commit.{IsCommit, commit_bytes}
use Rattle.su_legal.specs.Legal.{Committed, LegalAfter, Legal}
use Rattle.su_legal.proofs.Public.{none_in_empty, only_in}
use Rattle.su_fork.specs.Numbered.{at, Related, Related.behind, Related.ahead, Related.forked}
use Rattle.su_fork.specs.Premises.{NoCollision}
use Rattle.su_fork.proofs.Places.{at_get, get_at}
use Rattle.su_fork.proofs.Spelling.{commit_told, change_told}

-- two things are the same or not
abbrev pub Told : {A : Type 0} → A → A → Type 0
Told x y = (x ≡ y) ⊎ (x ≢ y)

told_by : {A : Type 0} (b : Bool) (x y : A) → Decides b (x ≡ y) → Told x y
told_by true x y d = inl (d.0 refl)
told_by false x y d = inr (λ e. let no : false ≡ true = d.1 e in cc)

pub bytes_tell : (x y : List ℕ) → Told x y
bytes_tell x y = told_by (bytes_eq x y) x y (bytes_eq-Decides x y)

-- ---- one list a front of the other, or a fork

get_further : {A : Type 0} (y x : A) (xs : List A) (k : ℕ) → slice_get xs k ≡ Some x → slice_get (y ∷ xs) (suc k) ≡ Some x
get_further y x xs k e =
    let l = slice_get_within xs k x e in
    slice_get-get_or (y ∷ xs) (suc k) x (omega arith) ∙ ap Some (get_or_from_slice_get xs k x x e)

at_further : {A : Type 0} (y x : A) (xs : List A) (n : ℕ) → at xs n ≡ Some x → at (y ∷ xs) (n + 1) ≡ Some x
at_further y x xs n e =
    let g = at_get xs n x e in
    let next : n + 1 - 1 ≡ suc (n - 1) = omega arith in
    get_at (y ∷ xs) (n + 1) x (omega arith) (ap (slice_get (y ∷ xs)) next ∙ get_further y x xs (n - 1) g.1)

at_first : {A : Type 0} (x : A) (xs : List A) → at (x ∷ xs) 1 ≡ Some x
at_first x xs = get_at (x ∷ xs) 1 x (omega arith) (slice_get-get_or (x ∷ xs) 0 x (omega arith))

module _ {A : Type 0} (P : A → Type 0) (tell : (x y : A) → P x → P y → Told x y) where
  further : (x y : A) (xs ys : List A) → x ≡ y → Related xs ys → Related (x ∷ xs) (y ∷ ys)
  further x y xs ys e (behind f) = behind (record { rest = f.rest; whole = λ i. sym e i ∷ f.whole i })
  further x y xs ys e (ahead f) = ahead (record { rest = f.rest; whole = λ i. e i ∷ f.whole i })
  further x y xs ys e (forked n d) =
      let g = at_get xs n d.there.first d.there.first_is in
      let next : n + 1 - 1 ≡ suc (n - 1) = omega arith in
      forked (n + 1) (record {
        before = ap (λ k. take k (x ∷ xs)) next ∙ (λ i. e i ∷ d.before i) ∙ sym (ap (λ k. take k (y ∷ ys)) next);
        there = record {
          first = d.there.first;
          second = d.there.second;
          first_is = at_further x d.there.first xs n d.there.first_is;
          second_is = at_further y d.there.second ys n d.there.second_is;
          differ = d.there.differ;
        };
      })

  pub related : (xs ys : List A) → AllByRecursion P xs → AllByRecursion P ys → Related xs ys
  related [] ys p q = behind (record { rest = ys; whole = refl })
  related (x ∷ xs) [] p q = ahead (record { rest = x ∷ xs; whole = refl })
  related (x ∷ xs) (y ∷ ys) (px, p) (qy, q) = go (tell x y px qy) (related xs ys p q)
    where
      go : Told x y → Related xs ys → Related (x ∷ xs) (y ∷ ys)
      go (inl e) r = further x y xs ys e r
      go (inr n) r = forked 1 (record { before = refl; there = record { first = x; second = y; first_is = at_first x xs; second_is = at_first y ys; differ = n } })

-- ---- commits are told apart by their bytes

pub record Spelled (c : Committed) : Type 0 where
  pub commit : IsCommit c.commit
  pub change : IsChange c.change × HasItem c.change

committed_tell : (c d : Committed) → Spelled c → Spelled d → Told c d
committed_tell c d p q = go (bytes_tell (commit_bytes c.commit) (commit_bytes d.commit)) (bytes_tell (item_bytes c.change) (item_bytes d.change))
  where
    go : Told (commit_bytes c.commit) (commit_bytes d.commit) → Told (item_bytes c.change) (item_bytes d.change) → Told c d
    go (inl e) (inl f) = let a = commit_told c.commit d.commit p.commit q.commit e in let b = change_told c.change d.change p.change q.change f in inl (λ i. record { commit = a i; change = b i })
    go (inr n) f = inr (λ e. n (ap (λ (x : Committed). commit_bytes x.commit) e))
    go (inl e) (inr n) = inr (λ f. n (ap (λ (x : Committed). item_bytes x.change) f))

all_spelled : (ro : Membership) (before cs : List Committed) → LegalAfter ro before cs → AllByRecursion Spelled cs
all_spelled ro before [] l = tt
all_spelled ro before (c ∷ cs) (f, l) = (record { commit = f.next.spelled; change = (f.fits.is_change, f.fits.has_item) }, all_spelled ro (before ++ c ∷ []) cs l)

pub legal_related : (ro : Membership) (xs ys : List Committed) → Legal ro xs → Legal ro ys → Related xs ys
legal_related ro xs ys l m = related Spelled committed_tell xs ys (all_spelled ro [] xs l) (all_spelled ro [] ys m)

-- ---- no collision, or one

-- x has the digest of none of these but itself
Alone : List ℕ → List (List ℕ) → Type 0
Alone x ys = (y : List ℕ) → Contains ys y → sha256 x ≡ sha256 y → x ≡ y

record Twin (x : List ℕ) (ys : List (List ℕ)) : Type 0 where
  pub twin : List ℕ
  pub there : Contains ys twin
  pub differ : x ≢ twin
  pub same : sha256 x ≡ sha256 twin

alone_or_twin : (x : List ℕ) (ys : List (List ℕ)) → Alone x ys ⊎ Twin x ys
unfolding Alone
alone_or_twin x [] = inl (λ y c e. absurd (none_in_empty y c))
alone_or_twin x (y ∷ ys) = go (alone_or_twin x ys) (bytes_tell x y) (bytes_tell (sha256 x) (sha256 y))
  where
    go : Alone x ys ⊎ Twin x ys → Told x y → Told (sha256 x) (sha256 y) → Alone x (y ∷ ys) ⊎ Twin x (y ∷ ys)
    go (inr t) a b = inr (record { twin = t.twin; there = Contains-append_right (y ∷ []) ys t.twin t.there; differ = t.differ; same = t.same })
    go (inl f) (inr n) (inl e) = inr (record { twin = y; there = (0, omega arith, refl); differ = n; same = e })
    go (inl f) (inl e) b = inl (λ z c h. here z h (Contains-append_cases (y ∷ []) ys z c))
      where
        here : (z : List ℕ) → sha256 x ≡ sha256 z → Contains (y ∷ []) z ⊎ Contains ys z → x ≡ z
        here z h (inl c) = e ∙ only_in y z c
        here z h (inr c) = f z c h
    go (inl f) (inr n) (inr m) = inl (λ z c h. here z h (Contains-append_cases (y ∷ []) ys z c))
      where
        here : (z : List ℕ) → sha256 x ≡ sha256 z → Contains (y ∷ []) z ⊎ Contains ys z → x ≡ z
        here z h (inl c) = absurd (m (h ∙ ap sha256 (sym (only_in y z c))))
        here z h (inr c) = f z c h

AllAlone : List (List ℕ) → List (List ℕ) → Type 0
AllAlone xs ys = (x : List ℕ) → Contains xs x → Alone x ys

each_alone : (xs ys : List (List ℕ)) → AllAlone xs ys ⊎ Collision xs ys
unfolding AllAlone
each_alone [] ys = inl (λ x c. absurd (none_in_empty x c))
each_alone (x ∷ xs) ys = go (alone_or_twin x ys) (each_alone xs ys)
  where
    go : Alone x ys ⊎ Twin x ys → AllAlone xs ys ⊎ Collision xs ys → AllAlone (x ∷ xs) ys ⊎ Collision (x ∷ xs) ys
    go (inr t) r = inr (record { first = x; second = t.twin; of_ours = (0, omega arith, refl); of_theirs = t.there; differ = t.differ; same = t.same })
    go (inl a) (inr r) = inr (record { first = r.first; second = r.second; of_ours = Contains-append_right (x ∷ []) xs r.first r.of_ours; of_theirs = r.of_theirs; differ = r.differ; same = r.same })
    go (inl a) (inl r) = inl (λ y c. here y (Contains-append_cases (x ∷ []) xs y c))
      where
        here : (y : List ℕ) → Contains (x ∷ []) y ⊎ Contains xs y → Alone y ys
        here y (inl c) = subst (λ z. Alone z ys) (only_in x y c) a
        here y (inr c) = r y c

pub none_or_collision : (strings : List (List ℕ)) → NoCollision strings ⊎ Collision strings strings
unfolding AllAlone Alone
none_or_collision strings = go (each_alone strings strings)
  where
    go : AllAlone strings strings ⊎ Collision strings strings → NoCollision strings ⊎ Collision strings strings
    go (inl a) = inl (record { same = λ x y i j e. a x i y j e })
    go (inr c) = inr c
