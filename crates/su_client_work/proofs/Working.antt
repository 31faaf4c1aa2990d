-- A client that does acts: none, and some after others; it takes, signs and publishes.
use Rattle.std.proofs.Common.{◌≡◌, ◌+◌, ℕ, List, [], ◌∷◌, ◌++◌, inl, inr, length, map, append-nil, append_assoc, length-append, refl, sym, ◌∙◌, ap, subst, arith, Result, Ok, Err}
use Rattle.std.specs.Prelude.{IfOk, OnErr, OnOk}
use Rattle.std.proofs.lemmas.List.{map-append}
use Rattle.su_op.specs.declared.operations.Change.{Change}
use Rattle.su_legal.specs.Act.{Act, Act.Takes, Act.Signs}
use Rattle.su_version.specs.Version.{Version}
use Rattle.su_version.specs.Commit.{Commit}
use Rattle.su_view.specs.Acting.{Does, after}
use Rattle.su_view.specs.Holding.{HoldingState, MaySign, Took, with_more}
use Rattle.su_view.specs.Drafting.{IsOfChange}
use Rattle.su_view.specs.Making.{IsMade}
use Rattle.su_view.specs.declared.refusals.ViewRefusal.{ViewRefusal}
use Rattle.su_client_work.specs.Member.{Grew, NextLeaf, MemberState, IsClear, OnlyAsks, OnlyTakes, ReplacesKey, Stays, leaf_behind}
use Rattle.su_client_work.specs.Publishing.{CommitsAtMost, SignsNone, SignsOne, SignsAtMost, TakesOwn}
use Rattle.su_client_work.specs.Work.{Goes, LeavesUsed, Works, signed_in}
use Rattle.su_client_work.proofs.Asked.{asks_stays, clear_same}
use Rattle.su_client_work.proofs.Taking.{grew_none, grew_then, took_these}

does_both : (u v w : HoldingState) (xs ys : List Act) → Does u xs v → Does v ys w → Does u (xs ++ ys) w
does_both u v w [] ys same done = subst (λ (x : HoldingState). Does x ys w) same done
does_both u v w (x ∷ xs) ys (may, rest) done = (may, does_both (after u x) v w xs ys rest done)

goes_both : (u v w : HoldingState) (xs ys : List Act) → Goes u xs v → Goes v ys w → Goes u (xs ++ ys) w
goes_both u v w [] ys same done = subst (λ (x : HoldingState). Goes x ys w) same done
goes_both u v w (x ∷ xs) ys (may, rest) done = (may, goes_both (after u x) v w xs ys rest done)

-- by any acts the list only grows
goes_grew : (v w : HoldingState) (acts : List Act) → Goes v acts w → Grew v w
goes_grew v w [] same = grew_none v w same
goes_grew v w (Takes more ∷ acts) (may, rest) = grew_then v (with_more v more) w (more, refl) (goes_grew (with_more v more) w acts rest)
goes_grew v w (Signs s ∷ acts) (may, rest) = goes_grew v w acts rest

signed_both : (xs ys : List Act) → signed_in (xs ++ ys) ≡ signed_in xs ++ signed_in ys
signed_both [] ys = refl
signed_both (Takes more ∷ xs) ys = signed_both xs ys
signed_both (Signs s ∷ xs) ys = ap (λ (vs : List Version). s ∷ vs) (signed_both xs ys)

-- ---- leaves

used_none : (q r : NextLeaf) → r ≡ q → LeavesUsed q 0 r
used_none q r same = subst (LeavesUsed q 0) (sym same) (record { keys = omega arith; leaves = λ one. omega arith })

used_one : (q r : NextLeaf) → r ≡ leaf_behind q → LeavesUsed q 1 r
used_one q r next = subst (LeavesUsed q 1) (sym next) (record { keys = omega arith; leaves = λ one. omega arith })

used_then : (p q r : NextLeaf) (m n : ℕ) → LeavesUsed p m q → LeavesUsed q n r → LeavesUsed p (m + n) r
used_then p q r m n first second =
    let low = first.keys in
    let high = second.keys in
    record {
      keys = omega (arith, low, high);
      leaves = λ same.
          let one = first.leaves (omega (arith, low, high, same)) in
          let two = second.leaves (omega (arith, low, high, same)) in
          omega (arith, one, two);
    }

used_other : (q r : NextLeaf) (leaf : ℕ) → r ≡ record { keys = q.keys + 1; leaf = leaf } → LeavesUsed q 0 r
used_other q r leaf is = subst (LeavesUsed q 0) (sym is) (record { keys = omega arith; leaves = λ one. absurd (omega (arith, one)) })

-- another key came before
pub one_key_more : (keys : List (List ℕ)) (key : List ℕ) (more : List (List ℕ)) → more ≡ keys ++ key ∷ [] → (n : ℕ) → length keys ≡ n → length more ≡ n + 1
one_key_more keys key more is n count = ap length is ∙ length-append keys (key ∷ []) ∙ ap (λ m. m + 1) count

-- ---- acts

-- nothing was signed or taken
pub works_not : (s t : MemberState) → t.holding ≡ s.holding → (IsClear t → IsClear s) → t.signed ≡ s.signed → t.next ≡ s.next → Works s t
works_not s t same back signed next = record {
  acts = [];
  commits = [];
  goes = same;
  does = λ clear. same;
  clear = back;
  signed = signed ∙ sym (append-nil s.signed);
  signs = refl;
  leaves = used_none s.next t.next next;
}

pub works_asks : (s t : MemberState) → OnlyAsks s t → Works s t
works_asks s t asks = works_not s t asks.holding asks.clear asks.signed asks.next

pub works_still : (s t : MemberState) → Stays s t → Works s t
works_still s t stays = works_asks s t (asks_stays s t stays)

pub works_same : (s t : MemberState) → t ≡ s → Works s t
works_same s t same =
    works_not s t (ap (λ (x : MemberState). x.holding) same) (λ clear. subst IsClear same clear) (ap (λ (x : MemberState). x.signed) same) (ap (λ (x : MemberState). x.next) same)

-- its list only grows
pub works_grew : (s t : MemberState) → Works s t → Grew s.holding t.holding
works_grew s t works = goes_grew s.holding t.holding works.acts works.goes

pub works_then : (s t u : MemberState) → Works s t → Works t u → Works s u
works_then s t u first second = record {
  acts = first.acts ++ second.acts;
  commits = first.commits ++ second.commits;
  goes = goes_both s.holding t.holding u.holding first.acts second.acts first.goes second.goes;
  does = λ clear. does_both s.holding t.holding u.holding first.acts second.acts (first.does (second.clear clear)) (second.does clear);
  clear = λ clear. first.clear (second.clear clear);
  signed = second.signed ∙ ap (λ (l : List Commit). l ++ second.commits) first.signed ∙ append_assoc s.signed first.commits second.commits;
  signs = signed_both first.acts second.acts ∙ ap (λ (l : List Version). l ++ signed_in second.acts) first.signs
      ∙ ap (λ (l : List Version). map (λ c. c.version) first.commits ++ l) second.signs ∙ sym (map-append (λ (c : Commit). c.version) first.commits second.commits);
  leaves = subst (λ n. LeavesUsed s.next n u.next) (sym (length-append first.commits second.commits))
      (used_then s.next t.next u.next (length first.commits) (length second.commits) first.leaves second.leaves);
}

pub works_takes : (s t : MemberState) → OnlyTakes s t → Works s t
works_takes s t o = record {
  acts = Takes o.grew.0 ∷ [];
  commits = [];
  goes = (tt, o.grew.1);
  does = λ clear. ((took_these s.holding t.holding o.grew.0 o.grew.1 (o.takes clear)).may, o.grew.1);
  clear = o.clear;
  signed = o.signed ∙ sym (append-nil s.signed);
  signs = refl;
  leaves = used_none s.next t.next o.next;
}

-- what is signed may be
pub may_sign : (v : HoldingState) (change : Change) (c : Commit) (s t : MemberState) → SignsOne v change c s t → MaySign v c.version
may_sign v change c s t one = (one.of_change.author, one.of_change.prev)

pub works_signs : (s t : MemberState) (change : Change) (c : Commit) → SignsOne s.holding change c s t → t.holding ≡ s.holding → Works s t
works_signs s t change c one same = record {
  acts = Signs c.version ∷ [];
  commits = c ∷ [];
  goes = (may_sign s.holding change c s t one, same);
  does = λ clear. (may_sign s.holding change c s t one, same);
  clear = one.clear;
  signed = one.signed;
  signs = refl;
  leaves = used_one s.next t.next one.next;
}

pub works_most : (s t : MemberState) (change : Change) → (IsClear t → IsClear s) → SignsAtMost s.holding change s t → t.holding ≡ s.holding → Works s t
works_most s t change back (inl none) same = works_not s t same back none.signed none.next
works_most s t change back (inr (c, one)) same = works_signs s t change c one same

-- another key was put in the place of the client's own
pub works_replaced : (s t : MemberState) (leaf : ℕ) → ReplacesKey s leaf t → Works s t
works_replaced s t leaf replaces = record {
  acts = [];
  commits = [];
  goes = replaces.holding;
  does = λ clear. replaces.holding;
  clear = clear_same s t replaces.holding replaces.asked;
  signed = replaces.signed ∙ sym (append-nil s.signed);
  signs = refl;
  leaves = used_other s.next t.next leaf replaces.next;
}

-- what was made is taken, or not
works_own : (m t : MemberState) (c : Commit) (r : Result ℕ ViewRefusal) → SignsNone m t → (IsClear t → IsClear m) → IfOk r (TakesOwn m c t) → OnErr r (t.holding ≡ m.holding) → Works m t
works_own m t c (Ok n) none back took err = record {
  acts = Takes (took.committed ∷ []) ∷ [];
  commits = [];
  goes = (tt, took.becomes);
  does = λ clear. ((took.took clear).may, took.becomes);
  clear = back;
  signed = none.signed ∙ sym (append-nil m.signed);
  signs = refl;
  leaves = used_none m.next t.next none.next;
}
works_own m t c (Err e) none back took err = works_not m t err back none.signed none.next

pub works_published : (s m t : MemberState) (change : Change) (c : Commit) (r : Result ℕ ViewRefusal) → (IsClear m → IsClear s) → SignsAtMost s.holding change s m → m.holding ≡ s.holding
    → SignsNone m t → (IsClear t → IsClear m) → IfOk r (TakesOwn m c t) → OnErr r (t.holding ≡ m.holding) → Works s t
works_published s m t change c r first signs same none back took err =
    works_then s m t (works_most s m change first signs same) (works_own m t c r none back took err)

-- after acts all stays
pub works_stays : (s t u : MemberState) → Works s t → u ≡ t → Works s u
works_stays s t u first same = works_then s t u first (works_same t u same)

-- ---- what is signed

-- behind it nothing more was signed
pub one_on : (v : HoldingState) (change : Change) (c : Commit) (s m t : MemberState) → SignsOne v change c s m → SignsNone m t → (IsClear t → IsClear m) → SignsOne v change c s t
one_on v change c s m t one none back = record {
  of_change = one.of_change;
  made = λ clear. one.made (back clear);
  clear = λ clear. one.clear (back clear);
  signed = none.signed ∙ one.signed;
  next = none.next ∙ one.next;
}

pub most_on : (v : HoldingState) (change : Change) (s m t : MemberState) → SignsAtMost v change s m → SignsNone m t → (IsClear t → IsClear m) → SignsAtMost v change s t
most_on v change s m t (inl p) none back = inl (record { signed = none.signed ∙ p.signed; next = none.next ∙ p.next })
most_on v change s m t (inr (c, one)) none back = inr (c, one_on v change c s m t one none back)

-- before it nothing was signed
pub one_after : (v : HoldingState) (change : Change) (c : Commit) (s m t : MemberState) → (IsClear m → IsClear s) → m.signed ≡ s.signed → m.next ≡ s.next → SignsOne v change c m t
    → SignsOne v change c s t
one_after v change c s m t back signed next one = record {
  of_change = subst (λ (q : NextLeaf). IsOfChange v change q.leaf c) next one.of_change;
  made = λ clear. subst (λ (q : NextLeaf). IsMade v change q.leaf c) next (one.made clear);
  clear = λ clear. back (one.clear clear);
  signed = one.signed ∙ ap (λ (l : List Commit). l ++ c ∷ []) signed;
  next = one.next ∙ ap leaf_behind next;
}

pub most_after : (v : HoldingState) (change : Change) (s m t : MemberState) → OnlyTakes s m → SignsAtMost v change m t → SignsAtMost v change s t
most_after v change s m t only (inl p) = inl (record { signed = p.signed ∙ only.signed; next = p.next ∙ only.next })
most_after v change s m t only (inr (c, one)) = inr (c, one_after v change c s m t only.clear only.signed only.next one)

same_on_err : {R E : Type 0} (r : Result R E) (v : HoldingState) → OnErr r (v ≡ v)
same_on_err (Ok x) v = tt
same_on_err (Err e) v = refl

-- some commits were taken, and nothing was signed
pub commits_none : (change_of : HoldingState → Change) (s : MemberState) (answer : Result ℕ ViewRefusal) (t : MemberState) → OnlyTakes s t → CommitsAtMost change_of s answer t
commits_none change_of s answer t only = record {
  held = t.holding;
  grew = only.grew;
  takes = only.takes;
  clear = only.clear;
  signs = inl (record { signed = only.signed; next = only.next });
  refused = same_on_err answer t.holding;
}

-- some commits were taken, and then what was signed
pub commits_then : (change_of : HoldingState → Change) (s m : MemberState) (answer : Result ℕ ViewRefusal) (t : MemberState) → OnlyTakes s m → (IsClear t → IsClear m)
    → SignsAtMost m.holding (change_of m.holding) m t → OnErr answer (t.holding ≡ m.holding) → CommitsAtMost change_of s answer t
commits_then change_of s m answer t only back signs same = record {
  held = m.holding;
  grew = only.grew;
  takes = λ clear. only.takes (back clear);
  clear = λ clear. only.clear (back clear);
  signs = most_after m.holding (change_of m.holding) s m t only signs;
  refused = same;
}
