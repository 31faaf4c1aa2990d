-- An index of who reads which cells.
use Rattle.std.proofs.Common.{◌≡◌, ℕ, ◌<◌, ◌≤◌, Bool, true, false, not, cond, ◌&&◌, ◌||◌, ◌⊎◌, nat_eq, nat_lt, List, [], ◌∷◌, ◌++◌, refl, sym, ◌∙◌, ap, inl, inr, append_assoc, append-nil, arith}
use Rattle.std.proofs.lemmas.Bool.{eqb-true, le-ltb, lt-ltb}
use Rattle.std.proofs.lemmas.List.Folds.{list_any-append}
use Rattle.std.specs.Ordering.{is_eq, is_lt, is_gt, nat_cmp}
use Rattle.std.specs.BTreeSet.{BTreeSet, contains}
use Rattle.su_op.specs.declared.footprints.Footprint.{Footprint}
use Rattle.su_kept_areas.specs.Marks.{has_mark, read_marks}
use Rattle.su_live.specs.declared.readers.Reader.{Reader}
use Rattle.su_live.specs.Readers.{reader_cmp, has_reader, reads_by, Enters, EntersAbove, HasSame, IsEnteredBy, IsMissing, Leaves, LeavesBut, PutsAbove}
use Rattle.su_live.proofs.Tests.{not_so, came_goes_above, put_beside, stays_put, or_false, mark_stays, mark_goes, stays_but, gone_but, goes, comes, gone_again, stays, stays_or, has_mark-more, same_number, not_above, not_below, at_most, same_pair}

-- ---- the order of readers

abbrev pub at : ℕ → ℕ → Reader
at m n = record { mark = m; number = n }

pub same_reader : (m k q n : ℕ) → is_eq (reader_cmp (at m k) (at q n)) ≡ (nat_eq q m && nat_eq n k)
same_reader m k q n = same_pair q m n k (nat_cmp m q) (nat_cmp k n) (same_number m q) (same_number k n)

pub up_to : (m n q : ℕ) → q ≤ n → is_gt (reader_cmp (at m q) (at m n)) ≡ false
up_to m n q le = at_most m m q n (nat_cmp m m) (nat_cmp q n) refl refl refl le

-- what no reader of a mark is above
pub none_later : (s : BTreeSet Reader) (m n : ℕ) (last : Reader) → ((r : Reader) → is_gt (reader_cmp r (at m n)) ≡ false → contains reader_cmp s r ≡ true → is_lt (reader_cmp last r) ≡ false)
    → last.mark ≡ m → (q : ℕ) → last.number < q → q ≤ n → has_reader s m q ≡ false
none_later s m n last greatest same q above within =
    not_so (has_reader s m q) (λ has.
    let cases : (m < last.mark) ⊎ ((last.mark ≡ m) × (q ≤ last.number)) =
    not_below last.mark m last.number q (nat_cmp last.mark m) (nat_cmp last.number q) refl refl (greatest (at m q) (up_to m n q within) has) in
    elim cases [ inl lt ↦ omega arith | inr e ↦ omega arith ])

-- what is none of a mark
pub none_of_mark : (s : BTreeSet Reader) (m n : ℕ) (last : Reader) → ((r : Reader) → is_gt (reader_cmp r (at m n)) ≡ false → contains reader_cmp s r ≡ true → is_lt (reader_cmp last r) ≡ false)
    → is_gt (reader_cmp last (at m n)) ≡ false → (last.mark ≡ m → ⊥) → (q : ℕ) → q ≤ n → has_reader s m q ≡ false
none_of_mark s m n last greatest below other q within =
    not_so (has_reader s m q) (λ has.
    let cases : (m < last.mark) ⊎ ((last.mark ≡ m) × (q ≤ last.number)) =
    not_below last.mark m last.number q (nat_cmp last.mark m) (nat_cmp last.number q) refl refl (greatest (at m q) (up_to m n q within) has) in
    let bounds : (last.mark < m) ⊎ ((last.mark ≡ m) × (last.number ≤ n)) =
    not_above last.mark m last.number n (nat_cmp last.mark m) (nat_cmp last.number n) refl refl below in
    elim cases [
      | inl lt ↦ elim bounds [ inl less ↦ omega arith | inr e ↦ other e.0 ]
      | inr e ↦ other e.0
    ])

-- ---- marks that go

-- of operation k, of whose marks the rest is left, the others went from s, which made t of it
pub record WentFrom (k : ℕ) (all : List ℕ) (s t : BTreeSet Reader) (rest : List ℕ) : Type 0 where
  pub done : List ℕ
  pub whole : all ≡ done ++ rest
  pub went : (m n : ℕ) → has_reader t m n ≡ (has_reader s m n && not (nat_eq n k && has_mark done m))

pub none_went : (k : ℕ) (all : List ℕ) (s : BTreeSet Reader) → WentFrom k all s s all
none_went k all s = record { done = []; whole = refl; went = λ m n. stays (has_reader s m n) (nat_eq n k) }

-- t with the reader at m and k (`in`) or without it is u
pub record Puts (t u : BTreeSet Reader) (m k : ℕ) (put : Bool) : Type 0 where
  pub puts : (q n : ℕ) → has_reader u q n ≡ cond (nat_eq q m && nat_eq n k) put (has_reader t q n)

pub puts_by : (t u : BTreeSet Reader) (m k : ℕ) (put : Bool) → ((r : Reader) → contains reader_cmp u r ≡ cond (is_eq (reader_cmp (at m k) r)) put (contains reader_cmp t r)) → Puts t u m k put
puts_by t u m k put updates = record {
  puts = λ q n. updates (at q n) ∙ ap (λ b. cond b put (has_reader t q n)) (same_reader m k q n);
}

one_more : (all done : List ℕ) (m : ℕ) (rest : List ℕ) → all ≡ done ++ m ∷ rest → all ≡ (done ++ m ∷ []) ++ rest
one_more all done m rest e = e ∙ sym (append_assoc done (m ∷ []) rest)

pub one_went : (k : ℕ) (all : List ℕ) (s t u : BTreeSet Reader) (left : List ℕ) (m : ℕ) (rest : List ℕ) → WentFrom k all s t left → left ≡ m ∷ rest → Puts t u m k false → WentFrom k all s u rest
one_went k all s t u left m rest w e p = record {
  done = w.done ++ m ∷ [];
  whole = one_more all w.done m rest (w.whole ∙ ap (λ ms. w.done ++ ms) e);
  went = λ q n.
      p.puts q n ∙ ap (λ b. cond (nat_eq q m && nat_eq n k) false b) (w.went q n)
      ∙ goes (has_reader s q n) (nat_eq n k) (has_mark w.done q) (nat_eq q m)
      ∙ ap (λ b. has_reader s q n && not (nat_eq n k && b)) (sym (has_mark-more w.done m q));
}

pub all_went : (k : ℕ) (f : Footprint) (s t : BTreeSet Reader) (left : List ℕ) → WentFrom k (read_marks f.reads.items) s t left → left ≡ [] → Leaves k f s t
all_went k f s t left w e m n =
    let all : w.done ≡ read_marks f.reads.items = sym (w.whole ∙ ap (λ ms. w.done ++ ms) e ∙ append-nil w.done) in
    w.went m n ∙ ap (λ ms. has_reader s m n && not (nat_eq n k && has_mark ms m)) all

-- ---- marks that come

pub record CameTo (k : ℕ) (all : List ℕ) (s t : BTreeSet Reader) (rest : List ℕ) : Type 0 where
  pub done : List ℕ
  pub whole : all ≡ done ++ rest
  pub came : (m n : ℕ) → has_reader t m n ≡ (has_reader s m n || (nat_eq n k && has_mark done m))

pub none_came : (k : ℕ) (all : List ℕ) (s : BTreeSet Reader) → CameTo k all s s all
none_came k all s = record { done = []; whole = refl; came = λ m n. stays_or (has_reader s m n) (nat_eq n k) }

pub one_came : (k : ℕ) (all : List ℕ) (s t u : BTreeSet Reader) (left : List ℕ) (m : ℕ) (rest : List ℕ) → CameTo k all s t left → left ≡ m ∷ rest → Puts t u m k true → CameTo k all s u rest
one_came k all s t u left m rest w e p = record {
  done = w.done ++ m ∷ [];
  whole = one_more all w.done m rest (w.whole ∙ ap (λ ms. w.done ++ ms) e);
  came = λ q n.
      p.puts q n ∙ ap (λ b. cond (nat_eq q m && nat_eq n k) true b) (w.came q n)
      ∙ comes (has_reader s q n) (nat_eq n k) (has_mark w.done q) (nat_eq q m)
      ∙ ap (λ b. has_reader s q n || (nat_eq n k && b)) (sym (has_mark-more w.done m q));
}

pub all_came : (k : ℕ) (f : Footprint) (s t : BTreeSet Reader) (left : List ℕ) → CameTo k (read_marks f.reads.items) s t left → left ≡ [] → Enters k f s t
all_came k f s t left w e m n =
    let all : w.done ≡ read_marks f.reads.items = sym (w.whole ∙ ap (λ ms. w.done ++ ms) e ∙ append-nil w.done) in
    w.came m n ∙ ap (λ ms. has_reader s m n || (nat_eq n k && has_mark ms m)) all

-- what came goes again: then all is as it was
pub came_and_went : (k : ℕ) (f : Footprint) (s t t' u : BTreeSet Reader) (left : List ℕ) → IsMissing k s → CameTo k (read_marks f.reads.items) s t left → HasSame t t' → Leaves k f t' u → HasSame s u
came_and_went k f s t t' u left missing w same leaves m n =
    let all : has_mark (read_marks f.reads.items) m ≡ (has_mark w.done m || has_mark left m) =
    ap (λ ms. has_mark ms m) w.whole ∙ list_any-append (nat_eq m) w.done left in
    leaves m n
    ∙ ap (λ b. b && not (reads_by k f m n)) (same m n ∙ w.came m n)
    ∙ ap (λ b. (has_reader s m n || (nat_eq n k && has_mark w.done m)) && not (nat_eq n k && b)) all
    ∙ gone_again (has_reader s m n) (nat_eq n k) (has_mark w.done m) (has_mark left m)
    (λ e. ap (λ x. has_reader s m x) (eqb-true n k e) ∙ missing m)

reads_by_is : (k : ℕ) (f : Footprint) (m n : ℕ) (b : Bool) → nat_eq n k ≡ b → (b && has_mark (read_marks f.reads.items) m) ≡ true → n ≡ k
reads_by_is k f m n true same h = eqb-true n k same
reads_by_is k f m n false same h = absurd (cc)

pub reads_by-true : (k : ℕ) (f : Footprint) (m n : ℕ) → reads_by k f m n ≡ true → n ≡ k
reads_by-true k f m n e = reads_by_is k f m n (nat_eq n k) refl e

-- ---- those that are entered only above a number

-- what reads under a mark is above where its operation is
pub as_above : (n k q : ℕ) (f : Footprint) (m : ℕ) → reads_by k f m q ≡ true → nat_lt n q ≡ nat_lt n k
as_above n k q f m reads = ap (nat_lt n) (reads_by-true k f m q reads)

-- where the operation is above it, and where it isn't
pub enters_above : (n k : ℕ) (f : Footprint) (s t : BTreeSet Reader) → n < k → Enters k f s t → EntersAbove n k f s t
enters_above n k f s t above enters m q =
    enters m q ∙ ap (λ b. has_reader s m q || (b && reads_by k f m q)) (sym (lt-ltb n k above))

pub none_enters : (n k : ℕ) (f : Footprint) (s : BTreeSet Reader) → k ≤ n → EntersAbove n k f s s
none_enters n k f s le m q =
    sym (or_false (has_reader s m q)) ∙ ap (λ b. has_reader s m q || (b && reads_by k f m q)) (sym (le-ltb n k le))

-- what was entered and leaves again
pub entered_and_left : (n k : ℕ) (f : Footprint) (s t u : BTreeSet Reader) → IsMissing k s → EntersAbove n k f s t → Leaves k f t u → HasSame s u
entered_and_left n k f s t u missing enters leaves m q =
    leaves m q ∙ ap (λ b. b && not (reads_by k f m q)) (enters m q)
    ∙ came_goes_above (has_reader s m q) (nat_lt n k) (reads_by k f m q) (λ e. ap (has_reader s m) (reads_by-true k f m q e) ∙ missing m)

-- ---- marks of an operation that takes the place of another

pub record WentBut (k : ℕ) (all : List ℕ) (other : Footprint) (s t : BTreeSet Reader) (rest : List ℕ) : Type 0 where
  pub done : List ℕ
  pub whole : all ≡ done ++ rest
  pub went : (m n : ℕ) → has_reader t m n ≡ (has_reader s m n && not (nat_eq n k && (has_mark done m && not (has_mark (read_marks other.reads.items) m))))

pub none_went_but : (k : ℕ) (all : List ℕ) (other : Footprint) (s : BTreeSet Reader) → WentBut k all other s s all
none_went_but k all other s = record {
  done = [];
  whole = refl;
  went = λ m n. stays_but (has_reader s m n) (nat_eq n k) (has_mark (read_marks other.reads.items) m);
}

mark_is : (ms : List ℕ) (q m : ℕ) (b : Bool) → has_mark ms m ≡ b → nat_eq q m ≡ true → has_mark ms q ≡ b
mark_is ms q m b has same = ap (has_mark ms) (eqb-true q m same) ∙ has

pub one_kept : (k : ℕ) (all : List ℕ) (other : Footprint) (s t : BTreeSet Reader) (left : List ℕ) (m : ℕ) (rest : List ℕ) → WentBut k all other s t left → left ≡ m ∷ rest
    → has_mark (read_marks other.reads.items) m ≡ true → WentBut k all other s t rest
one_kept k all other s t left m rest w e has = record {
  done = w.done ++ m ∷ [];
  whole = one_more all w.done m rest (w.whole ∙ ap (λ ms. w.done ++ ms) e);
  went = λ q n.
      let b = has_mark (read_marks other.reads.items) q in
      w.went q n ∙ mark_stays (has_reader s q n) (nat_eq n k) (has_mark w.done q) (nat_eq q m) b (mark_is (read_marks other.reads.items) q m true has)
      ∙ ap (λ d. has_reader s q n && not (nat_eq n k && (d && not b))) (sym (has_mark-more w.done m q));
}

pub one_went_but : (k : ℕ) (all : List ℕ) (other : Footprint) (s t u : BTreeSet Reader) (left : List ℕ) (m : ℕ) (rest : List ℕ) → WentBut k all other s t left → left ≡ m ∷ rest
    → has_mark (read_marks other.reads.items) m ≡ false → Puts t u m k false → WentBut k all other s u rest
one_went_but k all other s t u left m rest w e has p = record {
  done = w.done ++ m ∷ [];
  whole = one_more all w.done m rest (w.whole ∙ ap (λ ms. w.done ++ ms) e);
  went = λ q n.
      let b = has_mark (read_marks other.reads.items) q in
      p.puts q n ∙ ap (λ x. cond (nat_eq q m && nat_eq n k) false x) (w.went q n)
      ∙ mark_goes (has_reader s q n) (nat_eq n k) (has_mark w.done q) (nat_eq q m) b (mark_is (read_marks other.reads.items) q m false has)
      ∙ ap (λ d. has_reader s q n && not (nat_eq n k && (d && not b))) (sym (has_mark-more w.done m q));
}

pub all_went_but : (k : ℕ) (f other : Footprint) (s t : BTreeSet Reader) (left : List ℕ) → WentBut k (read_marks f.reads.items) other s t left → left ≡ [] → LeavesBut k f other s t
all_went_but k f other s t left w e m n =
    let all : w.done ≡ read_marks f.reads.items = sym (w.whole ∙ ap (λ ms. w.done ++ ms) e ∙ append-nil w.done) in
    w.went m n ∙ ap (λ ms. has_reader s m n && not (nat_eq n k && (has_mark ms m && not (has_mark (read_marks other.reads.items) m)))) all

-- what came beside the marks of another footprint goes again: then all is as it was
pub came_beside : (k : ℕ) (f other : Footprint) (s t t' u : BTreeSet Reader) (left : List ℕ) → IsEnteredBy k other s → CameTo k (read_marks f.reads.items) s t left → HasSame t t' → LeavesBut k f other t' u → HasSame s u
came_beside k f other s t t' u left entered w same leaves m n =
    let a = has_mark (read_marks other.reads.items) m in
    let all : has_mark (read_marks f.reads.items) m ≡ (has_mark w.done m || has_mark left m) =
    ap (λ ms. has_mark ms m) w.whole ∙ list_any-append (nat_eq m) w.done left in
    leaves m n
    ∙ ap (λ b. b && not (nat_eq n k && (has_mark (read_marks f.reads.items) m && not a))) (same m n ∙ w.came m n)
    ∙ ap (λ b. (has_reader s m n || (nat_eq n k && has_mark w.done m)) && not (nat_eq n k && (b && not a))) all
    ∙ gone_but (has_reader s m n) (nat_eq n k) a (has_mark w.done m) (has_mark left m)
    (λ e. ap (λ x. has_reader s m x) (eqb-true n k e) ∙ entered m)

pub puts_above : (n k : ℕ) (f other : Footprint) (s t u : BTreeSet Reader) → n < k → Enters k f s t → LeavesBut k other f t u → PutsAbove n k f other s u
puts_above n k f other s t u above enters leaves m q =
    let a = has_mark (read_marks other.reads.items) m in
    let b = has_mark (read_marks f.reads.items) m in
    leaves m q ∙ ap (λ x. x && not (nat_eq q k && (a && not b))) (enters m q)
    ∙ put_beside (has_reader s m q) (nat_eq q k) a b
    ∙ ap (λ x. (has_reader s m q && not (x && reads_by k other m q)) || (x && reads_by k f m q)) (sym (lt-ltb n k above))

pub none_puts : (n k : ℕ) (f other : Footprint) (s : BTreeSet Reader) → k ≤ n → PutsAbove n k f other s s
none_puts n k f other s le m q =
    stays_put (has_reader s m q)
    ∙ ap (λ x. (has_reader s m q && not (x && reads_by k other m q)) || (x && reads_by k f m q)) (sym (le-ltb n k le))

-- ---- a search among marks

pub record OthersPassed (all : List ℕ) (m : ℕ) (left : List ℕ) : Type 0 where
  pub same : has_mark all m ≡ has_mark left m

pub none_passed : (all : List ℕ) (m : ℕ) → OthersPassed all m all
none_passed all m = record { same = refl }

pub one_passed : (all : List ℕ) (m : ℕ) (left : List ℕ) (q : ℕ) (rest : List ℕ) → OthersPassed all m left → left ≡ q ∷ rest → nat_eq m q ≡ false → OthersPassed all m rest
one_passed all m left q rest p e other = record { same = p.same ∙ ap (λ ms. has_mark ms m) e ∙ ap (λ b. b || has_mark rest m) other }

pub mark_found : (all : List ℕ) (m : ℕ) (left : List ℕ) (q : ℕ) (rest : List ℕ) → OthersPassed all m left → left ≡ q ∷ rest → nat_eq m q ≡ true → has_mark all m ≡ true
mark_found all m left q rest p e same = p.same ∙ ap (λ ms. has_mark ms m) e ∙ ap (λ b. b || has_mark rest m) same

pub mark_missing : (all : List ℕ) (m : ℕ) (left : List ℕ) → OthersPassed all m left → left ≡ [] → has_mark all m ≡ false
mark_missing all m left p e = p.same ∙ ap (λ ms. has_mark ms m) e
