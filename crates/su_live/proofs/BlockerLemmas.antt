-- What stands in the way of an undo, as it is found by marks.
use Rattle.std.proofs.Common.{◌≡◌, ℕ, ◌+◌, ◌-◌, ◌^◌, ◌<◌, ◌≤◌, Bool, true, false, cond, ◌&&◌, ◌||◌, ◌⊎◌, nat_eq, List, [], ◌∷◌, Option, Some, None, IfNone, IfSome, refl, sym, ◌∙◌, ap, inl, inr, arith}
use Rattle.std.proofs.lemmas.Bool.{eq-eqb, ne_eqb, eqb-true, eqb-false}
use Rattle.std.specs.List.{AllByRecursion}
use Rattle.std.specs.Option.{option_or}
use Rattle.su_op.specs.declared.areas.Area.{Area}
use Rattle.su_op.specs.Area.{meet}
use Rattle.su_kept_areas.specs.Marks.{has_mark, read_marks, written_marks}
use Rattle.su_kept_areas.proofs.Public.{meeting_share}
use Rattle.su_live.specs.declared.operations.LiveOperation.{LiveOperation}
use Rattle.std.specs.BTreeSet.{BTreeSet}
use Rattle.su_live.specs.declared.readers.Reader.{Reader}
use Rattle.su_live.specs.Readers.{has_reader, reads_by}
use Rattle.su_live.specs.Live.{find_live, live_blocker, last_reader, reads_at, is_entered, Ascend, AreSmall, HasAbove}
use Rattle.su_live.proofs.Tests.{not_so, or_none, or_true, or_false, and_so, or_cases, nat_eq-flip}
use Rattle.su_live.proofs.LiveLemmas.{none_above, not_first, found_all, found_number, IsFirstOrLater, first_or_later, entered_small}

module _ {I : Type 0} (w : List Area) where
  -- ---- who reads a cell

  pub none_reads : (n : ℕ) (ks : List (LiveOperation I)) → find_live n ks ≡ None → reads_at w ks n ≡ false
  none_reads n [] none = refl
  none_reads n (k ∷ ks) none =
      let parts = not_first n k ks none in
      let other : nat_eq n k.number ≡ false = nat_eq-flip n k.number ∙ parts.0 in
      ap (λ b. (b && meet k.footprint.reads.items w) || reads_at w ks n) other ∙ none_reads n ks parts.1

  -- of another number than the first one's
  reads-later : (n : ℕ) (k : LiveOperation I) (ks : List (LiveOperation I)) → (n ≡ k.number → ⊥) → reads_at w (k ∷ ks) n ≡ reads_at w ks n
  reads-later n k ks other = ap (λ b. (b && meet k.footprint.reads.items w) || reads_at w ks n) (ne_eqb n k.number other)

  -- of the first one's number
  reads-first : (k : LiveOperation I) (ks : List (LiveOperation I)) → AllByRecursion (λ (j : LiveOperation I). k.number < j.number) ks → reads_at w (k ∷ ks) k.number ≡ meet k.footprint.reads.items w
  reads-first k ks above =
      ap (λ b. (b && meet k.footprint.reads.items w) || reads_at w ks k.number) (eq-eqb k.number k.number refl)
      ∙ ap (λ b. meet k.footprint.reads.items w || b) (none_reads k.number ks (none_above k.number ks above))
      ∙ or_false (meet k.footprint.reads.items w)

  pub reads-found : (n : ℕ) (k : LiveOperation I) (ks : List (LiveOperation I)) → Ascend ks → find_live n ks ≡ Some k → reads_at w ks n ≡ meet k.footprint.reads.items w
  reads-found n k [] ascend found = absurd (cc)
  reads-found n k (j ∷ js) ascend found = by (nat_eq j.number n) (first_or_later n k j js found) (reads-found n k js ascend.1)
    where
      by : (b : Bool) → IsFirstOrLater n k j js b → (find_live n js ≡ Some k → reads_at w js n ≡ meet k.footprint.reads.items w) → reads_at w (j ∷ js) n ≡ meet k.footprint.reads.items w
      by true f on =
          ap (reads_at w (j ∷ js)) (sym (eqb-true j.number n f.is_first)) ∙ reads-first j js ascend.0
          ∙ ap (λ (i : LiveOperation I). meet i.footprint.reads.items w) (f.same refl)
      by false f on = reads-later n j js (λ e. eqb-false j.number n f.is_first (sym e)) ∙ on (f.later refl)

  -- who reads one has a mark under which it is entered
  pub record IsFoundBy (ks : List (LiveOperation I)) (n : ℕ) : Type 0 where
    pub mark : ℕ
    pub looked : has_mark (written_marks w) mark ≡ true
    pub entered : is_entered ks mark n ≡ true

  pub found_by : (ks : List (LiveOperation I)) (n : ℕ) → reads_at w ks n ≡ true → IsFoundBy ks n
  found_by [] n reads = absurd (cc)
  found_by (k ∷ ks) n reads =
      let cases : ((nat_eq n k.number && meet k.footprint.reads.items w) ≡ true) ⊎ (reads_at w ks n ≡ true) =
      or_cases (nat_eq n k.number && meet k.footprint.reads.items w) (reads_at w ks n) reads in
      by cases (found_by ks n)
    where
      by : ((nat_eq n k.number && meet k.footprint.reads.items w) ≡ true) ⊎ (reads_at w ks n ≡ true) → (reads_at w ks n ≡ true → IsFoundBy ks n) → IsFoundBy (k ∷ ks) n
      by (inl e) on =
          let so = and_so (nat_eq n k.number) (meet k.footprint.reads.items w) e in
          let s = meeting_share k.footprint.reads.items w so.1 in
          record {
            mark = s.mark;
            looked = s.second;
            entered = ap (λ b. (b && has_mark (read_marks k.footprint.reads.items) s.mark) || is_entered ks s.mark n) so.0
                ∙ ap (λ b. b || is_entered ks s.mark n) s.first;
          }
      by (inr e) on =
          let f = on e in
          record {
            mark = f.mark;
            looked = f.looked;
            entered = ap (λ b. reads_by k.number k.footprint f.mark n || b) f.entered ∙ or_true (reads_by k.number k.footprint f.mark n);
          }

  -- ---- the last who reads one

  reads_behind : (k : LiveOperation I) (ks : List (LiveOperation I)) (n : ℕ) → reads_at w (k ∷ ks) n ≡ false → reads_at w ks n ≡ false
  reads_behind k ks n none = or_none (nat_eq n k.number && meet k.footprint.reads.items w) (reads_at w ks n) none

  reads_above : (a n : ℕ) (ks : List (LiveOperation I)) → AllByRecursion (λ (j : LiveOperation I). a < j.number) ks → reads_at w ks n ≡ true → a < n
  reads_above a n [] above reads = absurd (cc)
  reads_above a n (k ∷ ks) above reads =
      let cases : ((nat_eq n k.number && meet k.footprint.reads.items w) ≡ true) ⊎ (reads_at w ks n ≡ true) =
      or_cases (nat_eq n k.number && meet k.footprint.reads.items w) (reads_at w ks n) reads in
      elim cases [
        | inl e ↦
            let same : n ≡ k.number = eqb-true n k.number (and_so (nat_eq n k.number) (meet k.footprint.reads.items w) e).0 in
            let lt : a < k.number = above.0 in
            omega arith
        | inr e ↦ reads_above a n ks above.1 e
      ]

  last_none : (ks : List (LiveOperation I)) → Ascend ks → ((n : ℕ) → reads_at w ks n ≡ false) → last_reader w ks ≡ None
  last_none [] ascend none = refl
  last_none (k ∷ ks) ascend none =
      let first : meet k.footprint.reads.items w ≡ false = sym (reads-first k ks ascend.0) ∙ none k.number in
      ap (λ o. option_or o (cond (meet k.footprint.reads.items w) (Some k.number) None)) (last_none ks ascend.1 (λ n. reads_behind k ks n (none n)))
      ∙ ap (λ b. cond b (Some k.number) None) first

  -- the first one is the last who reads it
  last_first : (k : LiveOperation I) (ks : List (LiveOperation I)) (last : ℕ) → Ascend (k ∷ ks) → reads_at w (k ∷ ks) last ≡ true → reads_at w ks last ≡ false → ((n : ℕ) → last < n → reads_at w ks n ≡ false)
      → last_reader w (k ∷ ks) ≡ Some last
  last_first k ks last ascend reads e later =
      let first : (nat_eq last k.number && meet k.footprint.reads.items w) ≡ true =
      sym (or_false (nat_eq last k.number && meet k.footprint.reads.items w))
      ∙ ap (λ b. (nat_eq last k.number && meet k.footprint.reads.items w) || b) (sym e) ∙ reads in
      let so = and_so (nat_eq last k.number) (meet k.footprint.reads.items w) first in
      let here : last ≡ k.number = eqb-true last k.number so.0 in
      let all = λ (n : ℕ). not_so (reads_at w ks n) (λ r.
      let above : k.number < n = reads_above k.number n ks ascend.0 r in
      let none : reads_at w ks n ≡ false = later n (omega arith) in
      cc) in
      ap (λ o. option_or o (cond (meet k.footprint.reads.items w) (Some k.number) None)) (last_none ks ascend.1 all)
      ∙ ap (λ b. cond b (Some k.number) None) so.1 ∙ ap Some (sym here)

  last_step : (k : LiveOperation I) (ks : List (LiveOperation I)) (last : ℕ) (b : Bool) → Ascend (k ∷ ks) → reads_at w (k ∷ ks) last ≡ true → ((n : ℕ) → last < n → reads_at w ks n ≡ false)
      → reads_at w ks last ≡ b → (reads_at w ks last ≡ true → last_reader w ks ≡ Some last) → last_reader w (k ∷ ks) ≡ Some last
  last_step k ks last true ascend reads later e on =
      ap (λ o. option_or o (cond (meet k.footprint.reads.items w) (Some k.number) None)) (on e)
  last_step k ks last false ascend reads later e on = last_first k ks last ascend reads e later

  last_some : (ks : List (LiveOperation I)) (last : ℕ) → Ascend ks → reads_at w ks last ≡ true → ((n : ℕ) → last < n → reads_at w ks n ≡ false) → last_reader w ks ≡ Some last
  last_some [] last ascend reads none = absurd (cc)
  last_some (k ∷ ks) last ascend reads none =
      last_step k ks last (reads_at w ks last) ascend reads (λ n above. reads_behind k ks n (none n above)) refl
      (λ e. last_some ks last ascend.1 e (λ n above. reads_behind k ks n (none n above)))

  -- ---- what stands in the way of an undo

  blocker_at : (n : ℕ) (k j : LiveOperation I) (js : List (LiveOperation I)) (r : Option ℕ) (b : Bool) → k.footprint.writes.items ≡ w → IsFirstOrLater n k j js b
      → (nat_eq j.number n ≡ true → last_reader w js ≡ r) → (find_live n js ≡ Some k → live_blocker n js ≡ r) → cond b (last_reader j.footprint.writes.items js) (live_blocker n js) ≡ r
  blocker_at n k j js r true writes f here on =
      ap (λ v. last_reader v js) (ap (λ (i : LiveOperation I). i.footprint.writes.items) (f.same refl) ∙ writes) ∙ here f.is_first
  blocker_at n k j js r false writes f here on = on (f.later refl)

  -- those behind an operation that isn't above n read what all read, above n
  reads_on : (n q : ℕ) (j : LiveOperation I) (js : List (LiveOperation I)) → j.number ≤ n → n < q → reads_at w (j ∷ js) q ≡ reads_at w js q
  reads_on n q j js le above = reads-later q j js (λ e. absurd (omega arith))

  found_above : (n : ℕ) (k j : LiveOperation I) (js : List (LiveOperation I)) → AllByRecursion (λ (i : LiveOperation I). j.number < i.number) js → find_live n js ≡ Some k → j.number ≤ n
  found_above n k j js above found =
      let lt : j.number < k.number = found_all (λ (i : LiveOperation I). j.number < i.number) n k js found above in
      let same : k.number ≡ n = found_number n k js found in
      omega arith

  -- of those behind n none reads what it wrote
  none_at : (n : ℕ) (j : LiveOperation I) (js : List (LiveOperation I)) → Ascend (j ∷ js) → nat_eq j.number n ≡ true → ((q : ℕ) → n < q → reads_at w (j ∷ js) q ≡ false) → (q : ℕ) → reads_at w js q ≡ false
  none_at n j js ascend here none q =
      let same : j.number ≡ n = eqb-true j.number n here in
      not_so (reads_at w js q) (λ r.
      let above : j.number < q = reads_above j.number q js ascend.0 r in
      let never : reads_at w js q ≡ false = reads_behind j js q (none q (omega arith)) in
      cc)

  pub no_operation : (n : ℕ) (ks : List (LiveOperation I)) → find_live n ks ≡ None → live_blocker n ks ≡ None
  no_operation n [] none = refl
  no_operation n (k ∷ ks) none =
      let parts = not_first n k ks none in
      ap (λ b. cond b (last_reader k.footprint.writes.items ks) (live_blocker n ks)) parts.0 ∙ no_operation n ks parts.1

  pub no_blocker : (n : ℕ) (k : LiveOperation I) (ks : List (LiveOperation I)) → Ascend ks → find_live n ks ≡ Some k → k.footprint.writes.items ≡ w → ((q : ℕ) → n < q → reads_at w ks q ≡ false) → live_blocker n ks ≡ None
  no_blocker n k [] ascend found writes none = absurd (cc)
  no_blocker n k (j ∷ js) ascend found writes none =
      blocker_at n k j js None (nat_eq j.number n) writes (first_or_later n k j js found)
      (λ here. last_none js ascend.1 (none_at n j js ascend here none))
      (λ later. no_blocker n k js ascend.1 later writes (λ q above. reads_behind j js q (none q above)))

  pub last_blocker : (n : ℕ) (k : LiveOperation I) (ks : List (LiveOperation I)) (last : ℕ) → Ascend ks → find_live n ks ≡ Some k → k.footprint.writes.items ≡ w → n < last → reads_at w ks last ≡ true
      → ((q : ℕ) → last < q → reads_at w ks q ≡ false) → live_blocker n ks ≡ Some last
  last_blocker n k [] last ascend found writes above reads none = absurd (cc)
  last_blocker n k (j ∷ js) last ascend found writes above reads none =
      blocker_at n k j js (Some last) (nat_eq j.number n) writes (first_or_later n k j js found)
      (λ here.
      let same : j.number ≡ n = eqb-true j.number n here in
      last_some js last ascend.1 (sym (reads_on n last j js (omega arith) above) ∙ reads) (λ q later. reads_behind j js q (none q later)))
      (λ later.
      let le : j.number ≤ n = found_above n k j js ascend.0 later in
      last_blocker n k js last ascend.1 later writes above (sym (reads_on n last j js le above) ∙ reads) (λ q over. reads_behind j js q (none q over)))

  -- ---- marks that were looked under

  -- The last one that was found, above the first. Of all marks the rest is left; and who is entered under
  -- another one and is above the last doesn't read it.
  pub record LastFound (ks : List (LiveOperation I)) (first last : ℕ) (rest : List ℕ) : Type 0 where
    pub from : first ≤ last
    pub found : (last ≡ first) ⊎ (reads_at w ks last ≡ true)
    pub passed : (m n : ℕ) → has_mark (written_marks w) m ≡ true → last < n → is_entered ks m n ≡ true → (has_mark rest m ≡ true) ⊎ (reads_at w ks n ≡ false)

  pub none_looked : (ks : List (LiveOperation I)) (first : ℕ) → LastFound ks first first (written_marks w)
  none_looked ks first = record { from = omega arith; found = inl refl; passed = λ m n has above entered. inl has }

  pass_one : (ks : List (LiveOperation I)) (first last next : ℕ) (left : List ℕ) (mark : ℕ) (rest : List ℕ) → LastFound ks first last left → left ≡ mark ∷ rest → last ≤ next
      → ((n : ℕ) → next < n → is_entered ks mark n ≡ true → reads_at w ks n ≡ false)
      → (m n : ℕ) → has_mark (written_marks w) m ≡ true → next < n → is_entered ks m n ≡ true → (has_mark rest m ≡ true) ⊎ (reads_at w ks n ≡ false)
  pass_one ks first last next left mark rest l e le none m n has above entered =
      let cases : (has_mark left m ≡ true) ⊎ (reads_at w ks n ≡ false) = l.passed m n has (omega arith) entered in
      elim cases [
        | inr other ↦ inr other
        | inl in_left ↦
            let parts : (nat_eq m mark ≡ true) ⊎ (has_mark rest m ≡ true) = or_cases (nat_eq m mark) (has_mark rest m) (sym (ap (λ ms. has_mark ms m) e) ∙ in_left) in
            elim parts [
              | inr in_rest ↦ inl in_rest
              | inl same ↦ inr (none n above (sym (ap (λ x. is_entered ks x n) (eqb-true m mark same)) ∙ entered))
            ]
      ]

  -- a later one was found under the mark, the last one of it
  pub later_found : (ks : List (LiveOperation I)) (first last next : ℕ) (left : List ℕ) (mark : ℕ) (rest : List ℕ) → LastFound ks first last left → left ≡ mark ∷ rest → last < next → reads_at w ks next ≡ true
      → ((n : ℕ) → next < n → is_entered ks mark n ≡ true → reads_at w ks n ≡ false) → LastFound ks first next rest
  later_found ks first last next left mark rest l e above reads none =
      let from : first ≤ last = l.from in
      record { from = omega arith; found = inr reads; passed = pass_one ks first last next left mark rest l e (omega arith) none }

  -- none was
  pub none_found : (ks : List (LiveOperation I)) (first last : ℕ) (left : List ℕ) (mark : ℕ) (rest : List ℕ) → LastFound ks first last left → left ≡ mark ∷ rest
      → ((n : ℕ) → last < n → is_entered ks mark n ≡ true → reads_at w ks n ≡ false) → LastFound ks first last rest
  none_found ks first last left mark rest l e none =
      record { from = l.from; found = l.found; passed = pass_one ks first last last left mark rest l e (omega arith) none }

  -- where all marks were looked under, none above the last one reads it
  pub none_above_last : (ks : List (LiveOperation I)) (first last : ℕ) (left : List ℕ) → LastFound ks first last left → left ≡ [] → (n : ℕ) → last < n → reads_at w ks n ≡ false
  none_above_last ks first last left l e n above =
      not_so (reads_at w ks n) (λ reads.
      let f = found_by ks n reads in
      let cases : (has_mark left f.mark ≡ true) ⊎ (reads_at w ks n ≡ false) = l.passed f.mark n f.looked above f.entered in
      elim cases [
        | inl in_left ↦ let none : false ≡ true = sym (ap (λ ms. has_mark ms f.mark) e) ∙ in_left in cc
        | inr other ↦ cc
      ])

  -- ---- looking under one mark

  -- who is entered under the mark, above both numbers, doesn't read it
  pub record NoneReadsAbove (ks : List (LiveOperation I)) (mark above up_to : ℕ) : Type 0 where
    pub none : (n : ℕ) → above < n → up_to < n → is_entered ks mark n ≡ true → reads_at w ks n ≡ false

  pub none_beyond : (ks : List (LiveOperation I)) (mark above : ℕ) → AreSmall ks → NoneReadsAbove ks mark above (2 ^ 32 - 1)
  none_beyond ks mark above small = record {
    none = λ n over beyond entered. let fits : n < 2 ^ 32 = entered_small ks small mark n entered in absurd (omega arith);
  }

  -- nor those above the last one that is entered
  pub none_above_entered : (ks : List (LiveOperation I)) (s : BTreeSet Reader) (mark above up_to last : ℕ) → NoneReadsAbove ks mark above up_to → HasAbove above ks s
      → ((n : ℕ) → last < n → n ≤ up_to → has_reader s mark n ≡ false) → NoneReadsAbove ks mark above last
  none_above_entered ks s mark above up_to last past has none = record {
    none = λ n over beyond entered.
        let order : (n ≤ up_to) ⊎ (up_to < n) = grind arith in
        elim order [
          | inl le ↦ let e : true ≡ false = sym entered ∙ sym (has mark n over) ∙ none n beyond le in absurd (cc)
          | inr later ↦ past.none n over later entered
        ];
  }

  pub none_entered : (ks : List (LiveOperation I)) (s : BTreeSet Reader) (mark above up_to : ℕ) → NoneReadsAbove ks mark above up_to → HasAbove above ks s
      → ((n : ℕ) → n ≤ up_to → has_reader s mark n ≡ false) → (q : ℕ) → above < q → is_entered ks mark q ≡ true → reads_at w ks q ≡ false
  none_entered ks s mark above up_to past has none q over entered =
      (none_above_entered ks s mark above up_to above past has (λ n _ le. none n le)).none q over over entered

  -- nor that one, if it doesn't
  pub none_from_entered : (ks : List (LiveOperation I)) (mark above last below : ℕ) → NoneReadsAbove ks mark above last → reads_at w ks last ≡ false → last ≡ below + 1 → NoneReadsAbove ks mark above below
  none_from_entered ks mark above last below past here next = record {
    none = λ n over beyond entered.
        let order : (n ≡ last) ⊎ (last < n) = grind arith in
        elim order [
          | inl same ↦ ap (reads_at w ks) same ∙ here
          | inr later ↦ past.none n over later entered
        ];
  }

  pub none_above_bound : (ks : List (LiveOperation I)) (mark above last : ℕ) → NoneReadsAbove ks mark above last → last ≤ above → (q : ℕ) → above < q → is_entered ks mark q ≡ true → reads_at w ks q ≡ false
  none_above_bound ks mark above last past le q over entered = past.none q over (omega arith) entered

  pub none_above_found : (ks : List (LiveOperation I)) (mark above last : ℕ) → NoneReadsAbove ks mark above last → above < last → (q : ℕ) → last < q → is_entered ks mark q ≡ true → reads_at w ks q ≡ false
  none_above_found ks mark above last past lt q over entered = past.none q (omega arith) over entered

  -- ---- looking at one by one

  -- of those above one number, and up to the other, none reads it
  pub record NoneReadsBetween (ks : List (LiveOperation I)) (bound up_to : ℕ) : Type 0 where
    pub none : (n : ℕ) → bound < n → n ≤ up_to → reads_at w ks n ≡ false

  pub none_between : (ks : List (LiveOperation I)) (up_to : ℕ) → NoneReadsBetween ks up_to up_to
  none_between ks up_to = record { none = λ n over le. absurd (omega arith) }

  -- nor of those above the last one that is there
  pub none_above_there : (ks : List (LiveOperation I)) (bound up_to last : ℕ) → NoneReadsBetween ks bound up_to → ((n : ℕ) → last < n → n ≤ bound → find_live n ks ≡ None) → NoneReadsBetween ks last up_to
  none_above_there ks bound up_to last past none = record {
    none = λ n over le.
        let order : (n ≤ bound) ⊎ (bound < n) = grind arith in
        elim order [
          | inl within ↦ none_reads n ks (none n over within)
          | inr later ↦ past.none n later le
        ];
  }

  -- nor that one, if it doesn't
  pub none_from_there : (ks : List (LiveOperation I)) (up_to last below : ℕ) → NoneReadsBetween ks last up_to → reads_at w ks last ≡ false → last ≡ below + 1 → NoneReadsBetween ks below up_to
  none_from_there ks up_to last below past here next = record {
    none = λ n over le.
        let order : (n ≡ last) ⊎ (last < n) = grind arith in
        elim order [
          | inl same ↦ ap (reads_at w ks) same ∙ here
          | inr later ↦ past.none n later le
        ];
  }

  pub none_there : (ks : List (LiveOperation I)) (bound up_to above : ℕ) → NoneReadsBetween ks bound up_to → ((n : ℕ) → n ≤ bound → find_live n ks ≡ None) → (q : ℕ) → above < q → q ≤ up_to → reads_at w ks q ≡ false
  none_there ks bound up_to above past none q over le =
      let order : (q ≤ bound) ⊎ (bound < q) = grind arith in
      elim order [
        | inl within ↦ none_reads q ks (none q within)
        | inr later ↦ past.none q later le
      ]

  pub none_between_bound : (ks : List (LiveOperation I)) (last up_to above : ℕ) → NoneReadsBetween ks last up_to → last ≤ above → (q : ℕ) → above < q → q ≤ up_to → reads_at w ks q ≡ false
  none_between_bound ks last up_to above past below q over le = past.none q (omega arith) le

  -- ---- the index and those that aren't entered

  -- what was found is the one
  pub blocker_is : (n : ℕ) (k : LiveOperation I) (ks : List (LiveOperation I)) (r : Option ℕ) → Ascend ks → find_live n ks ≡ Some k → k.footprint.writes.items ≡ w
      → IfSome r (λ l. n < l) → IfSome r (λ l. reads_at w ks l ≡ true) → IfSome r (λ l. (q : ℕ) → l < q → reads_at w ks q ≡ false) → IfNone r ((q : ℕ) → n < q → reads_at w ks q ≡ false)
      → r ≡ live_blocker n ks
  blocker_is n k ks None ascend found writes later reads last none = sym (no_blocker n k ks ascend found writes none)
  blocker_is n k ks (Some l) ascend found writes later reads last none = sym (last_blocker n k ks l ascend found writes later reads last)

  -- among those up to a number, where none reads it of those above it
  pub scanned_blocker : (n scanned : ℕ) (k : LiveOperation I) (ks : List (LiveOperation I)) (r : Option ℕ) → Ascend ks → find_live n ks ≡ Some k → k.footprint.writes.items ≡ w
      → ((q : ℕ) → n < q → scanned < q → reads_at w ks q ≡ false)
      → IfSome r (λ l. n < l) → IfSome r (λ l. reads_at w ks l ≡ true) → IfSome r (λ l. (q : ℕ) → l < q → q ≤ scanned → reads_at w ks q ≡ false)
      → IfNone r ((q : ℕ) → n < q → q ≤ scanned → reads_at w ks q ≡ false) → r ≡ live_blocker n ks
  scanned_blocker n scanned k ks None ascend found writes entered later reads last none =
      sym (no_blocker n k ks ascend found writes (λ q over.
      let order : (q ≤ scanned) ⊎ (scanned < q) = grind arith in
      elim order [ inl le ↦ none q over le | inr beyond ↦ entered q over beyond ]))
  scanned_blocker n scanned k ks (Some l) ascend found writes entered later reads last none =
      sym (last_blocker n k ks l ascend found writes later reads (λ q over.
      let order : (q ≤ scanned) ⊎ (scanned < q) = grind arith in
      let behind : n < l = later in
      elim order [ inl le ↦ last q over le | inr beyond ↦ entered q (omega arith) beyond ]))
