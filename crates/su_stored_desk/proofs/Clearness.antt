-- What is known of a desk on trial where nothing clashed each time that its store was asked.
use Rattle.std.specs.Prelude.{◌≡◌, ℕ, List, [], ◌∷◌, ◌++◌}
use Rattle.std.specs.Global.{Vec}
use Rattle.std.specs.List.{AllByRecursion}
use Rattle.std.proofs.Common.{refl, sym, ap, ◌∙◌, subst}
use Rattle.su_bytes.specs.Membership.{Membership}
use Rattle.su_block.specs.declared.sources.BlockSource.{Ghosts}
use Rattle.su_part.specs.Bytes.{NoneClash}
use Rattle.su_part_forest.specs.Loading.{HashedFor}
use Rattle.su_desk.specs.declared.entries.Entry.{Entry}
use Rattle.su_desk.specs.Applied.{tree_after}
use Rattle.su_desk.specs.Desk.{DeskState, with_entry}
use Rattle.su_desk.specs.Trial.{TrialState, before_last, without_last}
use Rattle.su_stored_desk.specs.declared.desks.Desk.{Desk}
use Rattle.su_stored_desk.specs.declared.prepared.Tried.{Tried}
use Rattle.su_stored_desk.specs.Asked.{Asks, IsClear, NoneMixed, TrialOn}
use Rattle.su_stored_desk.specs.Right.{state_of, HasNumbers, IsRight, IsSure, MayBecome}
use Rattle.su_stored_desk.specs.Tried.{TakesBack, TakesLastBack, TakeAllBack, seen_of}
use Rattle.su_stored_desk.specs.Trusted.{IsTrusted}
use Rattle.su_stored_desk.proofs.Public.{asks_nothing, asks_once}
use Rattle.su_stored_desk.proofs.StandingReady.{Seen, seen, seen_more, seen_less, few, fits_so, back_so, also_back, last_back}

-- ---- one element more

pub all_before : {A : Type 0} (P : A → Type 0) (xs : List A) (x : A) → AllByRecursion P (xs ++ x ∷ []) → AllByRecursion P xs × P x
all_before P [] x all = (tt, all.0)
all_before P (y ∷ xs) x all = let rest = all_before P xs x all.1 in ((all.0, rest.0), rest.1)

pub all_with : {A : Type 0} (P : A → Type 0) (xs : List A) (x : A) → AllByRecursion P xs → P x → AllByRecursion P (xs ++ x ∷ [])
all_with P [] x all last = (last, tt)
all_with P (y ∷ xs) x all last = (all.0, all_with P xs x all.1 last)

-- ---- when the store was asked

module _ {S : Type 0} (may_give : S → List ℕ → Type 0) where
  -- nothing clashed at one of those times
  abbrev pub Unmixed : Membership → S × Vec Entry → Type 0
  Unmixed ro a = NoneClash (HashedFor (tree_after ro a.1.items)) (may_give a.0)

  -- without the last of them
  pub less_clear : (now ro : Membership) (new asked : List (S × Vec Entry)) (a : S × Vec Entry) → now ≡ ro → new ≡ asked ++ a ∷ [] → NoneMixed may_give now new → NoneMixed may_give ro asked × Unmixed ro a
  less_clear now ro new asked a same more clear = all_before (Unmixed ro) asked a (subst (λ l. NoneMixed may_give ro l) more (subst (λ r. NoneMixed may_give r new) same clear))

  pub more_clear : (now ro : Membership) (new asked : List (S × Vec Entry)) (a : S × Vec Entry) → now ≡ ro → new ≡ asked ++ a ∷ [] → NoneMixed may_give ro asked → Unmixed ro a → NoneMixed may_give now new
  more_clear now ro new asked a same more clear last = subst (λ r. NoneMixed may_give r new) (sym same) (subst (λ l. NoneMixed may_give ro l) (sym more) (all_with (Unmixed ro) asked a clear last))

  -- the same where it wasn't asked
  pub clear_still : (t u : TrialOn S) → u.state.settled.roster ≡ t.state.settled.roster → u.asked ≡ t.asked → IsClear may_give u → IsClear may_give t
  clear_still t u same asked clear = subst (λ l. NoneMixed may_give t.state.settled.roster l) asked (subst (λ ro. NoneMixed may_give ro u.asked) same clear)

-- ---- the fields

-- what is seen of them
abbrev pub view_of : {S : Type 0} {g : Ghosts S} → Desk S g → List Tried → List (S × Vec Entry) → TrialOn S
view_of d ts asked = record { state = seen_of (state_of d) ts; source = d.stored.source; asked = asked }

module _ {S : Type 0} {g : Ghosts S} (may_give : S → List ℕ → Type 0) where
  -- what is known of them where v is seen: where nothing clashed the desk is right, and what is kept of
  -- those that stand ready takes them back
  pub record Known (d : Desk S g) (ts : List Tried) (asked : List (S × Vec Entry)) (v : TrialState) : Type 0 where
    pub seen : Seen (state_of d) ts v
    pub numbers : HasNumbers d.roster d.counters.items
    pub numbered : AllByRecursion (λ (t : Tried). HasNumbers d.roster t.versions.items) ts
    pub right : NoneMixed may_give d.roster asked → IsRight d
    pub back : NoneMixed may_give d.roster asked → TakeAllBack v.settled v.ready ts

  pub known : (d : Desk S g) (ts : List Tried) (asked : List (S × Vec Entry)) (v : TrialState) → seen_of (state_of d) ts ≡ v → IsTrusted may_give d ts asked → Known d ts asked v
  known d ts asked v e trusted = record {
    seen = seen (state_of d) ts v trusted.many e;
    numbers = trusted.numbers;
    numbered = trusted.numbered;
    right = trusted.right;
    back = λ clear. back_so (state_of d) ts v e (trusted.fits clear);
  }

  pub trusted : (d : Desk S g) (ts : List Tried) (asked : List (S × Vec Entry)) (v : TrialState) → Known d ts asked v → IsTrusted may_give d ts asked
  trusted d ts asked v k = record {
    many = few (state_of d) ts v k.seen;
    numbers = k.numbers;
    numbered = k.numbered;
    right = k.right;
    fits = λ clear. fits_so (state_of d) ts v k.seen (k.back clear);
  }

  -- the store is going to be asked
  abbrev pub asking : Desk S g → S × Vec Entry
  asking d = (d.stored.source, d.entries)

  pub noted : (d : Desk S g) (s : S) (new asked : List (S × Vec Entry)) → new ≡ asked ++ (s, d.entries) ∷ [] → s ≡ d.stored.source → new ≡ asked ++ asking d ∷ []
  noted d s new asked more is = more ∙ ap (λ x. asked ++ (x, d.entries) ∷ []) is

  -- It was asked once, and the desk became another one of that roster.
  pub asks_seen : {comes : S → S → Type 0} (d d' : Desk S g) (ts ts' : List Tried) (asked asked' : List (S × Vec Entry)) (t : TrialOn S) → view_of d ts asked ≡ t → asked' ≡ asked ++ asking d ∷ [] → d'.roster ≡ d.roster
      → MayBecome may_give comes d.stored.source d'.stored.source → Asks may_give comes t (view_of d' ts' asked')
  asks_seen {comes} d d' ts ts' asked asked' t is more same source =
      subst (λ (u : TrialOn S). Asks may_give comes u (view_of d' ts' asked')) is (asks_once (view_of d ts asked) (view_of d' ts' asked') (asking d) same more refl source)

  -- It wasn't asked.
  pub asks_unasked : {comes : S → S → Type 0} → ((s : S) → comes s s) → (d : Desk S g) (ts ts' : List Tried) (asked : List (S × Vec Entry)) (t : TrialOn S) → view_of d ts asked ≡ t → Asks may_give comes t (view_of d ts' asked)
  asks_unasked {comes} itself d ts ts' asked t is =
      subst (λ (u : TrialOn S). Asks may_give comes u (view_of d ts' asked)) is (asks_nothing itself (view_of d ts asked) (view_of d ts' asked) refl refl refl)

  pub sure : (d : Desk S g) (ts : List Tried) (asked : List (S × Vec Entry)) (v : TrialState) → Known d ts asked v → NoneMixed may_give d.roster (asked ++ asking d ∷ []) → IsSure may_give d
  sure d ts asked v k clear = let both = all_before (Unmixed may_give d.roster) asked (asking d) clear in record { right = k.right both.0; unmixed = both.1 }

  pub back_asked : (d : Desk S g) (ts : List Tried) (asked : List (S × Vec Entry)) (v : TrialState) → Known d ts asked v → NoneMixed may_give d.roster (asked ++ asking d ∷ []) → TakeAllBack v.settled v.ready ts
  back_asked d ts asked v k clear = k.back (all_before (Unmixed may_give d.roster) asked (asking d) clear).0

  -- numbers from before the entries are those of the same roster
  numbered_still : (d d' : Desk S g) (ts : List Tried) → d'.roster ≡ d.roster → AllByRecursion (λ (t : Tried). HasNumbers d.roster t.versions.items) ts → AllByRecursion (λ (t : Tried). HasNumbers d'.roster t.versions.items) ts
  numbered_still d d' ts same all = subst (λ (ro : Membership). AllByRecursion (λ (t : Tried). HasNumbers ro t.versions.items) ts) (sym same) all

  -- it was, and the history is what it was
  pub known_asked : (d d' : Desk S g) (ts : List Tried) (asked : List (S × Vec Entry)) (v : TrialState) → Known d ts asked v → state_of d' ≡ state_of d → (HasNumbers d.roster d.counters.items → HasNumbers d'.roster d'.counters.items) → (IsSure may_give d → IsRight d') → Known d' ts (asked ++ asking d ∷ []) v
  known_asked d d' ts asked v k same numbers right =
      let roster : d'.roster ≡ d.roster = ap (λ (x : DeskState). x.roster) same in
      record {
        seen = subst (λ x. Seen x ts v) (sym same) k.seen;
        numbers = numbers k.numbers;
        numbered = numbered_still d d' ts roster k.numbered;
        right = λ clear. right (sure d ts asked v k (subst (λ ro. NoneMixed may_give ro (asked ++ asking d ∷ [])) roster clear));
        back = λ clear. back_asked d ts asked v k (subst (λ ro. NoneMixed may_give ro (asked ++ asking d ∷ [])) roster clear);
      }

  -- one entry more stands ready
  pub known_more : (d d' : Desk S g) (ts : List Tried) (asked : List (S × Vec Entry)) (v : TrialState) (e : Entry) (t : Tried) → Known d ts asked v → state_of d' ≡ with_entry (state_of d) e
      → (HasNumbers d.roster d.counters.items → HasNumbers d'.roster d'.counters.items) → (HasNumbers d.roster d.counters.items → HasNumbers d.roster t.versions.items)
      → (IsSure may_give d → IsRight d') → (IsSure may_give d → TakesBack (state_of d) e t)
      → Known d' (ts ++ t ∷ []) (asked ++ asking d ∷ []) (record { settled = v.settled; ready = v.ready ++ e ∷ [] })
  known_more d d' ts asked v e t k is numbers one right back =
      let roster : d'.roster ≡ d.roster = ap (λ (x : DeskState). x.roster) is in
      record {
        seen = seen_more (state_of d) (state_of d') ts v e t k.seen is;
        numbers = numbers k.numbers;
        numbered = numbered_still d d' (ts ++ t ∷ []) roster (all_with (λ (u : Tried). HasNumbers d.roster u.versions.items) ts t k.numbered (one k.numbers));
        right = λ clear. right (sure d ts asked v k (subst (λ ro. NoneMixed may_give ro (asked ++ asking d ∷ [])) roster clear));
        back = λ clear.
            let clear' = subst (λ ro. NoneMixed may_give ro (asked ++ asking d ∷ [])) roster clear in
            also_back (state_of d) ts v e t k.seen (back_asked d ts asked v k clear') (back (sure d ts asked v k clear'));
      }

  -- one less does
  pub takes_last : (d : Desk S g) (ts : List Tried) (t : Tried) (asked : List (S × Vec Entry)) (v : TrialState) → Known d (ts ++ t ∷ []) asked v → NoneMixed may_give d.roster (asked ++ asking d ∷ []) → TakesLastBack (state_of d) t
  takes_last d ts t asked v k clear = (last_back (state_of d) ts t v k.seen (back_asked d (ts ++ t ∷ []) asked v k clear)).last

  pub known_less : (d d' : Desk S g) (ts : List Tried) (t : Tried) (asked : List (S × Vec Entry)) (v : TrialState) → Known d (ts ++ t ∷ []) asked v → state_of d' ≡ before_last (state_of d)
      → (HasNumbers d.roster d.counters.items → HasNumbers d.roster t.versions.items → HasNumbers d'.roster d'.counters.items)
      → (IsSure may_give d → TakesLastBack (state_of d) t → IsRight d')
      → Known d' ts (asked ++ asking d ∷ []) (without_last v)
  known_less d d' ts t asked v k is numbers right =
      let roster : d'.roster ≡ d.roster = ap (λ (x : DeskState). x.roster) is in
      record {
        seen = subst (λ x. Seen x ts (without_last v)) (sym is) (seen_less (state_of d) ts t v k.seen);
        numbers = numbers k.numbers (all_before (λ (u : Tried). HasNumbers d.roster u.versions.items) ts t k.numbered).1;
        numbered = numbered_still d d' ts roster (all_before (λ (u : Tried). HasNumbers d.roster u.versions.items) ts t k.numbered).0;
        right = λ clear.
            let clear' = subst (λ ro. NoneMixed may_give ro (asked ++ asking d ∷ [])) roster clear in
            right (sure d (ts ++ t ∷ []) asked v k clear') (takes_last d ts t asked v k clear');
        back = λ clear.
            let clear' = subst (λ ro. NoneMixed may_give ro (asked ++ asking d ∷ [])) roster clear in
            (last_back (state_of d) ts t v k.seen (back_asked d (ts ++ t ∷ []) asked v k clear')).before;
      }

  -- the last one isn't taken back
  pub known_kept : (d d' : Desk S g) (ts : List Tried) (t : Tried) (asked : List (S × Vec Entry)) (v : TrialState) → Known d (ts ++ t ∷ []) asked v → state_of d' ≡ state_of d
      → (HasNumbers d.roster d.counters.items → HasNumbers d.roster t.versions.items → HasNumbers d'.roster d'.counters.items)
      → (IsSure may_give d → TakesLastBack (state_of d) t → IsRight d')
      → Known d' (ts ++ t ∷ []) (asked ++ asking d ∷ []) v
  known_kept d d' ts t asked v k same numbers right =
      let roster : d'.roster ≡ d.roster = ap (λ (x : DeskState). x.roster) same in
      record {
        seen = subst (λ x. Seen x (ts ++ t ∷ []) v) (sym same) k.seen;
        numbers = numbers k.numbers (all_before (λ (u : Tried). HasNumbers d.roster u.versions.items) ts t k.numbered).1;
        numbered = numbered_still d d' (ts ++ t ∷ []) roster k.numbered;
        right = λ clear.
            let clear' = subst (λ ro. NoneMixed may_give ro (asked ++ asking d ∷ [])) roster clear in
            right (sure d (ts ++ t ∷ []) asked v k clear') (takes_last d ts t asked v k clear');
        back = λ clear. back_asked d (ts ++ t ∷ []) asked v k (subst (λ ro. NoneMixed may_give ro (asked ++ asking d ∷ [])) roster clear);
      }

  -- ---- a change is attempted, and it is noted before that the store is asked

  pub was_sure : (d d' : Desk S g) (ts : List Tried) (asked asked' : List (S × Vec Entry)) (v : TrialState) → Known d ts asked v → asked' ≡ asked ++ asking d ∷ [] → d'.roster ≡ d.roster → NoneMixed may_give d'.roster asked' → IsSure may_give d
  was_sure d d' ts asked asked' v k more roster clear = sure d ts asked v k (subst (λ l. NoneMixed may_give d.roster l) more (subst (λ ro. NoneMixed may_give ro asked') roster clear))

  pub was_clear : (d d' : Desk S g) (asked asked' : List (S × Vec Entry)) → asked' ≡ asked ++ asking d ∷ [] → d'.roster ≡ d.roster → NoneMixed may_give d'.roster asked' → NoneMixed may_give d.roster asked
  was_clear d d' asked asked' more roster clear = (less_clear may_give d'.roster d.roster asked' asked (asking d) roster more clear).0

  -- it was made
  pub known_made : (d d' : Desk S g) (ts ts' : List Tried) (asked asked' : List (S × Vec Entry)) (v : TrialState) (e : Entry) (t : Tried) → Known d ts asked v → ts' ≡ ts ++ t ∷ [] → asked' ≡ asked ++ asking d ∷ []
      → state_of d' ≡ with_entry (state_of d) e
      → (HasNumbers d.roster d.counters.items → HasNumbers d'.roster d'.counters.items) → (HasNumbers d.roster d.counters.items → HasNumbers d.roster t.versions.items)
      → (IsSure may_give d → IsRight d') → (IsSure may_give d → TakesBack (state_of d) e t)
      → Known d' ts' asked' (record { settled = v.settled; ready = v.ready ++ e ∷ [] })
  known_made d d' ts ts' asked asked' v e t k ready more is numbers one right back =
      subst (λ l. Known d' ts' l (record { settled = v.settled; ready = v.ready ++ e ∷ [] })) (sym more)
      (subst (λ us. Known d' us (asked ++ asking d ∷ []) (record { settled = v.settled; ready = v.ready ++ e ∷ [] })) (sym ready)
      (known_more d d' ts asked v e t k is numbers one right back))

  -- it was refused, or something else was asked
  pub known_refused : (d d' : Desk S g) (ts ts' : List Tried) (asked asked' : List (S × Vec Entry)) (v : TrialState) → Known d ts asked v → ts' ≡ ts → asked' ≡ asked ++ asking d ∷ []
      → state_of d' ≡ state_of d → (HasNumbers d.roster d.counters.items → HasNumbers d'.roster d'.counters.items) → (IsSure may_give d → IsRight d') → Known d' ts' asked' v
  known_refused d d' ts ts' asked asked' v k same more is numbers right =
      subst (λ l. Known d' ts' l v) (sym more) (subst (λ us. Known d' us (asked ++ asking d ∷ []) v) (sym same) (known_asked d d' ts asked v k is numbers right))
