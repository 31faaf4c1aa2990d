-- An operation among what a desk keeps, by its number, and what stands in its way there.
use Rattle.std.proofs.Common.{◌≡◌, ℕ, ◌<◌, ◌≤◌, ◌||◌, ◌&&◌, Bool, true, false, cond, List, [], ◌∷◌, ◌++◌, nat_eq, nat_lt, Option, Some, None, IsSome, refl, sym, ap, ◌∙◌, subst, arith}
use Rattle.std.specs.List.{filter, list_any, AllByRecursion}
use Rattle.std.specs.Option.{option_map, option_or}
use Rattle.std.proofs.lemmas.Bool.{both_ways}
use Rattle.su_bytes.specs.Membership.{Membership}
use Rattle.su_table.specs.Tree.{Tree}
use Rattle.su_op.specs.declared.areas.Area.{Area}
use Rattle.su_op.specs.Area.{meet}
use Rattle.su_part_inverse.specs.declared.inverses.Inverse.{Inverse}
use Rattle.su_live.specs.Live.{find_live, insert_live, last_reader, live_blocker, with_inverse, without, Ascend}
use Rattle.su_live.proofs.Public.{AllAbove, AllBelow, found_number, is_there, live_blocker-there}
use Rattle.su_desk.specs.declared.entries.Entry.{Entry}
use Rattle.su_desk.specs.History.{NumberedAction, last_number, live}
use Rattle.su_desk.specs.Applied.{reads_where_applied, written_by}
use Rattle.su_desk.specs.Blocker.{reads_after, blocker}
use Rattle.su_desk.specs.Answer.{live_refusal}
use Rattle.su_stored_desk.specs.Keeping.{Keeps, KeptOperation}
use Rattle.su_desk.proofs.Operations.{Rising, rising_live, rising_after}
use Rattle.su_desk.proofs.LiveNumbers.{live_number, live_alone}
use Rattle.su_desk.proofs.Blockers.{front_dropped}
use Rattle.su_stored_desk.proofs.KeptOperations.{AreAsApplied, applied, part, written_kept}

-- ---- the numbers of what is kept ascend

above : (ro : Membership) (h : List Entry) (low m : ℕ) (ts : List NumberedAction) (ks : List KeptOperation) → low ≤ m → Rising m ts → AreAsApplied ro h ts ks → AllAbove low ks
above ro h low m [] [] le r a = tt
above ro h low m (t ∷ ts) (k ∷ ks) le (first, r) (is, a) = (let e = is.number in omega arith, above ro h low t.number ts ks (omega arith) r a)
above ro h low m [] (k ∷ ks) le r a = absurd a
above ro h low m (t ∷ ts) [] le r a = absurd a

ascending : (ro : Membership) (h : List Entry) (low : ℕ) (ts : List NumberedAction) (ks : List KeptOperation) → Rising low ts → AreAsApplied ro h ts ks → Ascend ks
ascending ro h low [] [] r a = tt
ascending ro h low (t ∷ ts) (k ∷ ks) (first, r) (is, a) = (above ro h k.number t.number ts ks (let e = is.number in omega arith) r a, ascending ro h t.number ts ks r a)
ascending ro h low [] (k ∷ ks) r a = absurd a
ascending ro h low (t ∷ ts) [] r a = absurd a

pub kept_ascend : (ro : Membership) (h : List Entry) (ks : List KeptOperation) (T : Tree) → Keeps ro h ks T → Ascend ks
kept_ascend ro h ks T keeps = ascending ro h 0 (live h) ks (rising_live h) (applied ro h ks T keeps)

at_seam : (n : ℕ) (front rest : List KeptOperation) (k : KeptOperation) → AllByRecursion (λ (j : KeptOperation). n < j.number) (front ++ k ∷ rest) → n < k.number
at_seam n [] rest k all = all.0
at_seam n (j ∷ front) rest k all = at_seam n front rest k all.1

-- those in front have lower numbers
pub all_below : (front rest : List KeptOperation) (k : KeptOperation) → Ascend (front ++ k ∷ rest) → AllBelow k.number front
all_below [] rest k up = tt
all_below (j ∷ front) rest k up = (at_seam j.number front rest k up.0, all_below front rest k up.1)

-- and those behind greater ones
pub all_above : (front rest : List KeptOperation) (k : KeptOperation) → Ascend (front ++ k ∷ rest) → AllAbove k.number rest
all_above [] rest k up = up.0
all_above (j ∷ front) rest k up = all_above front rest k up.1

-- what is found stands among the others
pub record Among (n : ℕ) (ks : List KeptOperation) (k : KeptOperation) : Type 0 where
  pub front : List KeptOperation
  pub rest : List KeptOperation
  pub whole : ks ≡ front ++ k ∷ rest

pub among : (n : ℕ) (ks : List KeptOperation) (k : KeptOperation) → find_live n ks ≡ Some k → Among n ks k
among n [] k found = absurd (let bad : None ≡ Some k = found in cc)
among n (j ∷ js) k found = go (nat_eq j.number n) found (among n js k)
  where
    go : (b : Bool) → cond b (Some j) (find_live n js) ≡ Some k → (find_live n js ≡ Some k → Among n js k) → Among n (j ∷ js) k
    go true is later = let same : j ≡ k = cc in record { front = []; rest = js; whole = ap (λ (x : KeptOperation). x ∷ js) same }
    go false is later = let r = later is in record { front = j ∷ r.front; rest = r.rest; whole = ap (λ xs. j ∷ xs) r.whole }

-- ---- what stands in the way

none_later : {A : Type 0} (o : Option A) → option_or o None ≡ o
none_later None = refl
none_later (Some x) = refl

later_readers : (ro : Membership) (h : List Entry) (n low : ℕ) (w : List Area) (ts : List NumberedAction) (ks : List KeptOperation) → n ≤ low → w ≡ written_by ro h n → Rising low ts → AreAsApplied ro h ts ks
    → last_reader w ks ≡ last_number (filter (reads_after ro h n) ts)
later_readers ro h n low w [] [] le is r a = refl
later_readers ro h n low w (t ∷ ts) (k ∷ ks) le is (l, r) (fits, a) =
    ap (λ b. option_or (last_reader w ks) (cond b (Some k.number) None)) same
    ∙ ap (λ m. option_or (last_reader w ks) (cond (reads_after ro h n t) (Some m) None)) fits.number
    ∙ ap (λ o. option_or o (cond (reads_after ro h n t) (Some t.number) None)) (later_readers ro h n t.number w ts ks (omega arith) is r a)
    ∙ go (reads_after ro h n t)
  where
    same : meet k.footprint.reads.items w ≡ reads_after ro h n t
    same = let after : nat_lt n t.number ≡ true = grind arith in
        ap (λ u. meet u w) fits.reads ∙ ap (meet (reads_where_applied ro h t)) is ∙ ap (λ b. b && meet (reads_where_applied ro h t) (written_by ro h n)) (sym after)

    go : (b : Bool) → option_or (last_number (filter (reads_after ro h n) ts)) (cond b (Some t.number) None) ≡ last_number (cond b (t ∷ filter (reads_after ro h n) ts) (filter (reads_after ro h n) ts))
    go true = refl
    go false = none_later (last_number (filter (reads_after ro h n) ts))
later_readers ro h n low w [] (k ∷ ks) le is r a = absurd a
later_readers ro h n low w (t ∷ ts) [] le is r a = absurd a

-- of what is kept after an operation, the last that read what it wrote is its blocker
pub blocker_there : (ro : Membership) (h : List Entry) (front rest : List KeptOperation) (k : KeptOperation) (T : Tree) (n : ℕ) → Keeps ro h (front ++ k ∷ rest) T → k.number ≡ n → last_reader k.footprint.writes.items rest ≡ blocker ro h n
blocker_there ro h front rest k T n keeps number =
    let p = part ro h (live h) front k rest (applied ro h (front ++ k ∷ rest) T keeps) in
    let named : n ≡ p.operation.number = sym number ∙ p.here.number in
    let rising = subst (Rising 0) p.whole (rising_live h) in
    later_readers ro h p.operation.number p.operation.number k.footprint.writes.items p.after rest (omega arith) (written_kept ro h p.operation k p.operation.number p.here refl) (rising_after 0 p.before p.after p.operation rising) p.later
    ∙ ap last_number (sym (front_dropped ro h 0 p.before p.after p.operation rising) ∙ ap (filter (reads_after ro h p.operation.number)) (sym p.whole))
    ∙ ap (blocker ro h) (sym named)

-- ---- which are live

-- what is kept is live
pub live_there : (ro : Membership) (h : List Entry) (front rest : List KeptOperation) (k : KeptOperation) (T : Tree) (n : ℕ) → Keeps ro h (front ++ k ∷ rest) T → k.number ≡ n → live_refusal h n ≡ None
live_there ro h front rest k T n keeps number =
    let p = part ro h (live h) front k rest (applied ro h (front ++ k ∷ rest) T keeps) in
    let named : p.operation.number ≡ n = sym p.here.number ∙ number in
    subst (λ m. live_refusal h m ≡ None) named (live_alone h p.before p.after p.operation p.whole p.here.entry)

numbers_alike : (ro : Membership) (h : List Entry) (n : ℕ) (ts : List NumberedAction) (ks : List KeptOperation) → AreAsApplied ro h ts ks → list_any (λ (k : KeptOperation). nat_eq k.number n) ks ≡ list_any (λ (t : NumberedAction). nat_eq t.number n) ts
numbers_alike ro h n [] [] a = refl
numbers_alike ro h n (t ∷ ts) (k ∷ ks) (is, a) = λ i. nat_eq (is.number i) n || numbers_alike ro h n ts ks a i
numbers_alike ro h n [] (k ∷ ks) a = absurd a
numbers_alike ro h n (t ∷ ts) [] a = absurd a

-- of a live number something is kept
pub kept_there : (ro : Membership) (h : List Entry) (ks : List KeptOperation) (T : Tree) (n : ℕ) → Keeps ro h ks T → live_refusal h n ≡ None → list_any (λ (k : KeptOperation). nat_eq k.number n) ks ≡ true
kept_there ro h ks T n keeps e = numbers_alike ro h n (live h) ks (applied ro h ks T keeps) ∙ live_number h n e

none_has : (n : ℕ) (ks : List KeptOperation) → find_live n ks ≡ None → list_any (λ (k : KeptOperation). nat_eq k.number n) ks ≡ false
none_has n [] none = refl
none_has n (k ∷ ks) none = go (nat_eq k.number n) none (none_has n ks)
  where
    go : (b : Bool) → cond b (Some k) (find_live n ks) ≡ None → (find_live n ks ≡ None → list_any (λ (k : KeptOperation). nat_eq k.number n) ks ≡ false) → (b || list_any (λ (k : KeptOperation). nat_eq k.number n) ks) ≡ false
    go true is later = absurd (let bad : Some k ≡ None = is in cc)
    go false is later = later is

-- where nothing is found, nothing is live
pub none_kept_live : {P : Type 0} (ro : Membership) (h : List Entry) (ks : List KeptOperation) (T : Tree) (n : ℕ) → Keeps ro h ks T → live_refusal h n ≡ None → find_live n ks ≡ None → P
none_kept_live ro h ks T n keeps stands none = absurd (both_ways (list_any (λ (k : KeptOperation). nat_eq k.number n) ks) (none_has n ks none) (kept_there ro h ks T n keeps stands))

-- ---- what is found

-- what is found is live
pub found_live : (ro : Membership) (h : List Entry) (ks : List KeptOperation) (T : Tree) (n : ℕ) → Keeps ro h ks T → IsSome (find_live n ks) → live_refusal h n ≡ None
found_live ro h ks T n keeps some =
    let there = is_there n ks some in
    let a = among n ks there.operation there.found in
    live_there ro h a.front a.rest there.operation T n (subst (λ xs. Keeps ro h xs T) a.whole keeps) (found_number n there.operation ks there.found)

-- and the last behind it that read what it wrote is its blocker
pub blocker_kept : (ro : Membership) (h : List Entry) (ks : List KeptOperation) (T : Tree) (n : ℕ) → Keeps ro h ks T → IsSome (find_live n ks) → live_blocker n ks ≡ blocker ro h n
blocker_kept ro h ks T n keeps some =
    let there = is_there n ks some in
    let k = there.operation in
    let a = among n ks k there.found in
    let whole = subst (λ xs. Keeps ro h xs T) a.whole keeps in
    let number = found_number n k ks there.found in
    let below = all_below a.front a.rest k (kept_ascend ro h (a.front ++ k ∷ a.rest) T whole) in
    ap (live_blocker n) a.whole
    ∙ live_blocker-there n a.front k a.rest (subst (λ m. AllBelow m a.front) number below) number
    ∙ blocker_there ro h a.front a.rest k T n whole number

-- ---- another inverse in its place

-- what was taken from its place is that of the operation that is found
pub record IsOf (n : ℕ) (ks : List KeptOperation) (i : Inverse) : Type 0 where
  pub operation : KeptOperation
  pub found : find_live n ks ≡ Some operation
  pub same : i ≡ operation.inverse

pub taken : (n : ℕ) (ks : List KeptOperation) (i : Inverse) → Some i ≡ option_map (λ (k : KeptOperation). k.inverse) (find_live n ks) → IsOf n ks i
taken n ks i is = go (find_live n ks) refl is
  where
    go : (o : Option KeptOperation) → find_live n ks ≡ o → Some i ≡ option_map (λ (k : KeptOperation). k.inverse) o → IsOf n ks i
    go None there bad = absurd (let never : Some i ≡ None = bad in cc)
    go (Some k) there e = record { operation = k; found = there; same = let same : i ≡ k.inverse = cc in same }

pub none_taken : (n : ℕ) (ks : List KeptOperation) → None ≡ option_map (λ (k : KeptOperation). k.inverse) (find_live n ks) → find_live n ks ≡ None
none_taken n ks is = go (find_live n ks) refl is
  where
    go : (o : Option KeptOperation) → find_live n ks ≡ o → None ≡ option_map (λ (k : KeptOperation). k.inverse) o → find_live n ks ≡ None
    go None there e = there
    go (Some k) there bad = absurd (let never : None ≡ Some k.inverse = bad in cc)

-- the last that is put in the place of one stays
pub put_twice : (n : ℕ) (i j : Inverse) (ks : List KeptOperation) → with_inverse n j (with_inverse n i ks) ≡ with_inverse n j ks
put_twice n i j [] = refl
put_twice n i j (k ∷ ks) = go (nat_eq k.number n) refl (put_twice n i j ks)
  where
    go : (b : Bool) → nat_eq k.number n ≡ b → with_inverse n j (with_inverse n i ks) ≡ with_inverse n j ks
        → with_inverse n j (cond b (record k { inverse = i } ∷ ks) (k ∷ with_inverse n i ks)) ≡ cond b (record k { inverse = j } ∷ ks) (k ∷ with_inverse n j ks)
    go true is later = ap (λ b. cond b (record k { inverse = j } ∷ ks) (record k { inverse = i } ∷ with_inverse n j ks)) is
    go false is later = ap (λ b. cond b (record k { inverse = j } ∷ with_inverse n i ks) (k ∷ with_inverse n j (with_inverse n i ks))) is ∙ ap (λ xs. k ∷ xs) later

-- its own is as if none had been put
pub put_own : (n : ℕ) (ks : List KeptOperation) (k : KeptOperation) → find_live n ks ≡ Some k → with_inverse n k.inverse ks ≡ ks
put_own n [] k found = refl
put_own n (j ∷ js) k found = go (nat_eq j.number n) found (put_own n js k)
  where
    go : (b : Bool) → cond b (Some j) (find_live n js) ≡ Some k → (find_live n js ≡ Some k → with_inverse n k.inverse js ≡ js) → cond b (record j { inverse = k.inverse } ∷ js) (j ∷ with_inverse n k.inverse js) ≡ j ∷ js
    go true is later = let same : j ≡ k = cc in ap (λ (x : KeptOperation). record j { inverse = x.inverse } ∷ js) (sym same)
    go false is later = ap (λ xs. j ∷ xs) (later is)

-- ---- one more, and without it again

pub insert_found : (k : KeptOperation) (ks : List KeptOperation) → find_live k.number ks ≡ None → (find_live k.number (insert_live k ks) ≡ Some k) × (without k.number (insert_live k ks) ≡ ks)
insert_found k [] none = (ap (λ b. cond b (Some k) None) (itself k.number), ap (λ b. cond b [] (k ∷ [])) (itself k.number))
  where
    itself : (n : ℕ) → nat_eq n n ≡ true
    itself n = grind arith
insert_found k (j ∷ js) none = go (nat_lt k.number j.number) (insert_found k js)
  where
    itself : (n : ℕ) → nat_eq n n ≡ true
    itself n = grind arith

    other : (b : Bool) → cond b (Some j) (find_live k.number js) ≡ None → (b ≡ false) × (find_live k.number js ≡ None)
    other true is = absurd (let bad : Some j ≡ None = is in cc)
    other false is = (refl, is)

    go : (b : Bool) → (find_live k.number js ≡ None → (find_live k.number (insert_live k js) ≡ Some k) × (without k.number (insert_live k js) ≡ js))
        → (find_live k.number (cond b (k ∷ j ∷ js) (j ∷ insert_live k js)) ≡ Some k) × (without k.number (cond b (k ∷ j ∷ js) (j ∷ insert_live k js)) ≡ j ∷ js)
    go true later = (ap (λ b. cond b (Some k) (find_live k.number (j ∷ js))) (itself k.number), ap (λ b. cond b (j ∷ js) (k ∷ without k.number (j ∷ js))) (itself k.number))
    go false later =
        let o = other (nat_eq j.number k.number) none in
        let r = later o.1 in (
          ap (λ b. cond b (Some j) (find_live k.number (insert_live k js))) o.0 ∙ r.0,
          ap (λ b. cond b (insert_live k js) (j ∷ without k.number (insert_live k js))) o.0 ∙ ap (λ xs. j ∷ xs) r.1,
        )
