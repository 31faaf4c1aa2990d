-- What stands ready on a desk: the entries that are seen behind what is settled, and what takes
-- each of them back. What is seen goes by how many stand ready alone.
use Rattle.std.proofs.Common.{◌≡◌, ℕ, ◌+◌, ◌-◌, ◌<◌, ◌≤◌, List, [], ◌∷◌, ◌++◌, length, length-append, take, drop, slice_get, Some, None, refl, sym, ap, ◌∙◌, subst, arith, append_assoc, append-nil}
use Rattle.std.proofs.Math.Seq.{take-append_seam, drop-append_seam, take-append-add}
use Rattle.std.proofs.lemmas.List.{take-append-drop, length-drop, length-take-le, nil_from_length}
use Rattle.su_desk.specs.declared.entries.Entry.{Entry}
use Rattle.su_stored_desk.specs.declared.prepared.Tried.{Tried}
use Rattle.su_desk.specs.Desk.{DeskState, with_entry}
use Rattle.su_desk.specs.Version.{versions}
use Rattle.su_desk.specs.Trial.{TrialState, with_ready, without_last, before_last, split_before}
use Rattle.su_stored_desk.specs.Tried.{TakesBack, TakesLastBack, TakeAllBack, TriedFits, seen_of}
use Rattle.su_stored_desk.proofs.TrialLemmas.{all_but_last}

-- ---- a desk with entries behind it

pub with_none : (d : DeskState) → with_ready d [] ≡ d
with_none d = ap (λ (h : List Entry). record { roster = d.roster; history = h }) (append-nil d.history)

with_first : (d : DeskState) (e : Entry) (es : List Entry) → with_ready (with_entry d e) es ≡ with_ready d (e ∷ es)
with_first d e es = ap (λ (h : List Entry). record { roster = d.roster; history = h }) (append_assoc d.history (e ∷ []) es)

pub with_more : (d : DeskState) (es : List Entry) (e : Entry) → with_ready d (es ++ e ∷ []) ≡ with_entry (with_ready d es) e
with_more d es e = ap (λ (h : List Entry). record { roster = d.roster; history = h }) (sym (append_assoc d.history es (e ∷ [])))

-- ---- what is seen

-- v is seen of a desk of which so many of the last entries stand ready
pub record Seen (s : DeskState) (ts : List Tried) (v : TrialState) : Type 0 where
  pub whole : s ≡ with_ready v.settled v.ready
  pub many : length v.ready ≡ length ts

pub seen : (s : DeskState) (ts : List Tried) (v : TrialState) → length ts ≤ length s.history → seen_of s ts ≡ v → Seen s ts v
seen s ts v few e = subst (Seen s ts) e
    (record {
      whole = ap (λ (h : List Entry). record { roster = s.roster; history = h }) (sym (take-append-drop (length s.history - length ts) s.history));
      many = let long = length-drop (length s.history - length ts) s.history in omega arith;
    })

split_seen : (d : DeskState) (es : List Entry) (n : ℕ) → length es ≡ n → split_before (with_ready d es) n ≡ record { settled = d; ready = es }
split_seen d es n same =
    let long = length-append d.history es in
    let before : length (d.history ++ es) - n ≡ length d.history = omega arith in
    ap (λ m. record { settled = record { roster = d.roster; history = take m (d.history ++ es) }; ready = drop m (d.history ++ es) }) before
    ∙ ap (λ (h : List Entry). record { settled = record { roster = d.roster; history = h }; ready = drop (length d.history) (d.history ++ es) }) (take-append_seam d.history es)
    ∙ ap (λ (h : List Entry). record { settled = d; ready = h }) (drop-append_seam d.history es)

pub seen_so : (s : DeskState) (ts : List Tried) (v : TrialState) → Seen s ts v → seen_of s ts ≡ v
seen_so s ts v there = ap (λ (x : DeskState). split_before x (length ts)) there.whole ∙ split_seen v.settled v.ready (length ts) there.many

-- no more stand ready than there are
pub few : (s : DeskState) (ts : List Tried) (v : TrialState) → Seen s ts v → length ts ≤ length s.history
few s ts v there =
    let all = ap (λ (x : DeskState). length x.history) there.whole ∙ length-append v.settled.history v.ready in
    let many = there.many in
    omega arith

-- where nothing stands ready, the desk is what is settled
pub alone : (s : DeskState) (ts : List Tried) (v : TrialState) → Seen s ts v → v.ready ≡ [] → s ≡ v.settled
alone s ts v there none = there.whole ∙ ap (with_ready v.settled) none ∙ with_none v.settled

-- which it is where nothing takes an entry back
pub none_ready : (s : DeskState) (ts : List Tried) (v : TrialState) → Seen s ts v → ts ≡ [] → v.ready ≡ []
none_ready s ts v there none = nil_from_length v.ready (there.many ∙ ap length none)

-- one more stands ready
pub seen_more : (s s' : DeskState) (ts : List Tried) (v : TrialState) (e : Entry) (t : Tried) → Seen s ts v → s' ≡ with_entry s e → Seen s' (ts ++ t ∷ []) (record { settled = v.settled; ready = v.ready ++ e ∷ [] })
seen_more s s' ts v e t there is = record {
  whole = is ∙ ap (λ (x : DeskState). with_entry x e) there.whole ∙ sym (with_more v.settled v.ready e);
  many = length-append v.ready (e ∷ []) ∙ ap (λ n. n + 1) there.many ∙ sym (length-append ts (t ∷ []));
}

-- without the last of some elements, behind others
less_behind : {A : Type 0} (xs ys : List A) → 0 < length ys → take (length (xs ++ ys) - 1) (xs ++ ys) ≡ xs ++ take (length ys - 1) ys
less_behind xs ys some =
    let long = length-append xs ys in
    let before : length (xs ++ ys) - 1 ≡ length xs + (length ys - 1) = omega arith in
    ap (λ n. take n (xs ++ ys)) before ∙ take-append-add xs ys (length ys - 1)

less_long : {A : Type 0} (xs : List A) (n : ℕ) → length xs ≡ n + 1 → length (take (length xs - 1) xs) ≡ n
less_long xs n long =
    let within : length xs - 1 ≤ length xs = omega arith in
    let less : length xs - 1 ≡ n = omega arith in
    length-take-le (length xs - 1) xs within ∙ less

-- the last one is taken back
pub seen_less : (s : DeskState) (ts : List Tried) (t : Tried) (v : TrialState) → Seen s (ts ++ t ∷ []) v → Seen (before_last s) ts (without_last v)
seen_less s ts t v there =
    let long : length v.ready ≡ length ts + 1 = there.many ∙ length-append ts (t ∷ []) in
    let some : 0 < length v.ready = omega arith in
    record {
      whole = ap before_last there.whole ∙ ap (λ (h : List Entry). record { roster = v.settled.roster; history = h }) (less_behind v.settled.history v.ready some);
      many = less_long v.ready (length ts) long;
    }

-- ---- each entry is taken back by its own

-- one more, made last
back_more : (d : DeskState) (es : List Entry) (ts : List Tried) (e : Entry) (t : Tried) → TakeAllBack d es ts → TakesBack (with_ready d es) e t → TakeAllBack d (es ++ e ∷ []) (ts ++ t ∷ [])
back_more d [] [] e t back last = (subst (λ (x : DeskState). TakesBack x e t) (with_none d) last, tt)
back_more d (f ∷ es) (u ∷ ts) e t (first, rest) last = (
  first,
  back_more (with_entry d f) es ts e t rest (subst (λ (x : DeskState). TakesBack x e t) (sym (with_first d f es)) last),
)
back_more d [] (u ∷ ts) e t back last = absurd back
back_more d (f ∷ es) [] e t back last = absurd back

-- the last of the entries, and those before it
record AllButLast (d : DeskState) (es : List Entry) (ts : List Tried) (t : Tried) : Type 0 where
  pub earlier : List Entry
  pub entry : Entry
  pub whole : es ≡ earlier ++ entry ∷ []
  pub back : TakeAllBack d earlier ts
  pub last : TakesBack (with_ready d earlier) entry t

back_less : (d : DeskState) (es : List Entry) (ts : List Tried) (t : Tried) → TakeAllBack d es (ts ++ t ∷ []) → AllButLast d es ts t
back_less d (e ∷ []) [] t (last, rest) = record {
  earlier = [];
  entry = e;
  whole = refl;
  back = tt;
  last = subst (λ (x : DeskState). TakesBack x e t) (sym (with_none d)) last;
}
back_less d (e ∷ es) (u ∷ ts) t (first, rest) =
    let l = back_less (with_entry d e) es ts t rest in record {
      earlier = e ∷ l.earlier;
      entry = l.entry;
      whole = ap (λ xs. e ∷ xs) l.whole;
      back = (first, l.back);
      last = subst (λ (x : DeskState). TakesBack x l.entry t) (with_first d e l.earlier) l.last;
    }
back_less d [] [] t back = absurd back
back_less d [] (u ∷ ts) t back = absurd back
back_less d (e ∷ f ∷ es) [] t (last, rest) = absurd rest

-- these are taken back by what is kept
pub back_so : (s : DeskState) (ts : List Tried) (v : TrialState) → seen_of s ts ≡ v → TriedFits s ts → TakeAllBack v.settled v.ready ts
back_so s ts v e fits = subst (λ (x : TrialState). TakeAllBack x.settled x.ready ts) e fits

pub fits_so : (s : DeskState) (ts : List Tried) (v : TrialState) → Seen s ts v → TakeAllBack v.settled v.ready ts → TriedFits s ts
fits_so s ts v there back = subst (λ (x : TrialState). TakeAllBack x.settled x.ready ts) (sym (seen_so s ts v there)) back

-- and so is one more
pub also_back : (s : DeskState) (ts : List Tried) (v : TrialState) (e : Entry) (t : Tried) → Seen s ts v → TakeAllBack v.settled v.ready ts → TakesBack s e t → TakeAllBack v.settled (v.ready ++ e ∷ []) (ts ++ t ∷ [])
also_back s ts v e t there back last = back_more v.settled v.ready ts e t back (subst (λ (x : DeskState). TakesBack x e t) there.whole last)

-- the last one is taken back by its own, and those before it by theirs
pub record LastBack (s : DeskState) (ts : List Tried) (t : Tried) (v : TrialState) : Type 0 where
  pub last : TakesLastBack s t
  pub before : TakeAllBack v.settled (without_last v).ready ts

pub last_back : (s : DeskState) (ts : List Tried) (t : Tried) (v : TrialState) → Seen s (ts ++ t ∷ []) v → TakeAllBack v.settled v.ready (ts ++ t ∷ []) → LastBack s ts t v
last_back s ts t v there back =
    let l = back_less v.settled v.ready ts t back in
    let d : DeskState = with_ready v.settled l.earlier in
    let is : s ≡ with_entry d l.entry = there.whole ∙ ap (with_ready v.settled) l.whole ∙ with_more v.settled l.earlier l.entry in
    let earlier : l.earlier ≡ (without_last v).ready = sym (ap (λ (es : List Entry). take (length es - 1) es) l.whole ∙ all_but_last l.earlier l.entry) in record {
      last = (d, l.entry, is, l.last);
      before = subst (λ (es : List Entry). TakeAllBack v.settled es ts) earlier l.back;
    }

-- the version numbers of what is settled are kept with the first
pub settled_versions : (d : DeskState) (es : List Entry) (ts : List Tried) (t : Tried) → TakeAllBack d es ts → slice_get ts 0 ≡ Some t → t.versions.items ≡ versions d.roster d.history
settled_versions d (e ∷ es) (u ∷ ts) t (first, rest) is =
    let same : u ≡ t = cc in ap (λ (x : Tried). x.versions.items) (sym same) ∙ first.versions
settled_versions d [] [] t back is = absurd (let bad : None ≡ Some t = is in cc)
settled_versions d (e ∷ es) [] t back is = absurd back
settled_versions d [] (u ∷ ts) t back is = absurd back
