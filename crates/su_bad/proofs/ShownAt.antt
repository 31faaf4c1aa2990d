-- What is shown under a number, read from the list of records.
use Rattle.std.proofs.Common.{◌≡◌, ◌∙◌, ◌≢◌, ◌<◌, ◌≤◌, ℕ, ◌-◌, arith, ◌&&◌, Bool, true, false, List, [], ◌∷◌, ◌++◌, length, take, refl, sym}
use Rattle.std.specs.Prelude.{Option, None, nat_le, if◌then◌else◌, slice_index_or, slice_set}
use Rattle.std.specs.List.{swap}
use Rattle.std.proofs.lemmas.Bool.{leb-true, leb-false}
use Rattle.std.proofs.lemmas.List.{get_or_past, get_or-take, get_or_append_left, get_or-set_other, length-take}
use Rattle.su_bad.specs.declared.steps.Step.{Step}
use Rattle.su_bad.specs.declared.steps.Step.TheVariants.{RollBack, Fork, Swap, Drop, Forge, WrongBlock, Mute}
use Rattle.su_bad.specs.Script.{Records, IsSpared, after, exchanged, forged, shown_at, with_record}
use Rattle.su_bad.specs.Shown.{Shown}

-- the record at a place, if there is one
abbrev pub at : Records → ℕ → Option (List ℕ)
at rs k = slice_index_or rs k None

-- what is shown, without a look at where the list ends
shown_is : (rs : Records) (m : ℕ) → shown_at rs m ≡ (if nat_le 1 m then at rs (m - 1) else None)
shown_is rs m = go (nat_le 1 m) (nat_le m (length rs)) refl
  where
    go : (b c : Bool) → nat_le m (length rs) ≡ c → (if b && c then at rs (m - 1) else None) ≡ (if b then at rs (m - 1) else None)
    go true true is = refl
    go true false is = let far = leb-false m (length rs) is in sym (get_or_past rs (m - 1) None (omega arith))
    go false c is = refl

-- ---- what a step leaves

with_other : (rs : Records) (n : ℕ) (r : Option (List ℕ)) (m : ℕ) → 1 ≤ m → m ≢ n → at (with_record rs n r) (m - 1) ≡ at rs (m - 1)
with_other rs n r m first other = go (nat_le 1 n) (nat_le n (length rs)) refl
  where
    go : (b c : Bool) → nat_le 1 n ≡ b → at (if b && c then slice_set rs (n - 1) r else rs) (m - 1) ≡ at rs (m - 1)
    go true true is = let one = leb-true 1 n is in get_or-set_other rs (n - 1) (m - 1) r None (λ same. other (omega (arith, same)))
    go true false is = refl
    go false c is = refl

swap_other : (rs : Records) (i j k : ℕ) → k ≢ i → k ≢ j → at (swap rs i j) k ≡ at rs k
swap_other [] i j k noti notj = refl
swap_other (d ∷ ys) i j k noti notj =
    get_or-set_other (slice_set (d ∷ ys) i (slice_index_or (d ∷ ys) j d)) j k (slice_index_or (d ∷ ys) i d) None notj
    ∙ get_or-set_other (d ∷ ys) i k (slice_index_or (d ∷ ys) j d) None noti

exchanged_other : (rs : Records) (a b m : ℕ) → 1 ≤ m → m ≢ a → m ≢ b → at (exchanged rs a b) (m - 1) ≡ at rs (m - 1)
exchanged_other rs a b m first nota notb = go (nat_le 1 a) (nat_le a (length rs)) (nat_le 1 b) (nat_le b (length rs)) refl refl
  where
    go : (x y z w : Bool) → nat_le 1 a ≡ x → nat_le 1 b ≡ z
        → at (if (x && y) && (z && w) then swap rs (a - 1) (b - 1) else rs) (m - 1) ≡ at rs (m - 1)
    go true true true true one two =
        let a1 = leb-true 1 a one in
        let b1 = leb-true 1 b two in
        swap_other rs (a - 1) (b - 1) (m - 1) (λ same. nota (omega (arith, same))) (λ same. notb (omega (arith, same)))
    go true true true false one two = refl
    go true true false w one two = refl
    go true false z w one two = refl
    go false y z w one two = refl

forks : (rs others : Records) (n m : ℕ) → 1 ≤ m → m < n → m ≤ length rs → at (take (n - 1) rs ++ others) (m - 1) ≡ at rs (m - 1)
forks rs others n m first before there =
    let long = length-take (n - 1) rs in
    get_or_append_left (take (n - 1) rs) others None (m - 1) (omega arith)
    ∙ get_or-take (n - 1) rs (m - 1) None (omega arith)

same : (step : Step) (s : Shown) (m : ℕ) → 1 ≤ m → IsSpared step s.records m → at (after step s).records (m - 1) ≡ at s.records (m - 1)
same (RollBack n) s m first spared = get_or-take (length s.records - n) s.records (m - 1) None (omega (arith, spared))
same (Fork n others) s m first spared = forks s.records others.items n m first spared.0 spared.1
same (Swap a b) s m first spared = exchanged_other s.records a b m first spared.0 spared.1
same (Drop n) s m first spared = with_other s.records n None m first spared
same (Forge n) s m first spared = with_other s.records n (forged (slice_index_or s.records (n - 1) None)) m first spared
same (WrongBlock digest) s m first spared = refl
same Mute s m first spared = refl

pub shown_as_before : (step : Step) (s : Shown) (m : ℕ) → IsSpared step s.records m → shown_at (after step s).records m ≡ shown_at s.records m
shown_as_before step s m spared = shown_is (after step s).records m ∙ go (nat_le 1 m) refl ∙ sym (shown_is s.records m)
  where
    go : (b : Bool) → nat_le 1 m ≡ b
        → (if b then at (after step s).records (m - 1) else None) ≡ (if b then at s.records (m - 1) else None)
    go true is = same step s m (leb-true 1 m is) spared
    go false is = refl
