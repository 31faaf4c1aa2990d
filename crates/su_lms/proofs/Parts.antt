-- Lists of which a part was written.
use Rattle.std.proofs.Common.{◌≡◌, ℕ, ◌+◌, ◌≤◌, ◌<◌, List, length, get_or, rules}
use Rattle.std.proofs.lemmas.List.{places}
use borrow.Rule.Slice.PartMut.{put_mid}

module _ {X : Type 0} (a k : ℕ) (xs ys : List X) (part : length ys ≡ k) (inside : a + k ≤ length xs) (d : X) where
  -- those before the part are as they were
  pub get_or_before : (j : ℕ) → j < a → get_or (put_mid a k xs ys) j d ≡ get_or xs j d
  get_or_before j low = search (rules, places)

  -- those in it are those of the part
  pub get_or_inside : (j : ℕ) → j < k → get_or (put_mid a k xs ys) (a + j) d ≡ get_or ys j d
  get_or_inside j low = search (rules, places)

  -- those behind it are as they were
  pub get_or_behind : (j : ℕ) → a + k ≤ j → get_or (put_mid a k xs ys) j d ≡ get_or xs j d
  get_or_behind j high = search (rules, places)
