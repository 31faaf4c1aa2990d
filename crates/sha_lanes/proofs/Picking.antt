-- What a choice between two vectors, by a comparison of each lane with a number, leaves in a lane.
use Rattle.std.proofs.Common.{◌≡◌, ℕ, ◌-◌, ◌^◌, ◌<◌, ◌≤◌, List, length, slice_index, map, replicate, Bool, true, false, cond, w32, sym, ap, ◌∙◌, arith}
use Rattle.std.proofs.Math.Dec.{leb}
use Rattle.std.specs.Simd.Lanes.{zip2, sel_l, top}
use Rattle.std.proofs.lemmas.Bool.{le-leb, lt-leb}
use Rattle.std.proofs.lemmas.Simd.{length-zip2, get_or-zip2, length-replicate, get_or-replicate, tops_compared, get_or-sel_l}

-- the lanes of `low` where those of x are at most n, and else those of `high`
abbrev pub choice : List ℕ → ℕ → List ℕ → List ℕ → List ℕ
choice x n low high = sel_l (map (top 31) (zip2 (λ a b. cond (leb a b) (2 ^ 32 - 1) 0) x (replicate 8 n))) low high

picked : (x low high : List ℕ) (n l : ℕ) (b : Bool) → length x ≡ 8 → length low ≡ 8 → length high ≡ 8 → l < 8 → leb (slice_index x l) n ≡ b → slice_index (choice x n low high) l ≡ cond b (slice_index low l) (slice_index high l)
picked x low high n l b x_size low_size high_size inside is =
    let ns : List ℕ = replicate 8 n in
    let size : length ns ≡ 8 = length-replicate 8 n in
    let long : length (zip2 leb x ns) ≡ 8 = length-zip2 leb x ns (x_size ∙ sym size) ∙ x_size in
    ap (λ ms. slice_index (sel_l ms low high) l) (tops_compared w32 leb x ns)
    ∙ get_or-sel_l (zip2 leb x ns) low high l 0 (omega arith) (omega arith) (omega arith)
    ∙ ap (λ t. cond t (slice_index low l) (slice_index high l))
    (get_or-zip2 leb x ns l 0 0 false (omega arith) (omega arith) ∙ ap (leb (slice_index x l)) (get_or-replicate 8 l n 0 inside) ∙ is)

pub picked_low : (x low high : List ℕ) (n l : ℕ) → length x ≡ 8 → length low ≡ 8 → length high ≡ 8 → l < 8 → slice_index x l ≤ n → slice_index (choice x n low high) l ≡ slice_index low l
picked_low x low high n l x_size low_size high_size inside le = picked x low high n l true x_size low_size high_size inside (le-leb (slice_index x l) n le)

pub picked_high : (x low high : List ℕ) (n l : ℕ) → length x ≡ 8 → length low ≡ 8 → length high ≡ 8 → l < 8 → n < slice_index x l → slice_index (choice x n low high) l ≡ slice_index high l
picked_high x low high n l x_size low_size high_size inside lt = picked x low high n l false x_size low_size high_size inside (lt-leb (slice_index x l) n lt)
