-- Pieces are determined by the contents.
use Rattle.std.proofs.Common.{◌≡◌, ℕ, zero, suc, ⊎_elim, ◌+◌, ◌*◌, ◌/◌, ◌<◌, ◌≤◌, true, List, [], ◌∷◌, length, get_or, refl, sym, ap, subst, ◌∙◌, arith}
use Rattle.std.specs.List.{All, AllPairs, Any}
use Rattle.std.proofs.lemmas.List.Elements.{All-head, All-tail}
use Rattle.std.proofs.lemmas.Bool.{true≢false, cases_order}
use Rattle.su_pieces.specs.declared.pieces.Piece.{Piece}
use Rattle.su_pieces.specs.Piece.{differs, HasBlock, IsPiece, ArePieces}
use Rattle.su_pieces.proofs.PieceLemmas.{any_cases}

-- the pieces that begin at a byte or behind it
record From (old new : List ℕ) (done : ℕ) (ps : List Piece) : Type 0 where
  each : All (IsPiece old new) ps
  ascend : AllPairs (λ p q. p.off + p.len ≤ q.off) ps
  behind : All (λ p. done ≤ p.off) ps
  all : (n : ℕ) → done ≤ 4096 * n → differs old new n ≡ true → Any (HasBlock n) ps

-- the number of a piece's first block
first_block : (old new : List ℕ) (p : Piece) → IsPiece old new p → (n : ℕ) × (p.off ≡ 4096 * n) × (differs old new n ≡ true)
first_block old new p is =
    let begins = is.begins in
    let some = is.some in
    (p.off / 4096, omega arith, is.differ (p.off / 4096) (omega arith, omega arith))

-- none of the pieces begins before the first one
first_least : (old new : List ℕ) (done : ℕ) (p q : Piece) (ps qs : List Piece) → From old new done (p ∷ ps) → From old new done (q ∷ qs) → p.off < q.off → ⊥
first_least old new done p q ps qs one two lt =
    let (n, at, differ) = first_block old new p (All-head (IsPiece old new) p ps one.each) in
    let low : done ≤ p.off = All-head (λ r. done ≤ r.off) p ps one.behind in
    not_there n (two.all n (omega arith) differ) at
  where
    from_q : (k : ℕ) (d : Piece) → k < length (q ∷ qs) → q.off ≤ (get_or (q ∷ qs) k d).off
    from_q zero d high = omega arith
    from_q (suc k) d high =
        let after = two.ascend 0 (suc k) d (omega arith) high in
        omega (arith, after)

    not_there : (n : ℕ) → Any (HasBlock n) (q ∷ qs) → p.off ≡ 4096 * n → ⊥
    not_there n (k, r, high, is, has) at =
        let least = from_q k r high in
        let same : (get_or (q ∷ qs) k r).off ≡ r.off = ap (λ (x : Piece). x.off) is in
        omega (arith, least, same, has.0, at, lt)

-- nor is one shorter
longest_ends : (old new : List ℕ) (p q : Piece) → IsPiece old new p → IsPiece old new q → p.off ≡ q.off → p.len < q.len → ⊥
longest_ends old new p q is_p is_q same lt =
    let some = is_p.some in
    let most = is_q.most in
    let inside = is_q.inside in
    let n = (p.off + p.len) / 4096 in
    let ends : p.off + p.len ≡ 4096 * n = ⊎_elim (λ e. omega (arith, e)) (λ e. absurd (omega (arith, e))) is_p.ends in
    ⊎_elim (λ full. omega (arith, full)) (λ stops. true≢false (sym (is_q.differ n (omega arith, omega arith)) ∙ stops n ends)) is_p.longest

same_first : (old new : List ℕ) (done : ℕ) (p q : Piece) (ps qs : List Piece) → From old new done (p ∷ ps) → From old new done (q ∷ qs) → p ≡ q
same_first old new done p q ps qs one two =
    let is_p : IsPiece old new p = All-head (IsPiece old new) p ps one.each in
    let is_q : IsPiece old new q = All-head (IsPiece old new) q qs two.each in
    let offs : p.off ≡ q.off = by_order p.off q.off (first_least old new done p q ps qs one two) (first_least old new done q p qs ps two one) in
    let lens : p.len ≡ q.len = by_order p.len q.len (longest_ends old new p q is_p is_q offs) (longest_ends old new q p is_q is_p (sym offs)) in
    λ i. record { off = offs i; len = lens i }
  where
    by_order : (m n : ℕ) → (m < n → ⊥) → (n < m → ⊥) → m ≡ n
    by_order m n less more = ⊎_elim (λ e. e) (λ other. ⊎_elim (λ lt. absurd (less lt)) (λ gt. absurd (more gt)) other) (cases_order m n)

from_rest : (old new : List ℕ) (done : ℕ) (p : Piece) (ps : List Piece) → From old new done (p ∷ ps) → From old new (p.off + p.len) ps
from_rest old new done p ps from = record {
  each = All-tail (IsPiece old new) p ps from.each;
  ascend = λ i j d lt high. from.ascend (suc i) (suc j) d (omega arith) (omega arith);
  behind = λ k d high. from.ascend 0 (suc k) d (omega arith) (omega arith);
  all = λ n low differ. ⊎_elim (λ (has : HasBlock n p). absurd (omega (arith, has.1))) (λ rest. rest)
      (any_cases (HasBlock n) p ps (from.all n (let b : done ≤ p.off = All-head (λ r. done ≤ r.off) p ps from.behind in omega arith) differ));
}

none_from : (old new : List ℕ) (done : ℕ) (q : Piece) (qs : List Piece) → From old new done [] → From old new done (q ∷ qs) → ⊥
none_from old new done q qs one two =
    let (n, at, differ) = first_block old new q (All-head (IsPiece old new) q qs two.each) in
    let low : done ≤ q.off = All-head (λ r. done ≤ r.off) q qs two.behind in
    no_element (one.all n (omega arith) differ)
  where
    no_element : {P : Piece → Type 0} → Any P [] → ⊥
    no_element (k, x, high, at, has) = omega (arith, high)

same_from : (old new : List ℕ) (done : ℕ) (ps qs : List Piece) → From old new done ps → From old new done qs → ps ≡ qs
same_from old new done [] [] one two = refl
same_from old new done [] (q ∷ qs) one two = absurd (none_from old new done q qs one two)
same_from old new done (p ∷ ps) [] one two = absurd (none_from old new done p ps two one)
same_from old new done (p ∷ ps) (q ∷ qs) one two =
    let first : p ≡ q = same_first old new done p q ps qs one two in
    let end : q.off + q.len ≡ p.off + p.len = ap (λ (r : Piece). r.off + r.len) (sym first) in
    let rest = same_from old new (p.off + p.len) ps qs (from_rest old new done p ps one) (subst (λ m. From old new m qs) end (from_rest old new done q qs two)) in
    λ i. first i ∷ rest i

all_from : (old new : List ℕ) (ps : List Piece) → ArePieces old new ps → From old new 0 ps
all_from old new ps are = record { each = are.each; ascend = are.ascend; behind = λ k d high. omega arith; all = λ n low differ. are.all n differ }

pub one_way : (old new : List ℕ) (ps qs : List Piece) → ArePieces old new ps → ArePieces old new qs → ps ≡ qs
one_way old new ps qs one two = same_from old new 0 ps qs (all_from old new ps one) (all_from old new qs two)
