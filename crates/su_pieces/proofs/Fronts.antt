-- Pieces as they are found, one after another.
use Rattle.std.proofs.Common.{◌≡◌, ℕ, ◌⊎◌, inl, inr, ⊎_elim, ◌+◌, ◌-◌, ◌*◌, ◌<◌, ◌≤◌, true, false, min, List, [], ◌∷◌, ◌++◌, length, sym, ap, ◌∙◌, arith}
use Rattle.std.specs.List.{All, AllPairs, Any}
use Rattle.std.proofs.lemmas.List.{get_or_append_left, length-append}
use Rattle.std.proofs.lemmas.List.Elements.{All-push, All-weaker}
use Rattle.std.proofs.lemmas.List.Quantifiers.{Any-push, all_pairs_push}
use Rattle.std.proofs.lemmas.Bool.{true≢false, cases_lt}
use Rattle.su_node.specs.Digest.{block_count}
use Rattle.su_pieces.specs.declared.pieces.Piece.{Piece}
use Rattle.su_pieces.specs.Piece.{differs, HasBlock, IsPiece, ArePieces}
use Rattle.su_pieces.proofs.PieceLemmas.{differs_past}

-- ---- one piece

-- from a block that differs up to the end of its run
pub piece_is : (old new : List ℕ) (first end : ℕ) → 4096 * first < length new → first < end → end ≤ first + 4 → end ≤ block_count (length new)
    → ((n : ℕ) → first ≤ n → n < end → differs old new n ≡ true) → (end ≡ first + 4) ⊎ (differs old new end ≡ false)
    → (p : Piece) → p.off ≡ 4096 * first → p.len ≡ min (length new) (4096 * end) - 4096 * first → IsPiece old new p
piece_is old new first end there above few inside differ longest p off_is len_is = record {
  some = omega arith;
  most = omega arith;
  inside = omega arith;
  begins = omega arith;
  ends = ⊎_elim (λ e. inr (omega arith)) (λ e. inl (omega arith)) (cases_lt (length new) (4096 * end));
  differ = λ n has. differ n (omega (arith, has.0, has.1)) (omega (arith, has.0, has.1));
  longest = ⊎_elim (λ e. inr (λ n at. differs_past old new n (omega arith))) (λ e. whole e longest) (cases_lt (length new) (4096 * end));
}
  where
    whole : 4096 * end ≤ length new → (end ≡ first + 4) ⊎ (differs old new end ≡ false)
        → (p.len ≡ 16384) ⊎ ((n : ℕ) → p.off + p.len ≡ 4096 * n → differs old new n ≡ false)
    whole le (inl e) = inl (omega arith)
    whole le (inr same) = inr (λ n at. let e : n ≡ end = omega arith in ap (differs old new) e ∙ same)

-- ---- those so far

-- the pieces that begin before a byte, none of which reaches behind it
pub record AreFront (old new : List ℕ) (ps : List Piece) (done : ℕ) : Type 0 where
  pub each : All (IsPiece old new) ps
  pub behind : All (λ p. p.off + p.len ≤ done) ps
  pub ascend : AllPairs (λ p q. p.off + p.len ≤ q.off) ps
  pub all : (n : ℕ) → 4096 * n < done → differs old new n ≡ true → Any (HasBlock n) ps
  pub inside : done ≤ length new

pub front_none : (old new : List ℕ) → AreFront old new [] 0
front_none old new = record {
  each = λ k d lt. absurd (omega (arith, lt));
  behind = λ k d lt. absurd (omega (arith, lt));
  ascend = λ i j d lt high. absurd (omega (arith, high));
  all = λ n lt differ. absurd (omega (arith, lt));
  inside = omega arith;
}

any_kept : {X : Type 0} (P : X → Type 0) (xs : List X) (y : X) → Any P xs → Any P (xs ++ y ∷ [])
any_kept P xs y (k, x, lt, at, has) = (k, x, (let l = length-append xs (y ∷ []) in omega (arith, lt)), get_or_append_left xs (y ∷ []) x k lt ∙ at, has)

pub front_more : (old new : List ℕ) (ps : List Piece) (done : ℕ) (p : Piece) → AreFront old new ps done → IsPiece old new p → done ≤ p.off
    → ((n : ℕ) → done ≤ 4096 * n → 4096 * n < p.off → differs old new n ≡ false) → AreFront old new (ps ++ p ∷ []) (p.off + p.len)
front_more old new ps done p front is le same = record {
  each = All-push (IsPiece old new) ps p front.each is;
  behind = All-push (λ q. q.off + q.len ≤ p.off + p.len) ps p (All-weaker (λ q. q.off + q.len ≤ done) (λ q. q.off + q.len ≤ p.off + p.len) (λ q h. omega arith) ps front.behind) (omega arith);
  ascend = all_pairs_push (λ p q. p.off + p.len ≤ q.off) ps p front.ascend (λ k d lt. let b = front.behind k d lt in omega (arith, b));
  all = λ n lt differ. go n lt differ (cases_lt (4096 * n) done) (cases_lt (4096 * n) p.off);
  inside = is.inside;
}
  where
    go : (n : ℕ) → 4096 * n < p.off + p.len → differs old new n ≡ true → (4096 * n < done) ⊎ (done ≤ 4096 * n) → (4096 * n < p.off) ⊎ (p.off ≤ 4096 * n) → Any (HasBlock n) (ps ++ p ∷ [])
    go n lt differ (inl before) b = any_kept (HasBlock n) ps p (front.all n before differ)
    go n lt differ (inr from) (inl below) = absurd (true≢false (sym differ ∙ same n from below))
    go n lt differ (inr from) (inr here) = Any-push (HasBlock n) ps p (here, lt)

pub front_all : (old new : List ℕ) (ps : List Piece) (done : ℕ) → AreFront old new ps done → ((n : ℕ) → done ≤ 4096 * n → differs old new n ≡ false) → ArePieces old new ps
front_all old new ps done front same = record {
  each = front.each;
  ascend = front.ascend;
  all = λ n differ. go n differ (cases_lt (4096 * n) done);
}
  where
    go : (n : ℕ) → differs old new n ≡ true → (4096 * n < done) ⊎ (done ≤ 4096 * n) → Any (HasBlock n) ps
    go n differ (inl before) = front.all n before differ
    go n differ (inr from) = absurd (true≢false (sym differ ∙ same n from))
