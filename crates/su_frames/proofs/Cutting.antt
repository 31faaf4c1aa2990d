-- A stream is cut in one way.
use Rattle.std.proofs.Common.{◌≡◌, ◌∙◌, sym, refl, ap, subst, ℕ, suc, ◌<◌, ◌≤◌, ◌==◌, inl, inr, Bool, true, false, cond, List, [], ◌∷◌, ◌++◌, length, take, drop, All, Option, Some, None, append_assoc, length-append, nat_lt, arith}
use Rattle.std.specs.Int.{w32, to_be_bytes}
use Rattle.std.proofs.lemmas.Bool.{ltb-false, le-ltb}
use Rattle.std.proofs.lemmas.Bool.Decides.{nat_tests}
use Rattle.std.proofs.lemmas.List.{take_at, drop_at, take-append-le}
use Rattle.std.proofs.lemmas.Nat.{from_be_bytes-to_be_bytes_4}
use Rattle.su_bytes.specs.declared.refusals.Refusal.{Refusal}
use Rattle.su_frames.specs.Stream.{frame, IsMessage, next_length, length_fault, fault, stream, IsRest}

head_of : (m more : List ℕ) → take 4 (frame m ++ more) ≡ to_be_bytes w32 (length m)
head_of m more = refl

next_frame : (m more : List ℕ) → IsMessage m → next_length (frame m ++ more) ≡ length m
next_frame m more (some, most) = from_be_bytes-to_be_bytes_4 (length m) (omega arith)

good_length : (n : ℕ) → 0 < n → n ≤ 131072 → length_fault n ≡ None
good_length n some most =
    let not_zero : (n == 0) ≡ false = grind (arith, nat_tests) in
    let not_long : nat_lt 131072 n ≡ false = grind (arith, nat_tests) in
    rw (not_zero, not_long) refl

long_enough : (b : Bool) (x : Option Refusal) (e : Refusal) → cond b None x ≡ Some e → (b ≡ false) × (x ≡ Some e)
long_enough true x e f = absurd cc
long_enough false x e f = (refl, f)

-- where a message stands next, no rest does
no_rest : (m more : List ℕ) → IsMessage m → IsRest (frame m ++ more) → ⊥
no_rest m more good (inl (f, inl short)) = omega (arith, length-append m more)
no_rest m more good (inl (f, inr short)) = omega (arith, next_frame m more good, length-append m more)
no_rest m more good (inr (e, f)) =
    let fine : length_fault (next_length (frame m ++ more)) ≡ None = ap length_fault (next_frame m more good) ∙ good_length (length m) good.0 good.1 in
    absurd (let bad : None ≡ Some e = sym fine ∙ (long_enough (nat_lt (length (frame m ++ more)) 4) (length_fault (next_length (frame m ++ more))) e f).1 in cc)

-- two messages at the front are one
same_first : (m n x y : List ℕ) → IsMessage m → IsMessage n → frame m ++ x ≡ frame n ++ y → (m ≡ n) × (x ≡ y)
same_first m n x y p q e =
    let len : length m ≡ length n = sym (next_frame m x p) ∙ ap next_length e ∙ next_frame n y q in
    let tail : m ++ x ≡ n ++ y = ap (drop 4) e in (
      sym (take_at m x (length m) refl) ∙ ap (take (length m)) tail ∙ take_at n y (length m) (sym len),
      sym (drop_at m x (length m) refl) ∙ ap (drop (length m)) tail ∙ drop_at n y (length m) (sym len),
    )

first : (m : List ℕ) (ms : List (List ℕ)) → All IsMessage (m ∷ ms) → IsMessage m
first m ms each = each 0 [] (omega arith)

others : (m : List ℕ) (ms : List (List ℕ)) → All IsMessage (m ∷ ms) → All IsMessage ms
others m ms each k d lt = each (suc k) d (omega arith)

pub one_cut : (rest last : List ℕ) (taken all : List (List ℕ)) → All IsMessage taken → All IsMessage all → stream taken rest ≡ stream all last → IsRest last → (more : List (List ℕ)) × (all ≡ taken ++ more) × (rest ≡ stream more last)
one_cut rest last [] all p q e r = (all, refl, e)
one_cut rest last (m ∷ ms) [] p q e r = absurd (no_rest m (stream ms rest) (first m ms p) (subst IsRest (sym e ∙ append_assoc (frame m) _ rest) r))
one_cut rest last (m ∷ ms) (n ∷ ns) p q e r =
    let (here, there) = same_first m n (stream ms rest) (stream ns last) (first m ms p) (first n ns q) (sym (append_assoc (frame m) _ rest) ∙ e ∙ append_assoc (frame n) _ last) in
    let (more, is, left) = one_cut rest last ms ns (others m ms p) (others n ns q) there r in
    (more, ap (λ t. n ∷ t) is ∙ ap (λ t. t ∷ (ms ++ more)) (sym here), left)

pub refused_for_good : (bytes more : List ℕ) (e : Refusal) → fault bytes ≡ Some e → fault (bytes ++ more) ≡ Some e
refused_for_good bytes more e f =
    let (long, is) = long_enough (nat_lt (length bytes) 4) (length_fault (next_length bytes)) e f in
    let four : 4 ≤ length bytes = ltb-false _ _ long in
    let longer : nat_lt (length (bytes ++ more)) 4 ≡ false = le-ltb _ _ (omega (arith, length-append bytes more)) in
    rw (longer, take-append-le 4 bytes more four) is
