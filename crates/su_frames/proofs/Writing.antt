-- Bytes written one part after another.
use Rattle.std.proofs.Common.{◌≡◌, ◌∙◌, sym, ap, subst, ℕ, ◌+◌, ◌-◌, List, length, take, drop, Option, length-drop}
use Rattle.std.specs.Io.KnownBytes.{Appends}
use Rattle.std.proofs.KnownBytes.{Appends-trans}
use Rattle.std.proofs.Math.Seq.{take-length, take-add}

-- what was written of some bytes, and then of their rest
pub appends-more : (a b c : Option (List ℕ)) (done n new : ℕ) (xs : List ℕ) → Appends a b (take done xs) → Appends b c (take n (drop done xs)) → new ≡ done + n → Appends a c (take new xs)
appends-more a b c done n new xs p q e = subst (Appends a c) (sym (take-add done n xs) ∙ ap (λ k. take k xs) (sym e)) (Appends-trans a b c (take done xs) (take n (drop done xs)) p q)

-- all bytes from a place on
pub rest-all : (done : ℕ) (xs : List ℕ) → take (length xs - done) (drop done xs) ≡ drop done xs
rest-all done xs = ap (λ k. take k (drop done xs)) (sym (length-drop done xs)) ∙ take-length (drop done xs)
