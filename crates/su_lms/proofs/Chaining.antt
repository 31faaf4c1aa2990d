-- How chains grow and compose.
use Rattle.std.proofs.Common.{◌≡◌, ℕ, zero, suc, ◌+◌, ◌-◌, List, ◌++◌, length, take, drop, refl, ap, sym, ◌∙◌, arith}
use Rattle.std.proofs.lemmas.List.{take_at, drop_at, drop-drop}
use Rattle.sha2.proofs.Facts256.{length-sha256}
use Rattle.su_lms.specs.OneTime.{chain, private_value}
use Rattle.su_lms.specs.PrivateKey.{randomizer}

-- some steps, and then more of them, are all of them
pub chain_add : (place : List ℕ) (from a b : ℕ) (value : List ℕ) → chain place (from + a) b (chain place from a value) ≡ chain place from (a + b) value
unfolding chain
chain_add place from a zero value = ap (λ n. chain place from n value) (omega arith)
chain_add place from a (suc b) value =
    let count : a + suc b ≡ suc (a + b) = omega arith in
    let here : from + a + b ≡ from + (a + b) = omega arith in
    rw (count, here, chain_add place from a b value) refl

-- the values have 32 bytes
pub length-chain : (place : List ℕ) (from count : ℕ) (value : List ℕ) → length value ≡ 32 → length (chain place from count value) ≡ 32
unfolding chain
length-chain place from zero value size = size
length-chain place from (suc count) value size = length-sha256 _

pub length-private_value : (id seed : List ℕ) (q i : ℕ) → length (private_value id seed q i) ≡ 32
unfolding private_value
length-private_value id seed q i = length-sha256 _

-- a write behind what was written
pub written : (p b base now next : List ℕ) (place n : ℕ) → now ≡ p ++ drop place base → length p ≡ place → length b ≡ n → next ≡ take place now ++ b ++ drop (place + n) now → next ≡ p ++ b ++ drop (place + n) base
written p b base now next place n was size b_size does =
    let front : take place now ≡ p = ap (take place) was ∙ take_at p (drop place base) place size in
    let behind : drop (place + n) now ≡ drop (place + n) base =
    sym (drop-drop n place now) ∙ ap (λ s. drop n (drop place s)) was ∙ ap (drop n) (drop_at p (drop place base) place size) ∙ drop-drop n place base in
    does ∙ ap (λ s. s ++ b ++ drop (place + n) now) front ∙ ap (λ s. p ++ b ++ s) behind

-- equal numbers and values give equal ends
pub chain_same : (place : List ℕ) (from from' last last' : ℕ) (value value' : List ℕ) → from ≡ from' → last ≡ last' → value ≡ value' → chain place from (last - from) value ≡ chain place from' (last' - from') value'
chain_same place from from' last last' value value' a b c =
    ap (λ n. chain place n (last - n) value) a ∙ ap (λ n. chain place from' (n - from') value) b ∙ ap (chain place from' (last' - from')) c

pub length-randomizer : (seed : List ℕ) (q : ℕ) → length (randomizer seed q) ≡ 32
unfolding randomizer
length-randomizer seed q = length-sha256 _
