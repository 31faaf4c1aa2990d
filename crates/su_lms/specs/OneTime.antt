-- LM-OTS, the one-time signatures of RFC 8554, Section 4.
use Rattle.std.specs.Prelude.{ℕ, ◌*◌, ◌-◌, ◌/◌, ◌^◌, List, [], ◌∷◌, ◌++◌}
use Rattle.sha2.specs.Sha256.{sha256}
unfoldable pub use Rattle.sha_lanes.specs.Chain.{chain}
pub use Rattle.sha_lanes.specs.Chain.{chain_place, chain_step}
use Rattle.su_lms.specs.ParameterSets.{width_of, chain_count, checksum_shift}
use Rattle.su_lms.specs.Strings.{u16str, u32str, coef, joined, sum_below}

-- x_q[i], where chain i of leaf q begins, made from SEED (Appendix A)
unfoldable pub private_value : List ℕ → List ℕ → ℕ → ℕ → List ℕ
private_value id seed q i = sha256 (chain_place id q i ++ 255 ∷ [] ++ seed)

-- K, the hash of the ends of the chains; D_PBLC is 0x8080 (Section 4.3)
unfoldable pub hash_of_ends : ℕ → List ℕ → ℕ → (ℕ → List ℕ) → List ℕ
hash_of_ends ots id q end = sha256 (id ++ u32str q ++ u16str 0x8080 ++ joined (chain_count ots) end)

-- the one-time public key of leaf q: each chain goes all of its 2^w - 1 steps (Section 4.3)
unfoldable pub one_time_key : ℕ → List ℕ → List ℕ → ℕ → List ℕ
one_time_key ots id seed q = hash_of_ends ots id q (λ i. chain (chain_place id q i) 0 (2 ^ width_of ots - 1) (private_value id seed q i))

-- Q, the hash of the message with the randomizer C; D_MESG is 0x8181 (Section 4.5)
unfoldable pub message_hash : List ℕ → ℕ → List ℕ → List ℕ → List ℕ
message_hash id q randomizer message = sha256 (id ++ u32str q ++ u16str 0x8181 ++ randomizer ++ message)

-- Cksm(Q), which falls as the coefficients rise (Section 4.4)
unfoldable pub checksum : ℕ → List ℕ → ℕ
checksum ots hash = sum_below (256 / width_of ots) (λ i. 2 ^ width_of ots - 1 - coef hash i (width_of ots)) * 2 ^ checksum_shift ots

-- Q || Cksm(Q) (Section 4.5)
abbrev pub with_checksum : ℕ → List ℕ → List ℕ
with_checksum ots hash = hash ++ u16str (checksum ots hash)

-- a, how many steps chain i of a signature has gone, by Q || Cksm(Q) (Section 4.5)
abbrev pub steps_signed : ℕ → List ℕ → ℕ → ℕ
steps_signed ots digits i = coef digits i (width_of ots)

-- the end of chain i, from the value y[i] of a signature (Section 4.6)
abbrev pub end_from : ℕ → List ℕ → ℕ → List ℕ → ℕ → List ℕ → List ℕ
end_from ots id q digits i y = chain (chain_place id q i) (steps_signed ots digits i) (2 ^ width_of ots - 1 - steps_signed ots digits i) y

-- the one-time public key that a signature leads to, from its values y[0], y[1], .. (Section 4.6)
unfoldable pub one_time_key_from : ℕ → List ℕ → ℕ → List ℕ → (ℕ → List ℕ) → List ℕ
one_time_key_from ots id q digits y = hash_of_ends ots id q (λ i. end_from ots id q digits i (y i))
