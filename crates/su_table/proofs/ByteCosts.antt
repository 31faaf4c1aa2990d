-- What a write of one byte within a file costs.
use Rattle.std.proofs.Common.{◌≡◌, ℕ, ◌+◌, ◌*◌, ◌<◌, cond, nat_lt, false, ap, arith}
use Rattle.std.proofs.lemmas.Bool.Decides.{nat_tests}
use Rattle.su_node.specs.Cost.{blocks_grown, blocks_touched}
use Rattle.su_table.specs.Cost.{AByteMakesFewHashes, hashes_of_inode}

one_block : (size off : ℕ) → off < size → cond (nat_lt size (off + 1)) (blocks_grown size (off + 1)) 0 + blocks_touched off 1 ≡ 1
one_block size off h =
    let within : nat_lt size (off + 1) ≡ false = grind (arith, nat_tests) in
    let touched : blocks_touched off 1 ≡ 1 = omega arith in
    (λ i. cond (within i) (blocks_grown size (off + 1)) 0 + touched i)

pub a_byte_makes : (bits : ℕ) → AByteMakesFewHashes bits (bits + 2 + hashes_of_inode)
a_byte_makes bits size off h = omega (arith, ap (λ n. (bits + 2) * n) (one_block size off h))
