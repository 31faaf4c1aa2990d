-- Worked examples of the definitions.
use Rattle.std.proofs.Common.{◌≡◌, ℕ, true, false, List, [], ◌∷◌, ◌++◌, Some, None, replicate, refl}
use Rattle.su_node.specs.Field.{block}
use Rattle.su_node.specs.InodeChange.{with_size}
use Rattle.su_pieces.specs.declared.pieces.Piece.{Piece}
use Rattle.su_pieces.specs.Piece.{differs, put_over}
use Rattle.su_pieces.specs.Put.{Step.Makes, Step.Writes, Step.Cuts, put_steps}

-- two blocks, the second of which is short
abbrev two_blocks : ℕ → List ℕ
two_blocks x = replicate 4096 1 ++ x ∷ 2 ∷ []

-- of the second one a byte is another
the_first_is_the_same : differs (two_blocks 7) (two_blocks 8) 0 ≡ false
unfolding differs block
the_first_is_the_same = refl

the_second_differs : differs (two_blocks 7) (two_blocks 8) 1 ≡ true
unfolding differs block
the_second_differs = refl

-- what is behind the end differs
a_new_block_differs : differs (replicate 4096 1) (two_blocks 7) 1 ≡ true
unfolding differs block
a_new_block_differs = refl

-- a file that only gets shorter has no block that differs
a_front_is_the_same : differs (two_blocks 7) (replicate 4096 1 ++ 7 ∷ []) 1 ≡ false
unfolding differs block
a_front_is_the_same = refl

-- a new file, one that gets longer, and one that gets shorter
abbrev piece : ℕ → ℕ → Piece
piece off len = record { off = off; len = len }

a_new_file : put_steps None (7 ∷ 8 ∷ []) (piece 0 2 ∷ []) ≡ Makes ∷ Writes 0 (7 ∷ 8 ∷ []) ∷ []
a_new_file = refl

a_longer_one : put_steps (Some (7 ∷ [])) (7 ∷ 8 ∷ []) (piece 0 2 ∷ []) ≡ Writes 0 (7 ∷ 8 ∷ []) ∷ []
a_longer_one = refl

a_shorter_one : put_steps (Some (7 ∷ 8 ∷ [])) (7 ∷ []) [] ≡ Cuts 1 ∷ []
a_shorter_one = refl

what_a_shorter_one_is_made_of : put_over (7 ∷ 8 ∷ []) (7 ∷ []) [] ≡ 7 ∷ []
unfolding with_size
what_a_shorter_one_is_made_of = refl
