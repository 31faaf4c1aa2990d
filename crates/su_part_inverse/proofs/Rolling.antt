-- What was done is taken back.
use Rattle.std.proofs.Common.{◌≡◌, ◌∙◌, ℕ, ◌<◌, ◌≤◌, ◌/◌, ◌*◌, ◌^◌, Bool, true, false, cond, nat_lt, nat_le, length, ◌+◌, Some, refl, ap, subst, arith}
use Rattle.std.proofs.lemmas.Bool.{leb-true}
use Rattle.std.proofs.lemmas.Bool.Decides.{nat_tests}
use Rattle.std.specs.FinMap.{get}
use Rattle.su_node.specs.Field.{Field.KindOf, field_value}
use Rattle.su_table.specs.Tree.{Tree}
use Rattle.su_table.specs.Cell.{val}
use Rattle.su_table.specs.Edit.{Edit.Inodes, back, edit, restoring}
use Rattle.su_table.specs.Query.{is_free_at, is_nothing, size_at}
use Rattle.su_table.proofs.Public.{edit-back}
use Rattle.su_op.proofs.Public.{get-set_place, place_eq-itself}
use Rattle.su_inverse.specs.Kept.{blocks_edit, size_area, size_edit}
use Rattle.su_inverse.specs.declared.contents.KeptBlocks.{KeptBlocks}
use Rattle.su_inverse.specs.declared.contents.KeptSize.{KeptSize}
use Rattle.su_inverse.proofs.SizeLemmas.{cut_again}
use Rattle.su_undone.specs.Undone.{cut_to, grown_to, written_to}
use Rattle.su_part.specs.Known.{Want.AnInode, Want.ABlock}
use Rattle.su_part_forest.specs.Known.{Knows, StaysKnown, Want.OfUser}
use Rattle.su_part_forest.specs.declared.forests.PartForest.{PartForest}
use Rattle.su_part_inverse.specs.Ready.{KnowsArea, KnowsEnd}
use Rattle.su_part_inverse.specs.Steps.{inode_edit, or_new}
use Rattle.su_part_inverse.specs.declared.returns.KeptInode.{KeptInode}

pub lt_is : (a b : ℕ) → a < b → nat_lt a b ≡ true
lt_is a b h = grind (arith, nat_tests, h)

pub lt_not : (a b : ℕ) → b ≤ a → nat_lt a b ≡ false
lt_not a b h = grind (arith, nat_tests, h)

-- the size that the file has
abbrev pub present : Tree → KeptSize → KeptSize
present F k = record { place = k.place; size = size_at F k.place }

-- what was lengthened is cut again
pub cut_before : (F : Tree) (k : KeptSize) → cut_to (present F k) (grown_to k F) ≡ F
cut_before F k =
    cut_again F (grown_to k F) (cut_to (present F k) (grown_to k F)) k.place k.size
    (λ less. ap (λ b. cond b (edit F (size_edit F k.place k.size)) F) (lt_is (size_at F k.place) k.size less))
    (λ more. ap (λ b. cond b (edit F (size_edit F k.place k.size)) F) (lt_not (size_at F k.place) k.size more))
    (λ longer. ap (λ b. cond b (edit (grown_to k F) (size_edit (grown_to k F) k.place (size_at F k.place))) (grown_to k F)) (lt_is (size_at F k.place) (size_at (grown_to k F) k.place) longer))
    (λ shorter. ap (λ b. cond b (edit (grown_to k F) (size_edit (grown_to k F) k.place (size_at F k.place))) (grown_to k F)) (lt_not (size_at F k.place) (size_at (grown_to k F) k.place) shorter))

-- an inode that was brought back gives place to what stood there
pub given_back : (F T : Tree) (k : KeptInode) → edit (edit F (inode_edit T k)) (Inodes k.place (restoring (get F.inodes k.place))) ≡ F
unfolding back
given_back F T k = edit-back F (inode_edit T k)

pub taken : (F T : Tree) (k : KeptInode) → is_free_at (edit F (inode_edit T k)) k.place ≡ false
unfolding val edit
taken F T k = ap (λ o. is_nothing (field_value o KindOf))
    (get-set_place F.inodes k.place (Some (or_new (get T.inodes k.place))) k.place ∙ ap (λ b. cond b (Some (or_new (get T.inodes k.place))) (get F.inodes k.place)) (place_eq-itself k.place))

-- ---- a file that was lengthened is cut again, and all stays known

module _ (F : Tree) (f g j : PartForest) (k : KeptSize) (small : k.place.1 < 2 ^ 32) (was : ℕ) (is : was ≡ size_at F k.place)
    (before : KnowsArea F f (size_area k)) (known : StaysKnown F (grown_to k F) f g) (between : StaysKnown (grown_to k F) (grown_to k F) g j)
    (end_ : size_at F k.place < size_at (grown_to k F) k.place → KnowsEnd (grown_to k F) g k.place (size_at F k.place)) where
  pub area_between : KnowsArea (grown_to k F) j (size_area k)
  area_between m = between (OfUser k.place.0 (AnInode k.place.1)) (known (OfUser k.place.0 (AnInode k.place.1)) (before m))

  pub end_between : was < size_at (grown_to k F) k.place → KnowsEnd (grown_to k F) j k.place was
  end_between lt n low high m =
      between (OfUser k.place.0 (ABlock k.place.1 n)) (end_ (subst (λ s. s < size_at (grown_to k F) k.place) is lt) n (subst (λ s. s / 4096 ≤ n) is low) high m)

  pub back_again : cut_to (record { place = k.place; size = was }) (grown_to k F) ≡ F
  back_again = ap (λ s. cut_to (record { place = k.place; size = s }) (grown_to k F)) is ∙ cut_before F k

  pub known_again : (l : PartForest) → StaysKnown (grown_to k F) (cut_to (record { place = k.place; size = was }) (grown_to k F)) j l → StaysKnown F F f l
  known_again l after w x = subst (λ V. Knows V w l) back_again (after w (between w (known w x)))

-- ---- whether a step does something

pub grown_is : (F : Tree) (k : KeptSize) → size_at F k.place < k.size → grown_to k F ≡ edit F (size_edit F k.place k.size)
grown_is F k less = ap (λ b. cond b (edit F (size_edit F k.place k.size)) F) (lt_is (size_at F k.place) k.size less)

pub grown_not : (F : Tree) (k : KeptSize) → k.size ≤ size_at F k.place → grown_to k F ≡ F
grown_not F k more = ap (λ b. cond b (edit F (size_edit F k.place k.size)) F) (lt_not (size_at F k.place) k.size more)

pub cut_is : (F : Tree) (k : KeptSize) → k.size < size_at F k.place → cut_to k F ≡ edit F (size_edit F k.place k.size)
cut_is F k less = ap (λ b. cond b (edit F (size_edit F k.place k.size)) F) (lt_is k.size (size_at F k.place) less)

pub cut_not : (F : Tree) (k : KeptSize) → size_at F k.place ≤ k.size → cut_to k F ≡ F
cut_not F k more = ap (λ b. cond b (edit F (size_edit F k.place k.size)) F) (lt_not k.size (size_at F k.place) more)

pub written_short : (F : Tree) (k : KeptBlocks) → size_at F k.place < 4096 * k.run.first + length k.bytes.items → written_to k F ≡ F
written_short F k short = go (nat_lt 0 (length k.bytes.items)) (nat_le (4096 * k.run.first + length k.bytes.items) (size_at F k.place)) refl
  where
    go : (a b : Bool) → nat_le (4096 * k.run.first + length k.bytes.items) (size_at F k.place) ≡ b → cond a (cond b (edit F (blocks_edit F k)) F) F ≡ F
    go false b e = refl
    go true false e = refl
    go true true e = absurd (let le = leb-true (4096 * k.run.first + length k.bytes.items) (size_at F k.place) e in omega (arith, le, short))
