-- The steps of an inverse lead to the tree that has the kept values in its areas.
use Rattle.std.proofs.Common.{◌≡◌, ◌∙◌, ap, ℕ, ◌+◌, ◌*◌, ◌<◌, ◌≤◌, true, false, cond, nat_lt, nat_le, List, [], ◌∷◌, ◌++◌, map, length, arith}
use Rattle.std.specs.List.{AllByRecursion}
use Rattle.std.proofs.lemmas.Bool.Decides.{nat_tests}
use Rattle.su_node.specs.declared.blocks.TheConstants.{BLOCK_SIZE}
use Rattle.su_table.specs.Tree.{Tree}
use Rattle.su_table.specs.Query.{size_at}
use Rattle.su_table.specs.Edit.{edit}
use Rattle.su_inverse.specs.declared.returns.Return.{Return}
use Rattle.su_inverse.specs.declared.resets.Reset.{Reset}
use Rattle.su_inverse.specs.declared.contents.KeptSize.{KeptSize}
use Rattle.su_inverse.specs.declared.contents.KeptBlocks.{KeptBlocks}
use Rattle.su_inverse.specs.declared.inverses.Inverse.{Inverse}
use Rattle.su_inverse.specs.Kept.{return_edit, size_edit, blocks_edit, reset_area, blocks_area, HoldsReturn, HoldsSize, HoldsReset, HoldsBlocks}
use Rattle.su_inverse.specs.Remaining.{left, left_sizes, left_resets, left_blocks, AgreeOutside, IsRoomy, HoldsAll}
use Rattle.su_inverse.proofs.AreaListLemmas as area
use Rattle.su_inverse.proofs.AreaListLemmas.{all_areas, returned, left_over, held_all}
use Rattle.su_inverse.proofs.MixedLemmas.{all_back}
use Rattle.su_inverse.proofs.SizeLemmas.{first_roomy, size_grown, size_cut, blocks_back}
use Rattle.su_undone.specs.Undone.{brought_back, grown_to, grown, cut_to, cut, reset, written_to, written, UndoneIsPutBack}

lt_is : (a b : ℕ) → a < b → nat_lt a b ≡ true
lt_is a b h = grind (arith, nat_tests, h)

lt_not : (a b : ℕ) → b ≤ a → nat_lt a b ≡ false
lt_not a b h = grind (arith, nat_tests, h)

le_is : (a b : ℕ) → a ≤ b → nat_le a b ≡ true
le_is a b h = grind (arith, nat_tests, h)

pub brought_left : (rs : List Return) (i : Inverse) (F T : Tree) → AllByRecursion (HoldsReturn T) rs → AgreeOutside (left rs i) F T → AgreeOutside (left [] i) (brought_back rs F) T
brought_left [] i F T held agree = agree
brought_left (r ∷ rs) i F T held agree = brought_left rs i (edit F (return_edit r)) T held.1 (returned r (all_areas rs i.sizes.items i.resets.items i.blocks.items) F T held.0 agree)

pub grown_left : (ks : List KeptSize) (i : Inverse) (F T : Tree) → HoldsAll i T → AllByRecursion (HoldsSize T) ks → AgreeOutside (left [] i) F T → IsRoomy ks F T → AgreeOutside (left [] i) (grown ks F) T × IsRoomy [] (grown ks F) T
grown_left [] i F T all held agree room = (agree, room)
grown_left (k ∷ ks) i F T all held agree room =
    let (agree', room') = size_grown i ks k F (grown_to k F) T all held.0
    (λ less. ap (λ b. cond b (edit F (size_edit F k.place k.size)) F) (lt_is (size_at F k.place) k.size less))
    (λ more. ap (λ b. cond b (edit F (size_edit F k.place k.size)) F) (lt_not (size_at F k.place) k.size more)) agree room in
    grown_left ks i (grown_to k F) T all held.1 agree' room'

pub cut_left : (ks : List KeptSize) (i : Inverse) (F T : Tree) → HoldsAll i T → AllByRecursion (HoldsSize T) ks → AgreeOutside (left_sizes ks i) F T × IsRoomy [] F T → AgreeOutside (left_sizes [] i) (cut ks F) T
cut_left [] i F T all held (agree, room) = agree
cut_left (k ∷ ks) i F T all held both =
    cut_left ks i (cut_to k F) T all held.1
    (size_cut i ks k F (cut_to k F) T all held.0
    (λ more. ap (λ b. cond b (edit F (size_edit F k.place k.size)) F) (lt_is k.size (size_at F k.place) more))
    (λ less. ap (λ b. cond b (edit F (size_edit F k.place k.size)) F) (lt_not k.size (size_at F k.place) less)) both)

pub reset_left : (rs : List Reset) (ks : List KeptBlocks) (F T : Tree) → AllByRecursion (HoldsReset T) rs → AgreeOutside (left_resets rs ks) F T → AgreeOutside (left_resets [] ks) (reset rs F) T
reset_left [] ks F T held agree = agree
reset_left (r ∷ rs) ks F T held agree = reset_left rs ks _ T held.1 (area.reset r (map reset_area rs ++ map blocks_area ks) F T held.0 agree)

pub written_some : (k : KeptBlocks) (F : Tree) → 0 < length k.bytes.items → 4096 * k.run.first + length k.bytes.items ≤ size_at F k.place → written_to k F ≡ edit F (blocks_edit F k)
written_some k F some fits =
    ap (λ b. cond b (cond (nat_le (BLOCK_SIZE * k.run.first + length k.bytes.items) (size_at F k.place)) (edit F (blocks_edit F k)) F) F) (lt_is 0 (length k.bytes.items) some)
    ∙ ap (λ b. cond b (edit F (blocks_edit F k)) F) (le_is (BLOCK_SIZE * k.run.first + length k.bytes.items) (size_at F k.place) fits)

pub written_none : (k : KeptBlocks) (F : Tree) → k.bytes.items ≡ [] → written_to k F ≡ F
written_none k F none =
    ap (λ n. cond (nat_lt 0 n) (cond (nat_le (BLOCK_SIZE * k.run.first + length k.bytes.items) (size_at F k.place)) (edit F (blocks_edit F k)) F) F) (ap length none)

pub written_left : (ks : List KeptBlocks) (F T : Tree) → AllByRecursion (HoldsBlocks T) ks → AgreeOutside (left_blocks ks) F T → AgreeOutside (left_blocks []) (written ks F) T
written_left [] F T held agree = agree
written_left (k ∷ ks) F T held agree = written_left ks (written_to k F) T held.1 (blocks_back ks k F (written_to k F) T held.0 (written_some k F) (written_none k F) agree)

pub undone_is_put_back : UndoneIsPutBack
undone_is_put_back i F T put =
    let all = held_all i T put.kept in
    let back = brought_left i.returns.items i F T put.kept.returns (left_over i F T put) in
    let F1 = brought_back i.returns.items F in
    let (agree, room) = grown_left i.sizes.items i F1 T all all.sizes back (first_roomy i F1 T all back) in
    let F2 = grown i.sizes.items F1 in
    let cut' = cut_left i.sizes.items i F2 T all all.sizes (agree, room) in
    let F3 = cut i.sizes.items F2 in
    let reset' = reset_left i.resets.items i.blocks.items F3 T all.resets cut' in
    all_back _ T (written_left i.blocks.items (reset i.resets.items F3) T all.blocks reset')
