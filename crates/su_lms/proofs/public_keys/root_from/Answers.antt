use Rattle.std.proofs.Common.{◌≡◌, ℕ, ◌+◌, ◌*◌, ◌/◌, ◌^◌, List, refl, ap, sym, ◌∙◌, arith, add-one}
use Rattle.su_lms.specs.ParameterSets.{height_of}
use Rattle.su_lms.specs.Strings.{part_at}
use Rattle.su_lms.specs.MerkleTree.{leaf_value, parent_value, climb}
use Rattle.su_lms.specs.Signature.{path_value_of, leaf_of}
use Rattle.su_lms.proofs.public_keys.root_from.Goals as goal

pub loop-level-init : goal.loop-level-init
unfolding climb
loop-level-init c = refl

pub loop-level-preserved : goal.loop-level-preserved
unfolding climb
loop-level-preserved c =
    let id : List ℕ = c.args.id.now in
    let leaf : ℕ = c.leaf_count.result + c.number_at.result in
    let level : ℕ = c.loop-level.level in
    let sibling : c.part_at-sibling.result ≡ path_value_of c.args.ots c.args.signature.now level =
    c.part_at-sibling.ensures ∙ ap (λ n. part_at (44 + 32 * n + 32 * level) c.args.signature.now) (c.from.ensures ∙ c.chain_count.ensures.value) in
    c.parent_value-value.ensures
    ∙ ap (λ s. parent_value id (leaf / 2 ^ level) s c.loop-level.value) sibling
    ∙ ap (λ v. parent_value id (leaf / 2 ^ level) (path_value_of c.args.ots c.args.signature.now level) v) c.loop-level.invariant
    ∙ ap (λ n. climb id (path_value_of c.args.ots c.args.signature.now) leaf c.leaf_value-value.result n) (sym (add-one level))

pub returns : goal.returns
returns c =
    let id : List ℕ = c.args.id.now in
    let signature : List ℕ = c.args.signature.now in
    let path : ℕ → List ℕ = path_value_of c.args.ots signature in
    let all : c.loop-level.level ≡ height_of c.args.lms = omega (arith, c.height_of-level-end.ensures.value) in
    let leaf : c.leaf_count.result + c.number_at.result ≡ 2 ^ height_of c.args.lms + leaf_of signature =
    ap (λ n. n + c.number_at.result) c.leaf_count.ensures.value ∙ ap (λ n. 2 ^ height_of c.args.lms + n) c.number_at.ensures in
    c.loop-level.invariant
    ∙ ap (λ v. climb id path (c.leaf_count.result + c.number_at.result) v c.loop-level.level) c.leaf_value-value.ensures
    ∙ ap (λ r. climb id path r (leaf_value id r c.args.key.now) c.loop-level.level) leaf
    ∙ ap (climb id path (2 ^ height_of c.args.lms + leaf_of signature) (leaf_value id (2 ^ height_of c.args.lms + leaf_of signature) c.args.key.now)) all
