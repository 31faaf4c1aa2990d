use Rattle.std.proofs.Common.{◌≡◌, true, false, ◌^◌, ap, sym, ◌∙◌, arith}
use Rattle.su_lms.specs.ParameterSets.{height_of}
use Rattle.su_lms.proofs.Decoding.{key_file_found, key_file_holds, same_key}
use Rattle.su_lms.proofs.key_files.KeyFile.decode.Goals as goal
use Rattle.su_lms.proofs.key_files.KeyFile.decode.Goals.{then-bytes-ne64-via-then-bytes-ne64, then-bytes-ne64-via-else-bytes-ne64+then-number_at-ne-MARK}

pub returns-then-bytes-ne64-clause-only : goal.returns-then-bytes-ne64-clause-only
returns-then-bytes-ne64-clause-only c = λ key next kept is.
    let holds = key_file_holds key next c.args.bytes.now kept is in
    elim c.then-bytes-ne64.branch [
      | then-bytes-ne64-via-then-bytes-ne64 w ↦ omega (arith, holds.size)
      | then-bytes-ne64-via-else-bytes-ne64+then-number_at-ne-MARK w ↦ omega (arith, holds.mark)
    ]

pub returns-in_err-params-clause-only : goal.returns-in_err-params-clause-only
returns-in_err-params-clause-only c = λ key next kept is.
    let holds = key_file_holds key next c.args.bytes.now kept is in
    let types = kept.made.types in
    let no : false ≡ true = c.in_err-params.ensures.accepted.1 (omega (arith, holds.lms), omega (arith, holds.lms), omega (arith, holds.ots), omega (arith, holds.ots)) in cc

pub returns-then-leaf_count-next-clause-only : goal.returns-then-leaf_count-next-clause-only
returns-then-leaf_count-next-clause-only c = λ key next kept is.
    let holds = key_file_holds key next c.args.bytes.now kept is in
    let leaves : 2 ^ height_of c.in_ok-params.params.lms ≡ 2 ^ height_of key.lms =
    ap (λ t. 2 ^ height_of t) (c.in_ok-params.ensures.value.0 ∙ c.number_at-2.ensures ∙ holds.lms) in
    omega (arith, holds.next_leaf, kept.in_tree, c.leaf_count.ensures.value)

pub returns-clause-found : goal.returns-clause-found
returns-clause-found c =
    key_file_found c.args.bytes.now _ _ _ _ _ (omega arith) (λ i. omega (arith, c.type_inv.bytes i)) (sym c.number_at.ensures ∙ omega arith)
    (c.in_ok-params.ensures.value.0 ∙ c.number_at-2.ensures) (c.in_ok-params.ensures.value.1 ∙ c.number_at-3.ensures)
    c.copy_from_slice.ensures.after c.part_at.ensures c.number_at-next.ensures

pub returns-clause-only : goal.returns-clause-only
returns-clause-only c = λ key next kept is.
    let holds = key_file_holds key next c.args.bytes.now kept is in (
      same_key key _ _ _ _ (c.in_ok-params.ensures.value.0 ∙ c.number_at-2.ensures ∙ holds.lms) (c.in_ok-params.ensures.value.1 ∙ c.number_at-3.ensures ∙ holds.ots)
          (c.copy_from_slice.ensures.after ∙ holds.id) (c.part_at.ensures ∙ holds.seed),
      c.number_at-next.ensures ∙ holds.next_leaf,
    )
