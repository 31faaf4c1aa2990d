use Rattle.std.proofs.Common.{◌≡◌, ◌∙◌, ◌++◌, [], sym, append-nil, IfErr}
use Rattle.std.specs.List.{flat_map}
use Rattle.su_bytes.specs.declared.refusals.Refusal.TheVariants.{NoMemory}
use Rattle.su_format.proofs.Public.{handed_on_to}
use Rattle.su_part_inverse.specs.Small.{reset_bytes, size_bytes}
use Rattle.su_part_inverse.proofs.packed.Packed.unpack.Goals as goal

pub returns-clause-small : goal.returns-clause-small
returns-clause-small c rs zs ss s =
    let bytes_are : c.new-reader.result.left ≡ c.args.self.now.bytes.items = cc in
    let behind = flat_map reset_bytes ss in
    let first = c.in_ok-returns.ensures.value rs (flat_map size_bytes zs ++ behind) (record { is = s.returns; spelled = bytes_are ∙ s.spelled }) in
    let second = c.in_ok-sizes.ensures.value zs behind (record { is = s.sizes; spelled = first.1 }) in
    let third = c.in_ok-resets.ensures.value ss [] (record { is = s.resets; spelled = second.1 ∙ sym (append-nil behind) }) in
    record { returns = first.0; sizes = second.0; resets = third.0 }

pub returns-in_err-resets-clause-refused : goal.returns-in_err-resets-clause-refused
returns-in_err-resets-clause-refused c rs zs ss s =
    let bytes_are : c.new-reader.result.left ≡ c.args.self.now.bytes.items = cc in
    let behind = flat_map reset_bytes ss in
    let first = c.in_ok-returns.ensures.value rs (flat_map size_bytes zs ++ behind) (record { is = s.returns; spelled = bytes_are ∙ s.spelled }) in
    let second = c.in_ok-sizes.ensures.value zs behind (record { is = s.sizes; spelled = first.1 }) in
    handed_on_to (λ r. IfErr r (λ e. e ≡ NoMemory)) _ _ c.from_residual-in_err-resets.ensures.1 (c.in_err-resets.ensures.refused ss [] (record { is = s.resets; spelled = second.1 ∙ sym (append-nil behind) }))
