use Rattle.std.proofs.Common.{◌∙◌, sym}
use Rattle.su_part_inverse.proofs.Answering.{not_some}
use Rattle.su_part_inverse.proofs.PackedLemmas.{packed_so}
use Rattle.su_part_inverse.proofs.kept.pack_small.Goals as goal

pub returns-clause-as_before : goal.returns-clause-as_before
returns-clause-as_before c w was =
    packed_so c.args.inverse.now (record c.args.inverse.now { returns = c.new-2.result; sizes = c.new-3.result; resets = c.new-4.result }) w c.args.packed.now c.in_ok-small.small
    (not_some c.args.packed.now (sym c.is_some.ensures ∙ c.if-is_some.false)) (record { returns = cc; sizes = cc; resets = cc }) c.in_ok-small.ensures.value was
