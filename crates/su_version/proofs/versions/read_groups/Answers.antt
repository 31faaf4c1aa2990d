use Rattle.std.proofs.Common.{◌+◌, arith}
use Rattle.std.specs.Prelude.{IfErr}
use Rattle.su_format.specs.Reading.{Refuses}
use Rattle.su_format.proofs.Public.{goes_on_at_first, goes_on_after, goes_nowhere, goes_to_end, then_took, then_refused, first_refused, handed_on_to}
use Rattle.su_version.specs.Version.{carried_format, groups_format}
use Rattle.su_version.proofs.versions.read_groups.Goals as goal

pub returns-in_err-count-clause-refused : goal.returns-in_err-count-clause-refused
unfolding groups_format
returns-in_err-count-clause-refused c =
    handed_on_to (λ r. IfErr r (Refuses groups_format c.args.reader.now)) _ _ c.from_residual.ensures.1
    (first_refused _ _ c.in_err-count.ensures.takes)

pub loop-init : goal.loop-init
loop-init c = rw c.new-groups.ensures.items (goes_on_at_first carried_format (λ g. g.0 + 1) c.in_ok-count.count 0 c.take_u8.new.self)

pub returns-in_err-group-clause-refused : goal.returns-in_err-group-clause-refused
unfolding groups_format
returns-in_err-group-clause-refused c =
    handed_on_to (λ r. IfErr r (Refuses groups_format c.args.reader.now)) _ _ c.from_residual-in_err-group.ensures.1
    (then_refused _ _ c.in_ok-count.ensures.takes (goes_nowhere carried_format (λ g. g.0 + 1) c.in_ok-count.count 0 c.take_u8.new.self c.loop.counter c.loop.least c.loop.reader c.loop.groups.items _ (omega arith) c.in_err-group.ensures c.loop.invariant))

pub loop-preserved : goal.loop-preserved
loop-preserved c =
    rw (c.in_ok-push.ensures.items, c.number-least.ensures.value)
    (goes_on_after carried_format (λ g. g.0 + 1) c.in_ok-count.count 0 c.take_u8.new.self c.loop.counter c.loop.least c.loop.reader c.read_carried.new.reader c.loop.groups.items _ (omega arith) c.in_ok-group.ensures c.loop.invariant)

pub returns-clause-found : goal.returns-clause-found
unfolding groups_format
returns-clause-found c =
    then_took _ _ c.in_ok-count.ensures.takes (goes_to_end carried_format (λ g. g.0 + 1) c.in_ok-count.count 0 c.take_u8.new.self c.loop.counter c.loop.least c.loop.reader c.loop.groups.items (omega arith) c.loop.invariant)
