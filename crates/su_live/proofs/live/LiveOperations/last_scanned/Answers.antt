use Rattle.std.proofs.Common.{◌-◌, ◌∙◌, sym, arith}
use Rattle.su_live.proofs.BlockerLemmas.{none_above_there, none_between, none_between_bound, none_from_there, none_there}
use Rattle.su_live.proofs.live.LiveOperations.last_scanned.Goals as goal

pub loop-number-init : goal.loop-number-init
loop-number-init g c = none_between c.args.written.now.writes.items c.args.self.now c.args.up_to

pub returns-then-number-above-clause-none : goal.returns-then-number-above-clause-none
returns-then-number-above-clause-none g c =
    let w = c.args.written.now.writes.items in
    none_between_bound w c.args.self.now c.in-Some.number c.args.up_to c.args.above
    (none_above_there w c.args.self.now c.loop-number.bound c.args.up_to c.in-Some.number c.loop-number.invariant c.in-Some.ensures.last) c.if-number-above.true

pub returns-then-reads-clause-last : goal.returns-then-reads-clause-last
returns-then-reads-clause-last g c =
    (none_above_there c.args.written.now.writes.items c.args.self.now c.loop-number.bound c.args.up_to c.in-Some.number c.loop-number.invariant c.in-Some.ensures.last).none

pub loop-number-preserved : goal.loop-number-preserved
loop-number-preserved g c =
    let w = c.args.written.now.writes.items in
    none_from_there w c.args.self.now c.args.up_to c.in-Some.number (c.in-Some.number - 1)
    (none_above_there w c.args.self.now c.loop-number.bound c.args.up_to c.in-Some.number c.loop-number.invariant c.in-Some.ensures.last)
    (sym c.reads.ensures ∙ c.if-reads.false) (omega arith)

pub returns-clause-none : goal.returns-clause-none
returns-clause-none g c =
    none_there c.args.written.now.writes.items c.args.self.now c.loop-number.bound c.args.up_to c.args.above c.loop-number.invariant c.in_default.ensures.none
