use Rattle.std.proofs.Common.{ap}
use Rattle.std.specs.Str.Parse.{digits_value}
use Rattle.su_lms.specs.ParameterSets.{width_of}
use Rattle.su_arguments.proofs.line.params_of.Goals as goal

pub returns-in-text-text-clause-height : goal.returns-in-text-text-clause-height
returns-in-text-text-clause-height c = ap (digits_value 10) c.in-text-text.is-text-0

pub returns-in-text-text-clause-width : goal.returns-in-text-text-clause-width
unfolding width_of
returns-in-text-text-clause-width c = ap (digits_value 10) c.in-text-text.is-text-1

pub returns-in-text-text-2-clause-height : goal.returns-in-text-text-2-clause-height
returns-in-text-text-2-clause-height c = ap (digits_value 10) c.in-text-text-2.is-text-0

pub returns-in-text-text-2-clause-width : goal.returns-in-text-text-2-clause-width
unfolding width_of
returns-in-text-text-2-clause-width c = ap (digits_value 10) c.in-text-text-2.is-text-2-1

pub returns-in-text-text-3-clause-height : goal.returns-in-text-text-3-clause-height
returns-in-text-text-3-clause-height c = ap (digits_value 10) c.in-text-text-3.is-text-2-0

pub returns-in-text-text-3-clause-width : goal.returns-in-text-text-3-clause-width
unfolding width_of
returns-in-text-text-3-clause-width c = ap (digits_value 10) c.in-text-text-3.is-text-1

pub returns-in-text-text-4-clause-height : goal.returns-in-text-text-4-clause-height
returns-in-text-text-4-clause-height c = ap (digits_value 10) c.in-text-text-4.is-text-2-0

pub returns-in-text-text-4-clause-width : goal.returns-in-text-text-4-clause-width
unfolding width_of
returns-in-text-text-4-clause-width c = ap (digits_value 10) c.in-text-text-4.is-text-2-1
