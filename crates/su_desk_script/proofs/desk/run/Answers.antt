use Rattle.su_desk_script.specs.Transcript.{status_of}
use Rattle.su_desk_script.proofs.Stepping.{continues_none, continues_further, continues_end}
use Rattle.su_desk_script.proofs.desk.run.Goals as goal

pub loop-number-init : goal.loop-number-init
loop-number-init g c = λ input before known contents. continues_none c.args.session 1 input before _ _ known contents

pub returns-in-Ends : goal.returns-in-Ends
returns-in-Ends g c = λ input before known contents.
    continues_end c.args.session c.loop-number.session 1 c.loop-number.number input before _ _ _ (status_of c.in-Ends.ending) (c.loop-number.invariant input before known contents) c.in-Ends.ensures

pub loop-number-preserved : goal.loop-number-preserved
loop-number-preserved g c = λ input before known contents.
    continues_further c.args.session c.loop-number.session _ 1 c.loop-number.number _ input before _ _ _ _ (c.loop-number.invariant input before known contents) c.in_default.ensures
