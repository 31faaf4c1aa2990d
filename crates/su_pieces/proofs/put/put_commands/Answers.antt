use Rattle.std.proofs.Common.{Some, ap, sym, ◌∙◌}
use Rattle.std.proofs.lemmas.Result.{IfOk-weaker}
use Rattle.std.specs.Option.{option_copied}
use Rattle.su_pieces.proofs.PutLemmas.{put_same}
use Rattle.su_pieces.proofs.put.put_commands.Goals as goal

pub returns-in-Some-clause-none : goal.returns-in-Some-clause-none
returns-in-Some-clause-none c =
    IfOk-weaker c.changed.result _ _
    (λ commands put same. put_same c.args.path.now (Some c.in-Some.old.now) c.args.new.now commands.items put (sym (ap option_copied c.in-Some.is) ∙ same)) c.changed.ensures
