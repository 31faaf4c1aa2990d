use Rattle.std.proofs.Common.{sym, refl, inr}
use Rattle.su_reading.proofs.Public.{ends, err_at_once}
use Rattle.su_draft.specs.Command.{draft}
use Rattle.su_read_draft.proofs.commands.draft.Goals as goal

pub returns-then-not-has_user : goal.returns-then-not-has_user
unfolding draft
returns-then-not-has_user g c = record { works_out = err_at_once _ refl (g.met.R.TreeReader.follows_itself c.args.reader.now) (λ T. inr (rw (sym c.if-not-has_user.ensures) refl)) }
