use Rattle.std.proofs.Common.{◌∙◌, ap, sym, arith}
use Rattle.std.specs.Prelude.{option_copied, slice_get}
use Rattle.su_fronts.specs.Front.{AreFronts}
use Rattle.su_table.specs.Query.{is_free_at}
use Rattle.su_stored_forest.proofs.StoredLemmas.{there}
use Rattle.su_stored_forest.proofs.stored.StoredForest.past_user.Goals as goal

pub returns-in-Some-clause-taken : goal.returns-in-Some-clause-taken
returns-in-Some-clause-taken g c T shown k low high =
    c.past.ensures.taken (λ n. is_free_at T (c.args.user, n)) (there (AreFronts (λ n. is_free_at T (c.args.user, n))) (slice_get c.args.self.now.users.items c.args.user) c.in-Some.fronts.now (sym c.user_fronts.ensures ∙ ap option_copied c.in-Some.is) (shown.taken.users c.args.user))
    k (omega (arith, low, c.number.ensures.value)) high
