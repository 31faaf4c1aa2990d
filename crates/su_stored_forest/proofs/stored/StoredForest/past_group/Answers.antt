use Rattle.std.proofs.Common.{◌∙◌, ap, sym, arith}
use Rattle.std.specs.Prelude.{option_copied, slice_get}
use Rattle.su_fronts.specs.Front.{AreFronts}
use Rattle.su_bytes.specs.declared.file_ids.FileId.TheVariants.{Group}
use Rattle.su_table.specs.Query.{is_pointer_free}
use Rattle.su_stored_forest.proofs.StoredLemmas.{there}
use Rattle.su_stored_forest.proofs.stored.StoredForest.past_group.Goals as goal

pub returns-in-Some-clause-taken : goal.returns-in-Some-clause-taken
returns-in-Some-clause-taken g c T shown k low high =
    c.past.ensures.taken (λ n. is_pointer_free T (Group c.args.group n)) (there (AreFronts (λ n. is_pointer_free T (Group c.args.group n))) (slice_get c.args.self.now.groups.items c.args.group) c.in-Some.fronts.now (sym c.group_fronts.ensures ∙ ap option_copied c.in-Some.is) (shown.taken.groups c.args.group))
    k (omega (arith, low, c.number.ensures.value)) high
