use Rattle.std.proofs.Common.{◌≡◌, ◌∙◌, sym, false, true, Some, None, refl}
use Rattle.su_part_forest.proofs.Public.{pointer_seen}
use Rattle.su_part_forest.specs.Seen.{seen}
use Rattle.su_inverse.proofs.HeldLemmas.{pointer_at}
use Rattle.su_part_inverse.proofs.inverses.keep_pointer.Goals as goal

pub returns-then-not-has_pointer-clause-loaded : goal.returns-then-not-has_pointer-clause-loaded
returns-then-not-has_pointer-clause-loaded c T has = absurd (let z : false ≡ true = c.if-not-has_pointer.ensures.1 has in cc)

pub returns-in-Some-clause-holds : goal.returns-in-Some-clause-holds
returns-in-Some-clause-holds c T h =
    sym (pointer_seen c.args.forest.now T h c.args.file.now (c.if-not-has_pointer.ensures.0 refl))
    ∙ pointer_at (seen c.args.forest.now) c.args.file.now.0 c.args.file.now.1 (Some c.in-Some.place) (c.in-Some.ensures (T, h))

pub returns-in-None-clause-holds : goal.returns-in-None-clause-holds
returns-in-None-clause-holds c T h =
    sym (pointer_seen c.args.forest.now T h c.args.file.now (c.if-not-has_pointer.ensures.0 refl))
    ∙ pointer_at (seen c.args.forest.now) c.args.file.now.0 c.args.file.now.1 None (c.in-None.ensures (T, h))
