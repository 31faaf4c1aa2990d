use Rattle.std.proofs.Common.{◌≡◌, ◌∙◌, false, true, refl, sym, ap}
use Rattle.su_table.specs.Query.{is_nothing}
use Rattle.su_op.specs.declared.areas.Part.TheVariants.{Kind as KindPart}
use Rattle.su_part_forest.proofs.Public.{kind_seen}
use Rattle.su_perform.specs.Loaded.{wanted_for}
use Rattle.su_part_inverse.proofs.Reading.{open_inode}
use Rattle.su_part_inverse.proofs.WholeAreas.{kind_in_whole, made_kind}
use Rattle.su_part_inverse.proofs.wholes.whole_kind.Goals as goal

pub returns-then-not-has_inode-clause-loaded : goal.returns-then-not-has_inode-clause-loaded
returns-then-not-has_inode-clause-loaded c T h has =
    absurd (let z : false ≡ true = c.if-not-has_inode.ensures.told T h (open_inode c.args.forest.now T h c.args.place.now (wanted_for KindPart) has) in cc)

pub returns-then-is_free-clause-value : goal.returns-then-is_free-clause-value
returns-then-is_free-clause-value c T h =
    let p = c.args.place.now in
    made_kind T p true (c.if-is_free.ensures ∙ ap is_nothing (kind_seen c.args.forest.now T h p (c.if-not-has_inode.ensures.found refl)))

pub returns-then-is_free-clause-can_keep : goal.returns-then-is_free-clause-can_keep
returns-then-is_free-clause-can_keep c T h =
    sym (c.if-is_free.ensures ∙ ap is_nothing (kind_seen c.args.forest.now T h c.args.place.now (c.if-not-has_inode.ensures.found refl)))

pub returns-else-is_free-clause-value : goal.returns-else-is_free-clause-value
returns-else-is_free-clause-value c T h =
    let p = c.args.place.now in
    made_kind T p false (c.if-is_free.ensures ∙ ap is_nothing (kind_seen c.args.forest.now T h p (c.if-not-has_inode.ensures.found refl)))

pub returns-else-is_free-clause-covers : goal.returns-else-is_free-clause-covers
returns-else-is_free-clause-covers c = kind_in_whole c.args.place.now
