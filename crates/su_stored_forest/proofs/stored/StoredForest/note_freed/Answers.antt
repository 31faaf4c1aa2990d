use Rattle.std.proofs.Common.{◌∙◌, ◌++◌, ◌∷◌, [], ap, subst, sym, take}
use Rattle.std.proofs.lemmas.List.{take_all, take_more}
use Rattle.su_bytes.specs.declared.file_ids.FileId.TheVariants.{Group}
use Rattle.su_table.specs.Query.{is_free_at, is_pointer_free}
use Rattle.su_stored_forest.specs.Freed.{KnowsTakenBeside, free_or_in, unled_or_in}
use Rattle.su_stored_forest.proofs.FreedLemmas.{all_weaker, groups_agree, users_agree}
use Rattle.su_stored_forest.proofs.stored.StoredForest.note_freed.Goals as goal

pub loop-area-preserved : goal.loop-area-preserved
loop-area-preserved g c =
    let all = c.args.areas.now in
    let i = c.loop-area.area-index in
    let more = take_more all i c.area-item.result c.loop-area-test.true ∙ ap (λ x. take i all ++ x ∷ []) (sym c.area-item.is) in (
      λ T taken. subst (λ w. KnowsTakenBeside w T c.note_area.new.self) (sym more) (c.note_area.ensures.taken T (take i all) (c.loop-area.invariant.0 T taken)),
      c.note_area.ensures.forest ∙ c.loop-area.invariant.1,
      c.note_area.ensures.source ∙ c.loop-area.invariant.2,
    )

pub returns-clause-taken : goal.returns-clause-taken
returns-clause-taken g c T V taken agree =
    let all = c.args.areas.now in
    let b = subst (λ w. KnowsTakenBeside w T c.loop-area.self) (take_all c.loop-area.area-index all c.loop-area-test.false) (c.loop-area.invariant.0 T taken) in
    record {
      users = all_weaker (free_or_in all T) (λ u n. is_free_at V (u, n)) c.loop-area.self.users.items (users_agree T V all agree) b.users;
      groups = all_weaker (unled_or_in all T) (λ k n. is_pointer_free V (Group k n)) c.loop-area.self.groups.items (groups_agree T V all agree) b.groups;
    }
