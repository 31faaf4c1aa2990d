use Rattle.std.proofs.Common.{◌≡◌, ◌∙◌, ◌+◌, ◌++◌, ◌∷◌, [], map, sym, ap, take, length, append-nil, arith}
use Rattle.std.proofs.lemmas.List.{take_more}
use Rattle.std.proofs.Math.Seq.{take-length}
use Rattle.su_table.specs.Tree.{genesis}
use Rattle.su_stored_desk.proofs.TrialLemmas.{handle_of, handles_among, handles_next, numbers_next, numbers_carried, carried_one, carried_none, handles_carried}
use Rattle.su_stored_desk.proofs.versions.carried_handles.Goals as goal
use Rattle.su_stored_desk.proofs.versions.carried_handles.Goals.{in-Group+then-carries+in_ok-push, in-Group+else-carries, in_default}

pub loop-principal-init : goal.loop-principal-init
loop-principal-init g c = record {
  groups = ap (map (λ x. x.0)) c.new-groups.ensures.items;
  value = λ T held. c.new-groups.ensures.items;
}

pub loop-principal-preserved : goal.loop-principal-preserved
loop-principal-preserved g c =
    let l = c.loop-principal in
    let w = c.args.written.now in
    let all = c.deref-principal-items.result.now in
    let p = c.principal-item.result in
    let ps = take l.principal-index all in
    let more = take_more all l.principal-index p c.loop-principal-test.true ∙ ap (λ x. ps ++ x ∷ []) (sym c.principal-item.is) in
    let next = take (l.principal-index + 1) all in
    record {
      groups = elim c.match-principal.branch [
        | in-Group+then-carries+in_ok-push b ↦ numbers_next w next ps p l.groups.items c.match-principal.groups.items ((b.in-Group.group, b.group_handle-handle.result) ∷ []) more l.invariant.groups
            (ap (λ v. v.items) b.groups-is ∙ b.in_ok-push.ensures.items)
            (sym (ap (map (λ x. x.0)) (carried_one genesis w p b.in-Group.group b.carries.result b.in-Group.is b.carries.ensures b.if-carries.true)))
        | in-Group+else-carries b ↦ numbers_next w next ps p l.groups.items c.match-principal.groups.items [] more l.invariant.groups
            (ap (λ v. v.items) b.groups-is ∙ sym (append-nil l.groups.items))
            (sym (ap (map (λ x. x.0)) (carried_none genesis w p b.in-Group.group b.carries.result b.in-Group.is b.carries.ensures b.if-carries.false)))
        | in_default b ↦ numbers_next w next ps p l.groups.items c.match-principal.groups.items [] more l.invariant.groups
            (ap (λ v. v.items) b.groups-is ∙ sym (append-nil l.groups.items))
            (sym (ap (map (λ x. x.0)) (ap (handle_of genesis w) b.in_default.is)))
      ];
      value = λ T held.
          let was = l.invariant.value T held in
          elim c.match-principal.branch [
            | in-Group+then-carries+in_ok-push b ↦ handles_next T w next ps p l.groups.items c.match-principal.groups.items more was
                (ap (λ v. v.items) b.groups-is ∙ b.in_ok-push.ensures.items
                ∙ ap (λ x. l.groups.items ++ x ∷ []) (λ i. (b.in-Group.group, b.group_handle-handle.ensures T held i))
                ∙ ap (λ xs. l.groups.items ++ xs) (sym (carried_one T w p b.in-Group.group b.carries.result b.in-Group.is b.carries.ensures b.if-carries.true)))
            | in-Group+else-carries b ↦ handles_next T w next ps p l.groups.items c.match-principal.groups.items more was
                (ap (λ v. v.items) b.groups-is ∙ sym (append-nil l.groups.items)
                ∙ ap (λ xs. l.groups.items ++ xs) (sym (carried_none T w p b.in-Group.group b.carries.result b.in-Group.is b.carries.ensures b.if-carries.false)))
            | in_default b ↦ handles_next T w next ps p l.groups.items c.match-principal.groups.items more was
                (ap (λ v. v.items) b.groups-is ∙ sym (append-nil l.groups.items)
                ∙ ap (λ xs. l.groups.items ++ xs) (sym (ap (handle_of T w) b.in_default.is)))
          ];
    }

pub returns-clause-groups : goal.returns-clause-groups
returns-clause-groups g c =
    let l = c.loop-principal in
    let all = c.deref-principal-items.result.now in
    let w = c.args.written.now in
    let index : l.principal-index ≡ length all = omega (arith, c.loop-principal-test.false, l.auto.principal-index-end) in
    l.invariant.groups ∙ ap (λ n. map (λ x. x.0) (handles_among genesis w (take n all))) index
    ∙ ap (λ ps. map (λ x. x.0) (handles_among genesis w ps)) (take-length all ∙ c.deref-principal-items.ensures.value ∙ c.in_ok-principals.ensures.value) ∙ numbers_carried w c.args.roster.now

pub returns-clause-value : goal.returns-clause-value
returns-clause-value g c T held =
    let l = c.loop-principal in
    let all = c.deref-principal-items.result.now in
    let w = c.args.written.now in
    let index : l.principal-index ≡ length all = omega (arith, c.loop-principal-test.false, l.auto.principal-index-end) in
    l.invariant.value T held ∙ ap (λ n. handles_among T w (take n all)) index ∙ ap (handles_among T w) (take-length all ∙ c.deref-principal-items.ensures.value ∙ c.in_ok-principals.ensures.value) ∙ handles_carried T w c.args.roster.now
