use Rattle.std.proofs.Common.{◌++◌, map, refl, subst, sym, ap, ◌∙◌}
use Rattle.std.specs.List.{AllZip}
use Rattle.su_pieces.specs.Put.{Does, cut_of, write_of}
use Rattle.su_pieces.proofs.PutLemmas.{zip_cut, zip_uncut}
use Rattle.su_pieces.proofs.put.changed.Goals as goal
use Rattle.su_pieces.proofs.put.changed.Goals.{then-new-old+in_ok-from_slice+in_ok-push, else-new-old}

pub returns : goal.returns
returns c =
    let steps = map (write_of c.args.new.now) c.in_ok-pieces.pieces.items in
    let all : AllZip (Does c.args.path.now) steps c.in_ok-commands.commands.items =
    subst (λ ps. AllZip (Does c.args.path.now) (map (write_of c.args.new.now) ps) c.in_ok-commands.commands.items) c.as_slice.ensures.value c.in_ok-commands.ensures in
    record {
      pieces = c.in_ok-pieces.pieces.items;
      differing = c.in_ok-pieces.ensures.pieces;
      steps = elim c.if-new-old.branch [
        | then-new-old+in_ok-from_slice+in_ok-push w ↦
            subst (λ cs. AllZip (Does c.args.path.now) (steps ++ cut_of c.args.old.now c.args.new.now) cs) (sym (ap (λ v. v.items) w.commands-is ∙ w.in_ok-push.ensures.items))
            (zip_cut c.args.path.now c.args.old.now c.args.new.now steps c.in_ok-commands.commands.items _ w.if-new-old.true all (w.in_ok-from_slice.ensures.items, refl))
        | else-new-old w ↦
            subst (λ cs. AllZip (Does c.args.path.now) (steps ++ cut_of c.args.old.now c.args.new.now) cs) (sym (ap (λ v. v.items) w.commands-is))
            (zip_uncut c.args.path.now c.args.old.now c.args.new.now steps c.in_ok-commands.commands.items w.if-new-old.false all)
      ];
    }
