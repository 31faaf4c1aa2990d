use Rattle.su_client_work.proofs.Public.{works_then}
use Rattle.su_client_script.proofs.keys.undo_last.Goals as goal

pub returns-clause-works : goal.returns-clause-works
returns-clause-works g c =
    works_then c.args.member.now c.move_on.new.member c.undo_last.new.self c.move_on.ensures.works c.undo_last.ensures.works

pub returns-clause-commits : goal.returns-clause-commits
returns-clause-commits g c =
    let undone = c.undo_last.ensures in (
      c.move_on.new.member,
      c.move_on.ensures.moves,
      record {
        last = λ clear. record { signs = undone.signs clear; published = undone.published clear };
        signs = undone.undoes;
        published = undone.undone;
      },
    )
