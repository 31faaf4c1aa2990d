use Rattle.su_shared.specs.Shares.{AreRecords}
use Rattle.std.proofs.Common.{sym, subst}
use Rattle.su_book.specs.Machine.{BookState}
use Rattle.su_shared.proofs.Closing.{stands}
use Rattle.su_shared.proofs.shared.SharedBook.close.Goals as goal

pub returns-in-Ok-clause-ends : goal.returns-in-Ok-clause-ends
returns-in-Ok-clause-ends g c =
    let held = c.into_inner-held.result.held in
    let (sorted, order, all, knows) = c.in-Ok.ensures.all in
    record {
      holds_steps = record {
        records = held.records;
        are = subst (λ (b : BookState). AreRecords held.records b.journal) (sym c.in-Ok.ensures.book) c.orders.ensures.records;
        held = c.into_inner-held.result.kept;
      };
      sorted = sorted;
      order = order;
      each = stands held c.in-Ok.book sorted c.in-Ok.ensures.book c.orders.ensures.orderly all knows;
    }
