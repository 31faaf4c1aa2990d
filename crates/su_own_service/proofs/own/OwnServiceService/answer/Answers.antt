use Rattle.su_own_service.proofs.own.OwnServiceService.answer.Goals as goal

pub returns-in-Commit : goal.returns-in-Commit
returns-in-Commit c = rw (c.in-Commit.is, c.reply_or_refusal-in-Commit.ensures) c.store.ensures
