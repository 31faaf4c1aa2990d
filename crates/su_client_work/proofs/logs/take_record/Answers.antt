use Rattle.std.proofs.Common.{◌∷◌, [], refl, subst}
use Rattle.su_log.specs.Record.{Spell}
use Rattle.su_stored_desk.proofs.Public.{asks_nothing}
use Rattle.su_view.specs.Viewed.{Grows, desk_of}
use Rattle.su_client_work.proofs.TakenLogs.{took_record}
use Rattle.su_client_work.proofs.logs.take_record.Goals as goal

pub returns-then-not-is_item-clause-asks : goal.returns-then-not-is_item-clause-asks
returns-then-not-is_item-clause-asks g c = asks_nothing g.met.S.BlockSource.follows_itself (desk_of c.args.view.now) (desk_of c.args.view.now) refl refl refl

pub returns-in-Err-clause-asks : goal.returns-in-Err-clause-asks
returns-in-Err-clause-asks g c = asks_nothing g.met.S.BlockSource.follows_itself (desk_of c.args.view.now) (desk_of c.args.view.now) refl refl refl

pub returns-clause-took : goal.returns-clause-took
returns-clause-took g c =
    took_record c.accept_with.result _ _ _ (λ d. Grows g.S.BlockSource.may_give c.args.view.now (d ∷ []) c.accept_with.new.self)
    (subst (Spell c.args.next.bytes.items) c.in-Ok.is c.requires.read.found).1 c.accept_with.ensures.took
