use Rattle.std.proofs.Common.{◌∙◌}
use Rattle.su_seat_service.proofs.workers.Worker.store_naming.Goals as goal

pub store-requires : goal.store-requires
store-requires g c = λ d is spelled k item within. c.in_ok-items.ensures.digests k item within ∙ c.requires d is spelled
