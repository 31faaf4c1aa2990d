use Rattle.std.proofs.Common.{sym, refl, ap, inl, ◌∙◌}
use Rattle.su_client.specs.Link.{LinkState}
use Rattle.su_client.specs.Following.{follows_itself}
use Rattle.su_client.proofs.links.Link.ask.Goals as goal

pub returns-then-has_failed : goal.returns-then-has_failed
returns-then-has_failed g c = inl (refl, sym c.has_failed.ensures ∙ c.if-has_failed.true, follows_itself c.args.self.now)
