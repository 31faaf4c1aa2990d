-- How a client at work stands in a run. (SUNDR, section 3.3.)
use Rattle.std.specs.Prelude.{◌≡◌, ℕ, List, ◌++◌, map}
use Rattle.su_version.specs.Commit.{Commit}
use Rattle.su_legal.specs.Act.{Act}
use Rattle.su_fork.specs.Events.{World, Event, Run}
use Rattle.su_fork.specs.Calls.{holding_after, acting}
use Rattle.su_client_work.specs.Member.{MemberState}
use Rattle.su_client_work.specs.Work.{signed_in}

-- The run goes on with acts of client k, which then holds what they leave. What they sign are just
-- the version structures of the commits that were signed with the client's keys meanwhile.
pub record GoesOn (w : World) (es : List Event) (k : ℕ) (s t : MemberState) : Type 0 where
  pub acts : List Act
  pub commits : List Commit
  pub run : Run w (es ++ acting k acts)
  pub holds : t.holding ≡ holding_after w (es ++ acting k acts) k s.holding.itemless
  pub signed : t.signed ≡ s.signed ++ commits
  pub signs : signed_in acts ≡ map (λ c. c.version) commits
