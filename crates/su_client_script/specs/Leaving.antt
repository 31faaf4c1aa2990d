-- How a client leaves the tree to its server, behind a command that made a commit. (This project's
-- own.)
use Rattle.std.specs.Prelude.{◌≡◌}
use Rattle.su_client.specs.Link.{Follows}
use Rattle.su_client_work.specs.Member.{MemberState, OnlyAsks}
use Rattle.su_client_lines.specs.declared.commands.ClientCommand.{ClientCommand}
use Rattle.su_client_lines.specs.declared.commands.ClientCommand.TheVariants as command

-- The server is handed what is loaded of the tree, if that. What the client holds and what it has
-- signed stay.
pub record Leaves (s t : MemberState) : Type 0 where
  pub asks : OnlyAsks s t
  pub follows : Follows s.link t.link

-- So it may do behind a command, but for a question.
abbrev pub LeavesBehind : ClientCommand → MemberState → MemberState → Type 0
LeavesBehind (command.List path) s t = t ≡ s
LeavesBehind (command.Read path off len) s t = t ≡ s
LeavesBehind (command.Save file) s t = t ≡ s
LeavesBehind _ s t = Leaves s t
