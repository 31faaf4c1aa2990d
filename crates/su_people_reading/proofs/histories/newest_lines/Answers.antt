use Rattle.std.proofs.Common.{sym, subst}
use Rattle.su_client.specs.Following.{follows_itself}
use Rattle.su_client.specs.Link.{Follows}
use Rattle.su_client_work.specs.Member.{MemberState}
use Rattle.su_people_reading.proofs.histories.newest_lines.Goals.{in-Some+in_ok-file, in_default}
use Rattle.su_people_reading.proofs.histories.newest_lines.Goals as goal

pub returns-clause-follows : goal.returns-clause-follows
returns-clause-follows g c =
    elim c.match-path.branch [
      | in-Some+in_ok-file w ↦ subst (λ (m : MemberState). Follows c.args.member.now.link m.link) (sym w.member-is) w.find_held.ensures.follows
      | in_default w ↦ subst (λ (m : MemberState). Follows c.args.member.now.link m.link) (sym w.member-is) (follows_itself c.args.member.now.link)
    ]
