use Rattle.std.proofs.Common.{◌∙◌, ap, sym}
use Rattle.su_bytes.specs.RosterBytes.{roster_digest}
use Rattle.su_view.specs.Entry.{committed_at}
use Rattle.su_compare.proofs.Heads.{digest_told, head_at_first, head_there, none_told}
use Rattle.su_compare.proofs.comparing.head_at.Goals as goal

pub returns-in-Some : goal.returns-in-Some
returns-in-Some g c =
    let v = c.args.view.now.holding in
    let (committed, found, is) = digest_told (committed_at v.held c.args.number) c.in-Some.digest (sym c.in-Some.is ∙ c.digest.ensures) in
    is ∙ sym (head_there v.roster v.held c.args.number committed found)

pub returns-in-None : goal.returns-in-None
returns-in-None g c =
    let v = c.args.view.now.holding in
    c.digest-in-None.ensures ∙ ap roster_digest c.roster.ensures ∙ sym (head_at_first v.roster v.held c.args.number c.requires (none_told (committed_at v.held c.args.number) (sym c.in-None.is ∙ c.digest.ensures)))
