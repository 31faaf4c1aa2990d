use Rattle.std.proofs.Common.{◌≡◌, ◌∙◌, Ok, ap, subst, sym}
use Rattle.su_client.specs.Following.{follows_on}
use Rattle.su_draft.specs.Walk.{found}
use Rattle.su_table.specs.Query.{listing}
use Rattle.su_view.specs.Holding.{HoldingState, tree_of_list}
use Rattle.su_client_work.specs.Turn.{Looks}
use Rattle.su_client_work.proofs.Taking.{only_asks, only_then}
use Rattle.su_client_work.proofs.Turns.{comes_on, looked_asks}
use Rattle.su_client_work.proofs.members.Member.list.Goals as goal

pub returns-in_err-file-clause-takes : goal.returns-in_err-file-clause-takes
returns-in_err-file-clause-takes g c =
    only_then c.args.self.now c.look.new.self c.find_held.new.self c.look.ensures.takes (only_asks c.look.new.self c.find_held.new.self c.find_held.ensures.asks)

pub returns-in_err-file-clause-link : goal.returns-in_err-file-clause-link
returns-in_err-file-clause-link g c = comes_on _ c.args.self.now.link c.look.new.self.link c.find_held.new.self.link c.look.ensures.link c.find_held.ensures.follows

pub returns-in_err-list_held-clause-takes : goal.returns-in_err-list_held-clause-takes
returns-in_err-list_held-clause-takes g c =
    only_then c.args.self.now c.look.new.self c.list_held.new.self c.look.ensures.takes
    (only_then c.look.new.self c.find_held.new.self c.list_held.new.self (only_asks c.look.new.self c.find_held.new.self c.find_held.ensures.asks)
    (only_asks c.find_held.new.self c.list_held.new.self c.list_held.ensures.asks))

pub returns-in_err-list_held-clause-link : goal.returns-in_err-list_held-clause-link
returns-in_err-list_held-clause-link g c =
    comes_on _ c.args.self.now.link c.look.new.self.link c.list_held.new.self.link c.look.ensures.link
    (follows_on c.look.new.self.link c.find_held.new.self.link c.list_held.new.self.link c.find_held.ensures.follows c.list_held.ensures.follows)

pub returns-clause-takes : goal.returns-clause-takes
returns-clause-takes g c =
    only_then c.args.self.now c.look.new.self c.list_held.new.self c.look.ensures.takes
    (only_then c.look.new.self c.find_held.new.self c.list_held.new.self (only_asks c.look.new.self c.find_held.new.self c.find_held.ensures.asks)
    (only_asks c.find_held.new.self c.list_held.new.self c.list_held.ensures.asks))

pub returns-clause-link : goal.returns-clause-link
returns-clause-link g c =
    comes_on _ c.args.self.now.link c.look.new.self.link c.list_held.new.self.link c.look.ensures.link
    (follows_on c.look.new.self.link c.find_held.new.self.link c.list_held.new.self.link c.find_held.ensures.follows c.list_held.ensures.follows)

pub returns-clause-looks : goal.returns-clause-looks
returns-clause-looks g c = (
  c.look.new.self.link,
  subst (λ (v : HoldingState). Looks g.A.Surroundings.may_connect c.args.self.now.link v c.look.new.self.link) (sym (c.list_held.ensures.asks.holding ∙ c.find_held.ensures.asks.holding)) c.in_ok-look.ensures.looks,
  follows_on c.look.new.self.link c.find_held.new.self.link c.list_held.new.self.link c.find_held.ensures.follows c.list_held.ensures.follows,
)

pub returns-clause-lists : goal.returns-clause-lists
returns-clause-lists g c = λ clear.
    let one = c.find_held.ensures.asks.holding in
    let two = c.list_held.ensures.asks.holding in (
      c.in_ok-file.file,
      subst (λ (v : HoldingState). found (tree_of_list v) c.args.path.now ≡ Ok c.in_ok-file.file) (sym (two ∙ one)) (c.in_ok-file.ensures.found (c.list_held.ensures.asks.clear clear)),
      subst (λ (v : HoldingState). listing (tree_of_list v) c.in_ok-file.file ≡ Ok c.in_ok-list_held.field-0.items) (sym two) (c.in_ok-list_held.ensures.ok clear),
    )
