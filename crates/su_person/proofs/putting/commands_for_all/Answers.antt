use Rattle.std.proofs.Common.{◌∙◌, ◌++◌, [], List, None, false, ap, append-nil, append_assoc, refl, sym}
use Rattle.su_draft.specs.declared.commands.Command.{Command}
use Rattle.su_client_work.proofs.Public.{asks_then}
use Rattle.su_person.specs.declared.putting.NewContents.{NewContents}
use Rattle.su_person.proofs.PutLemmas.{asks_itself, puts_next}
use Rattle.su_person.proofs.putting.commands_for_all.Goals as goal

none : NewContents
none = record {
  path = record { ref_ptr = (0, 0); now = [] };
  bytes = record { ref_ptr = (0, 0); now = [] };
  seen = None;
  over = false;
}

pub loop-new-init : goal.loop-new-init
loop-new-init g c = record { asks = asks_itself c.args.member.now; puts = ([], sym (append-nil c.args.first.items), λ clear. refl) }

pub loop-new-preserved : goal.loop-new-preserved
unfolding none
loop-new-preserved g c =
    let l = c.loop-new in
    let so_far = l.invariant.puts in
    record {
      asks = asks_then c.args.member.now l.member c.commands_if_lacking.new.member l.invariant.asks c.commands_if_lacking.ensures.asks;
      puts = (
        so_far.0 ++ c.in_ok-next.next.items,
        c.in_ok-append.ensures.items ∙ ap (λ (cs : List Command). cs ++ c.in_ok-next.next.items) so_far.1
            ∙ append_assoc c.args.first.items so_far.0 c.in_ok-next.next.items,
        puts_next c.args.files.now l.new-index none c.args.member.now l.member c.commands_if_lacking.new.member so_far.0 c.in_ok-next.next.items c.loop-new-test.true l.invariant.asks
            c.commands_if_lacking.ensures.asks so_far.2 c.in_ok-next.ensures.puts,
      );
    }

pub returns-in_err-next-clause-asks : goal.returns-in_err-next-clause-asks
returns-in_err-next-clause-asks g c =
    asks_then c.args.member.now c.loop-new.member c.commands_if_lacking.new.member c.loop-new.invariant.asks c.commands_if_lacking.ensures.asks

pub returns-in_err-append-clause-asks : goal.returns-in_err-append-clause-asks
returns-in_err-append-clause-asks g c =
    asks_then c.args.member.now c.loop-new.member c.commands_if_lacking.new.member c.loop-new.invariant.asks c.commands_if_lacking.ensures.asks
