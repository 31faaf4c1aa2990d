use Rattle.su_fork.specs.Events.{all_taken}
use Rattle.su_fork.specs.Premises.{hashed}
use Rattle.su_fork.proofs.Heads.{same_head}
use Rattle.su_fork.proofs.Runs.{within_seen, roster_within, held_list}
use Rattle.su_fork.proofs.laws.heads_tell_lists.Goals as goal

pub returns : goal.returns
returns c w es j k xs ys r apart hx hy e =
    let seen = all_taken es in
    let mine = held_list w es j xs r hx in
    let theirs = held_list w es k ys r hy in
    same_head (hashed w.roster seen) w.roster apart (roster_within w.roster seen)
    xs mine.legal (within_seen w.roster seen xs mine) ys theirs.legal (within_seen w.roster seen ys theirs) e
