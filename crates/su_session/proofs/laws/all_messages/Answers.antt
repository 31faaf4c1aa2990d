use Rattle.std.proofs.Common.{◌∙◌, ◌++◌, sym, ap, append-nil}
use Rattle.su_frames.specs.Stream.{stream}
use Rattle.su_session.proofs.Ending.{known_splits, own_end, same_lists}
use Rattle.su_session.specs.Session.{left, end_of}
use Rattle.su_session.proofs.laws.all_messages.Goals as goal

pub returns : goal.returns
returns g c = λ a b end all last messages x known r f s cut is_rest.
    let mine = known_splits g.S.Service.answers a b end all x known in
    let (rest, ended) = own_end c.refused_for_good.ensures end x.count b.known x.rest x.replies x.out r f s x.ends in
    let (more, there, here) = c.one_cut.ensures (a.waits ++ all) (x.rest ++ left b.known) last x.messages messages mine cut is_rest in
    let (less, back, forth) = c.one_cut.ensures (a.waits ++ all) last (x.rest ++ left b.known) messages x.messages cut mine rest in
    let none = same_lists messages x.messages more less there back in
    (sym (append-nil x.messages) ∙ sym (ap (λ t. x.messages ++ t) none) ∙ sym there, ended ∙ ap end_of (here ∙ ap (λ t. stream t last) none))
