use Rattle.std.proofs.Common.{◌+◌, ◌-◌, refl, arith, ap, Ok}
use Rattle.su_scratch.specs.declared.pages.TheConstants.{NOTES_OF_A_PAGE}
use Rattle.su_scratch.specs.Page.{place_in}
use Rattle.su_scratch.proofs.PageReading.{left_next, left_there, left_none, ok_is, err_is_not}
use Rattle.su_scratch.proofs.pages.search.Goals as goal

pub loop-init : goal.loop-init
loop-init c = λ notes each many spelled. record { rest = notes; each = each; many = omega arith; left_is = spelled; tells = refl }

pub loop-preserved : goal.loop-preserved
loop-preserved c = λ notes each many spelled.
    left_next c.args.digest.now _ c.loop.found _ _ _ _ c.in_ok-note.note _ (c.loop.invariant notes each many spelled) (omega arith)
    (λ m more is e. let told = c.in_ok-note.ensures.told m more is e in (ok_is _ _ told.0, told.1)) c.tells-found.ensures

pub returns-in_err-note-clause-told : goal.returns-in_err-note-clause-told
returns-in_err-note-clause-told c = λ notes each many spelled.
    absurd (left_there c.args.digest.now _ _ _ (NOTES_OF_A_PAGE - (c.loop.counter + 1)) _ (c.loop.invariant notes each many spelled) (omega arith)
    (λ m more is e. err_is_not _ _ (c.in_err-note.ensures.told m more is e).0))

pub returns-clause-told : goal.returns-clause-told
returns-clause-told c = λ notes each many spelled.
    ap Ok (left_none c.args.digest.now _ _ _ (place_in c.args.digest.now notes) (c.loop.invariant notes each many spelled) (omega arith))
