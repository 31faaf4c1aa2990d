use Rattle.std.proofs.Common.{ap, ◌∙◌, Ok}
use Rattle.std.specs.List.{flat_map}
use Rattle.su_format.specs.Reading.{Reading}
use Rattle.su_scratch.specs.Page.{note_bytes}
use Rattle.su_scratch.proofs.PageReading.{ok_is, err_is_not}
use Rattle.su_scratch.proofs.pages.read_page.Goals as goal

pub returns-in_err-older-clause-told : goal.returns-in_err-older-clause-told
returns-in_err-older-clause-told c = λ older notes is e.
    absurd (err_is_not _ _ (c.in_err-older.ensures.told older (flat_map note_bytes notes) is.older_fits (ap (λ (r : Reading). r.left) c.new-reader.ensures ∙ e)).0)

pub returns-in_err-found-clause-told : goal.returns-in_err-found-clause-told
returns-in_err-found-clause-told c = λ older notes is e.
    let begun = c.in_ok-older.ensures.told older (flat_map note_bytes notes) is.older_fits (ap (λ (r : Reading). r.left) c.new-reader.ensures ∙ e) in
    absurd (err_is_not _ _ (c.in_err-found.ensures.told notes is.each is.full begun.1))

pub returns-clause-told : goal.returns-clause-told
returns-clause-told c = λ older notes is e.
    let begun = c.in_ok-older.ensures.told older (flat_map note_bytes notes) is.older_fits (ap (λ (r : Reading). r.left) c.new-reader.ensures ∙ e) in
    let one = ok_is c.in_ok-older.older older begun.0 in
    let two = ok_is c.in_ok-found.found _ (c.in_ok-found.ensures.told notes is.each is.full begun.1) in
    λ i. Ok (record { older = one i; found = two i })
