use Rattle.std.proofs.Common.{◌≡◌, ◌∙◌, true, false, refl, ap, subst}
use Rattle.su_inverse.proofs.OverwrittenLemmas.{overwritten_name, overwritten_pointer, room_name, room_pointer}
use Rattle.su_perform.specs.Loaded.{HasArea}
use Rattle.su_part_inverse.specs.Kept.{return_area}
use Rattle.su_part_inverse.specs.Steps.{plain_return}
use Rattle.su_part_inverse.proofs.Bodies.{body_seen}
use Rattle.su_part_inverse.proofs.Reading.{open_name}
use Rattle.su_part_inverse.proofs.returns.Return.bring_back.Goals as goal

pub returns-in_ok-add_name-in-Name-clause-overwritten : goal.returns-in_ok-add_name-in-Name-clause-overwritten
returns-in_ok-add_name-in-Name-clause-overwritten c F h =
    overwritten_name F (plain_return c.args.self.now) c.in-Name.place c.in-Name.name c.in_ok-overwritten-in-Name.overwritten c.in-Name.file _ (ap plain_return c.in-Name.is) c.in_ok-overwritten-in-Name.ensures.cases (c.name_at-was.ensures F h (c.if-not-has_name.ensures.found refl))

pub returns-in_ok-add_name-in-Name-clause-room : goal.returns-in_ok-add_name-in-Name-clause-room
returns-in_ok-add_name-in-Name-clause-room c F h =
    room_name F (plain_return c.args.self.now) c.in-Name.place c.in-Name.name c.in_ok-overwritten-in-Name.overwritten c.in-Name.file _ (ap plain_return c.in-Name.is) c.in_ok-overwritten-in-Name.ensures.cases (c.name_at-was.ensures F h (c.if-not-has_name.ensures.found refl))

pub returns-in_ok-put_pointer-in-Pointer-clause-overwritten : goal.returns-in_ok-put_pointer-in-Pointer-clause-overwritten
returns-in_ok-put_pointer-in-Pointer-clause-overwritten c F h =
    let f = c.args.forest.now in
    overwritten_pointer F (plain_return c.args.self.now) c.in-Pointer.file c.in-Pointer.place _ (ap plain_return c.in-Pointer.is) (c.body-was.ensures (F, h) ∙ body_seen f F h c.in-Pointer.file (c.if-not-has_pointer.ensures.0 refl))

pub returns-in_ok-put_pointer-in-Pointer-clause-room : goal.returns-in_ok-put_pointer-in-Pointer-clause-room
returns-in_ok-put_pointer-in-Pointer-clause-room c F h = λ some. room_pointer F (plain_return c.args.self.now) c.in-Pointer.file c.in-Pointer.place (ap plain_return c.in-Pointer.is)

pub returns-then-not-has_name-clause-loaded : goal.returns-then-not-has_name-clause-loaded
returns-then-not-has_name-clause-loaded c F h has =
    let f = c.args.forest.now in
    let opens = subst (λ r. HasArea F f (return_area r)) c.in-Name.is has in
    absurd (let z : false ≡ true = c.if-not-has_name.ensures.told F h (open_name f F h c.in-Name.place c.in-Name.name opens) in cc)

pub returns-then-not-has_pointer-clause-loaded : goal.returns-then-not-has_pointer-clause-loaded
returns-then-not-has_pointer-clause-loaded c F h has =
    absurd (let z : false ≡ true = c.if-not-has_pointer.ensures.1 (subst (λ r. HasArea F c.args.forest.now (return_area r)) c.in-Pointer.is has) in cc)
