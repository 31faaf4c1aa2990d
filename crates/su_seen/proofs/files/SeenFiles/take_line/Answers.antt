use Rattle.std.proofs.Common.{◌≡◌, ◌<◌, Some, IfSome, length, take, refl, ap, subst, ◌∙◌, arith}
use Rattle.su_seen.specs.Tells.{Tells}
use Rattle.su_seen.specs.Line.{seen_line}
use Rattle.su_seen.proofs.FileLines.{front_line, noted_of, taken_line}
use Rattle.su_seen.proofs.files.SeenFiles.take_line.Goals as goal

pub returns-in_default-clause-read : goal.returns-in_default-clause-read
returns-in_default-clause-read c file rest is_file is =
    let at = c.place_of-place.ensures in
    let front = front_line c.args.text.now rest c.place_of-place.result file is_file is at.within at.before at.at in
    absurd (subst (λ it. Tells it file.1 file.0) c.in_default.is
    (c.in_ok-file.ensures.read file.1 file.0 is_file.number is_file.path front.front))

pub returns-clause-told : goal.returns-clause-told
returns-clause-told c =
    let below : c.place_of-place.result < length c.args.text.now = let past = c.if-text-place.false in omega (arith, past) in
    let spelled : take c.place_of-place.result c.args.text.now ≡ seen_line c.in-Some.file.number c.in-Some.file.path.items =
    subst (λ it. IfSome it (λ file. take c.place_of-place.result c.args.text.now ≡ seen_line file.number file.path.items)) c.in-Some.is c.in_ok-file.ensures.spelled in
    taken_line c.args.self.now c.note.new.self c.args.text.now c.place_of-place.result (c.in-Some.file.path.items, c.in-Some.file.number)
    below (c.place_of-place.ensures.at below) spelled
    (noted_of c.args.self.now c.note.new.self c.deref.result.now c.in-Some.file.path.items c.in-Some.file.number c.in-Some.file.number
    c.in_ok-note.ensures.ok c.deref.ensures.value refl)

pub returns-clause-read : goal.returns-clause-read
returns-clause-read c file rest is_file is =
    let at = c.place_of-place.ensures in
    let front = front_line c.args.text.now rest c.place_of-place.result file is_file is at.within at.before at.at in
    let tells = subst (λ it. Tells it file.1 file.0) c.in-Some.is
    (c.in_ok-file.ensures.read file.1 file.0 is_file.number is_file.path front.front) in (
      ap Some front.long,
      noted_of c.args.self.now c.note.new.self c.deref.result.now file.0 c.in-Some.file.number file.1 c.in_ok-note.ensures.ok
          (c.deref.ensures.value ∙ tells.1) tells.0,
    )
