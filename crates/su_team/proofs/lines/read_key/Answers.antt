use Rattle.std.proofs.Common.{◌≡◌, ◌*◌, length, sym, ap, ◌∙◌, arith}
use Rattle.hex.specs.Hex.{decode_sized, encode_lower}
use Rattle.su_team.proofs.Digits.{is_key, no_err, other_bytes, same_ok, same_bytes, went_well, went_wrong, written}
use Rattle.su_team.proofs.UserLines.{sized_key}
use Rattle.su_team.proofs.lines.read_key.Goals as goal
use Rattle.su_team.proofs.lines.read_key.Goals.{then-is_err-2-via-then-is_err-2, then-is_err-2-via-else-is_err-2+then-ne}

pub returns-then-is_err : goal.returns-then-is_err
returns-then-is_err c key is digits =
    went_wrong (decode_sized c.args.digits.now 56) c.decode_to_slice.result c.decode_to_slice.new.out key c.decode_to_slice.ensures.value (sym c.if-is_err.ensures.value) (sized_key key c.args.digits.now is digits)

pub returns-then-is_err-2 : goal.returns-then-is_err-2
returns-then-is_err-2 c key is digits =
    let read = went_well (decode_sized c.args.digits.now 56) c.decode_to_slice.result c.decode_to_slice.new.out c.decode_to_slice.ensures.value (sym c.if-is_err.ensures.value) in
    let same : c.decode_to_slice.new.out ≡ key = same_ok (decode_sized c.args.digits.now 56) c.decode_to_slice.new.out key read (sized_key key c.args.digits.now is digits) in
    elim c.then-is_err-2.branch [
      | then-is_err-2-via-then-is_err-2 w ↦
          let size : 112 ≡ 2 * length c.decode_to_slice.new.out = rw same (let size = is.size in omega (arith, size)) in
          let well = c.encode_to_slice.ensures.fits.1 size in
          no_err c.encode_to_slice.result well w.if-is_err-2.ensures.value
      | then-is_err-2-via-else-is_err-2+then-ne w ↦
          let spelled : c.encode_to_slice.new.output ≡ encode_lower c.decode_to_slice.new.out = written c.encode_to_slice.result (c.encode_to_slice.new.output ≡ encode_lower c.decode_to_slice.new.out) c.encode_to_slice.ensures.written (sym w.if-is_err-2.ensures.value) in
          other_bytes c.args.digits.now w.as_slice.result.now w.if-ne.ensures (digits ∙ ap encode_lower (sym same) ∙ sym spelled ∙ sym w.as_slice.ensures)
    ]

pub returns : goal.returns
returns c =
    let sized = went_well (decode_sized c.args.digits.now 56) c.decode_to_slice.result c.decode_to_slice.new.out c.decode_to_slice.ensures.value (sym c.if-is_err.ensures.value) in
    let spelled = written c.encode_to_slice.result (c.encode_to_slice.new.output ≡ encode_lower c.decode_to_slice.new.out) c.encode_to_slice.ensures.written (sym c.if-is_err-2.ensures.value) in
    (is_key c.args.digits.now c.decode_to_slice.new.out sized, same_bytes c.args.digits.now c.as_slice.result.now c.if-ne.ensures ∙ c.as_slice.ensures ∙ spelled)
