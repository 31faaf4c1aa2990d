use Rattle.std.proofs.Common.{◌≡◌, ◌∷◌, [], ◌*◌, length, sym, ap, ◌∙◌, arith}
use Rattle.hex.specs.Hex.{decode_sized, encode_lower}
use Rattle.su_team.proofs.Digits.{no_err, other_bytes, same_bytes, same_ok, went_well, went_wrong, written}
use Rattle.su_team.proofs.GroupLemmas.{one_byte, sized_byte}
use Rattle.su_team.proofs.groups.read_byte.Goals as goal
use Rattle.su_team.proofs.groups.read_byte.Goals.{then-is_err-2-via-then-is_err-2, then-is_err-2-via-else-is_err-2+then-ne}

pub returns-then-is_err : goal.returns-then-is_err
returns-then-is_err c byte is digits =
    let pair = c.args.high ∷ c.args.low ∷ [] in
    went_wrong (decode_sized pair 1) c.decode_to_slice.result c.decode_to_slice.new.out (byte ∷ []) c.decode_to_slice.ensures.value (sym c.if-is_err.ensures.value) (sized_byte byte pair is digits)

pub returns-then-is_err-2 : goal.returns-then-is_err-2
returns-then-is_err-2 c byte is digits =
    let pair = c.args.high ∷ c.args.low ∷ [] in
    let read = went_well (decode_sized pair 1) c.decode_to_slice.result c.decode_to_slice.new.out c.decode_to_slice.ensures.value (sym c.if-is_err.ensures.value) in
    let same : c.decode_to_slice.new.out ≡ byte ∷ [] = same_ok (decode_sized pair 1) c.decode_to_slice.new.out (byte ∷ []) read (sized_byte byte pair is digits) in
    elim c.then-is_err-2.branch [
      | then-is_err-2-via-then-is_err-2 w ↦
          let size : 2 ≡ 2 * length c.decode_to_slice.new.out = rw same (omega arith) in
          let well = c.encode_to_slice.ensures.fits.1 size in
          no_err c.encode_to_slice.result well w.if-is_err-2.ensures.value
      | then-is_err-2-via-else-is_err-2+then-ne w ↦
          let spelled : c.encode_to_slice.new.output ≡ encode_lower c.decode_to_slice.new.out = written c.encode_to_slice.result (c.encode_to_slice.new.output ≡ encode_lower c.decode_to_slice.new.out) c.encode_to_slice.ensures.written (sym w.if-is_err-2.ensures.value) in
          other_bytes c.encode_to_slice.new.output pair w.if-ne.ensures (spelled ∙ ap encode_lower same ∙ sym digits)
    ]

pub returns : goal.returns
returns c =
    let pair = c.args.high ∷ c.args.low ∷ [] in
    let sized = went_well (decode_sized pair 1) c.decode_to_slice.result c.decode_to_slice.new.out c.decode_to_slice.ensures.value (sym c.if-is_err.ensures.value) in
    let spelled = written c.encode_to_slice.result (c.encode_to_slice.new.output ≡ encode_lower c.decode_to_slice.new.out) c.encode_to_slice.ensures.written (sym c.if-is_err-2.ensures.value) in
    sym (same_bytes c.encode_to_slice.new.output pair c.if-ne.ensures) ∙ spelled ∙ ap encode_lower (one_byte pair c.decode_to_slice.new.out sized)
