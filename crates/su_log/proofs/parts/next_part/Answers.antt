use Rattle.std.proofs.Common.{◌≡◌, ◌∙◌, ◌<◌, length, arith, ap, inl, inr, take}
use Rattle.std.specs.Io.KnownBytes.{IsAtEnd}
use Rattle.std.proofs.lemmas.List.{take_all}
use Rattle.su_format.specs.Part.{u32_bytes}
use Rattle.su_log.proofs.PartLemmas.{cut_behind, part_read, four_of}
use Rattle.su_log.proofs.parts.next_part.Goals as goal

pub returns-then-len-size : goal.returns-then-len-size
returns-then-len-size g c = λ input is.
    let same = ap length c.as_slice.ensures.value in
    let long : length c.in_ok-number.number.items ≡ 4 = four_of c.in_ok-number.number.items _ c.in_ok-number.ensures.all (omega (arith, c.in-Some.ensures.0, same)) in
    let number : u32_bytes c.in-Some.size ≡ c.in_ok-number.number.items =
    c.in-Some.ensures.1 ∙ ap (take 4) c.as_slice.ensures.value ∙ take_all 4 c.in_ok-number.number.items (omega (arith, long)) in
    let few : length c.in_ok-bytes.bytes.items < c.in-Some.size = omega (arith, c.if-len-size.true, c.len.ensures, c.in_ok-bytes.bytes.ok.0) in
    let ended : IsAtEnd (g.R.Read.remaining c.read_up_to-2.new.reader) = elim c.in_ok-bytes.ensures.all [ inl e ↦ absurd (omega (arith, e, few)) | inr w ↦ w.1 ] in
    cut_behind input c.in_ok-number.number.items c.in_ok-bytes.bytes.items c.in-Some.size _ _ _ is c.in_ok-number.ensures.bytes c.in_ok-bytes.ensures.bytes
    number c.in-Some.ensures.2 few ended

pub returns : goal.returns
returns g c = λ input is.
    let same = ap length c.as_slice.ensures.value in
    let long : length c.in_ok-number.number.items ≡ 4 = four_of c.in_ok-number.number.items _ c.in_ok-number.ensures.all (omega (arith, c.in-Some.ensures.0, same)) in
    let number : u32_bytes c.in-Some.size ≡ c.in_ok-number.number.items =
    c.in-Some.ensures.1 ∙ ap (take 4) c.as_slice.ensures.value ∙ take_all 4 c.in_ok-number.number.items (omega (arith, long)) in
    let whole : length c.in_ok-bytes.bytes.items ≡ c.in-Some.size =
    elim c.in_ok-bytes.ensures.all [ inl e ↦ e | inr w ↦ absurd (omega (arith, w.0, c.if-len-size.false, c.len.ensures, c.in_ok-bytes.bytes.ok.0)) ] in
    part_read input c.in_ok-number.number.items c.in_ok-bytes.bytes.items c.in-Some.size _ _ _ is c.in_ok-number.ensures.bytes c.in_ok-bytes.ensures.bytes
    number c.in-Some.ensures.2 whole
