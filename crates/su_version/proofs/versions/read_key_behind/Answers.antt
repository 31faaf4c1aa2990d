use Rattle.std.proofs.Common.{◌≡◌, Bool, true, false, List, ℕ, Some, None, sym, subst}
use Rattle.su_bytes.specs.declared.refusals.Refusal.{Refusal}
use Rattle.su_format.specs.Part.{bytes_part}
use Rattle.su_format.specs.Reading.{Reading, Took, Refuses}
use Rattle.su_format.proofs.Public.{then_took, first_refused, made, handed_on, format_of, bytes_of}
use Rattle.su_version.specs.Version.{key_behind}
use Rattle.su_version.proofs.versions.read_key_behind.Goals as goal

none_comes : (flag : Bool) (old : Reading) → flag ≡ false → Took (key_behind flag) old None old
unfolding key_behind
none_comes false old is = made old None
none_comes true old is = absurd (let bad : true ≡ false = is in cc)

key_comes : (flag : Bool) (old new : Reading) (key : List ℕ) → flag ≡ true → Took (bytes_part 56) old key new → Took (key_behind flag) old (Some key) new
unfolding key_behind
key_comes true old new key is took = then_took _ _ took (made new (Some key))
key_comes false old new key is took = absurd (let bad : false ≡ true = is in cc)

refused_there : (flag : Bool) (old : Reading) (e : Refusal) → flag ≡ true → Refuses (bytes_part 56) old e → Refuses (key_behind flag) old e
unfolding key_behind
refused_there true old e is refused = first_refused _ _ refused
refused_there false old e is refused = absurd (let bad : false ≡ true = is in cc)

pub returns-then-not-flag : goal.returns-then-not-flag
returns-then-not-flag c = none_comes c.args.flag c.args.reader.now c.if-not-flag.true

pub returns-in_err-bytes : goal.returns-in_err-bytes
returns-in_err-bytes c = handed_on _ _ c.from_residual.ensures.1 (refused_there c.args.flag c.args.reader.now _ c.if-not-flag.false c.in_err-bytes.ensures.refused.0)

pub copy_from_slice-requires : goal.copy_from_slice-requires
copy_from_slice-requires c = sym ((format_of (bytes_of 56)).spelled _ _ _ c.in_ok-bytes.ensures.found.spelled).0

pub returns : goal.returns
returns c =
    key_comes c.args.flag c.args.reader.now c.take_bytes.new.self c.copy_from_slice.new.self c.if-not-flag.false
    (subst (λ key. Took (bytes_part 56) c.args.reader.now key c.take_bytes.new.self) (sym c.copy_from_slice.ensures.after) c.in_ok-bytes.ensures.found)
