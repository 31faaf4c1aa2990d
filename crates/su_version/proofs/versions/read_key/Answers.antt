use Rattle.std.proofs.Common.{◌≡◌, ◌⊎◌, None, inl, inr, sym, ap, subst}
use Rattle.su_bytes.specs.declared.formats.Format.{Format}
use Rattle.su_bytes.specs.declared.formats.Format.TheVariants.{V1, V2, V3, V4}
use Rattle.su_format.specs.Format.{◌>>=◌}
use Rattle.su_format.specs.Reading.{Reading, Takes, Took}
use Rattle.su_format.proofs.Public.{goes_on, first_refused, made, handed_on}
use Rattle.su_version.specs.Version.{key_format, flag_part, key_behind}
use Rattle.su_version.proofs.versions.read_key.Goals as goal

-- the first two formats have no key
none_there : (f : Format) (old : Reading) → (f ≡ V1) ⊎ (f ≡ V2) → Took (key_format f) old None old
unfolding key_format
none_there f old (inl is) = subst (λ g. Took (key_format g) old None old) (sym is) (made old None)
none_there f old (inr is) = subst (λ g. Took (key_format g) old None old) (sym is) (made old None)

-- the others tell by a flag whether one comes
by_flag : (f : Format) → (f ≡ V3) ⊎ (f ≡ V4) → (flag_part >>= key_behind) ≡ key_format f
unfolding key_format
by_flag f (inl is) = sym (ap key_format is)
by_flag f (inr is) = sym (ap key_format is)

pub returns-in-V1 : goal.returns-in-V1
returns-in-V1 c = none_there c.args.format c.args.reader.now c.in-V1.is

pub returns-in_err-flag-in-V3 : goal.returns-in_err-flag-in-V3
returns-in_err-flag-in-V3 c = subst (λ f. Takes f c.args.reader.now c.from_residual.result c.read_flag.new.reader) (by_flag c.args.format c.in-V3.is) (handed_on _ _ c.from_residual.ensures.1 (first_refused _ _ c.in_err-flag-in-V3.ensures))

pub returns-in_ok-flag-in-V3 : goal.returns-in_ok-flag-in-V3
returns-in_ok-flag-in-V3 c = subst (λ f. Takes f c.args.reader.now c.read_key_behind.result c.read_key_behind.new.reader) (by_flag c.args.format c.in-V3.is) (goes_on _ _ _ _ _ _ _ c.in_ok-flag-in-V3.ensures c.read_key_behind.ensures)
