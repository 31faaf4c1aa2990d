-- How the refusals of a view are printed.
use Rattle.std.specs.Prelude.{ℕ, List, ◌++◌, codes}
use Rattle.su_bytes.specs.Principal.{principal_text}
use Rattle.su_bytes.specs.Refusal.{refusal_text}
use Rattle.su_view.specs.declared.refusals.ViewRefusal.{ViewRefusal}
use Rattle.su_view.specs.declared.refusals.ViewRefusal.TheVariants.{Plain, WrongHandle, Change, OwnMissing}

-- number, name and arguments, with single spaces between
abbrev pub view_refusal_text : ViewRefusal → List ℕ
view_refusal_text (Plain r) = refusal_text r
view_refusal_text (WrongHandle p) = codes "38 WrongHandle " ++ principal_text p
view_refusal_text (Change r) = codes "39 Change " ++ refusal_text r
view_refusal_text OwnMissing = codes "40 OwnMissing"
