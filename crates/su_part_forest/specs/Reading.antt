-- What a read of a file needs, and what of its answer is a load's.
use Rattle.std.specs.Prelude.{Option, Some, None, Result, Ok, Err}
use Rattle.su_bytes.specs.declared.file_ids.FileId.{FileId}
use Rattle.su_bytes.specs.declared.file_ids.FileId.TheVariants.{User, Group}
use Rattle.su_bytes.specs.declared.refusals.Refusal.{Refusal}
use Rattle.su_bytes.specs.declared.refusals.Refusal.TheVariants.{NoFile, WrongKind}
use Rattle.su_part.specs.declared.fetches.Wanted.TheVariants.{Nothing}
use Rattle.su_part_forest.specs.Forest.{HasPointerAt}
use Rattle.su_part_forest.specs.Loading.{HasAt}
use Rattle.su_part_forest.specs.declared.forests.PartForest.{PartForest}

-- what tells where a file stands is loaded: of a user's file what stands at its own place, of a
-- group file its pointer
abbrev pub HasHomeOf : FileId → PartForest → Type 0
HasHomeOf (User u i) f = HasAt (u, i) Nothing f
HasHomeOf (Group g k) f = HasPointerAt (g, k) f

-- That no file is there, or one of the other kind, is an answer, for which all was loaded that it
-- needs; each other refusal is one of a load.
abbrev pub load_answer : {A : Type 0} → Result A Refusal → Result (Option A) Refusal
load_answer (Ok a) = Ok (Some a)
load_answer (Err (NoFile f)) = Ok None
load_answer (Err (WrongKind f)) = Ok None
load_answer (Err e) = Err e
