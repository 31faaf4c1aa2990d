-- Worked examples of the definitions.
use Rattle.std.proofs.Common.{◌≡◌, ℕ, List, [], ◌∷◌, refl}
use Rattle.std.specs.List.{filter}
use Rattle.su_bytes.specs.declared.formats.Format.TheVariants.{V3, V4}
use Rattle.su_bytes.specs.declared.file_ids.FileId.{FileId}
use Rattle.su_bytes.specs.declared.file_ids.FileId.TheVariants.{Group}
use Rattle.su_bytes.specs.declared.file_ids.Kind.TheVariants.{File}
use Rattle.su_bytes.specs.Place.{place_eq}
use Rattle.su_op.specs.declared.create.Create as creates
use Rattle.su_op.specs.declared.operations.Op.{Op}
use Rattle.su_op.specs.declared.operations.Op.TheVariants.{Create, Write, Truncate, Take}
use Rattle.su_op.specs.declared.operations.Change.TheVariants.{Do}
use Rattle.su_desk.specs.declared.entries.Entry.{Entry}
use Rattle.su_desk.specs.History.{entry_by, undo_by, rekey_by}
use Rattle.su_history.specs.declared.line.Line.{Line}
use Rattle.su_history.specs.declared.line.Deed.{Deed}
use Rattle.su_history.specs.declared.line.Deed.TheVariants.{Made, Put, Wrote, Cut, Together, Undid, NamedKey}
use Rattle.su_history.specs.declared.line.Fate.{Fate}
use Rattle.su_history.specs.declared.line.Fate.TheVariants.{Live, Undone, Lasting}
use Rattle.su_history.specs.Line.{lines, names}

-- number 7 of group 0
abbrev plan : FileId
plan = Group 0 7

-- its making, under the name a in the root directory
abbrev making : creates.Create
making = record { dir = Group 0 1; name = 97 ∷ []; file = plan; body = 3; kind = File }

abbrev makes_it : Op
makes_it = Create making

abbrev creates_it : ℕ → Entry
creates_it a = entry_by a V3 (Do (makes_it ∷ []))

-- a write of these bytes at the beginning of a file
abbrev write : FileId → List ℕ → Op
write f bytes = Write (record { file = f; off = 0; bytes = bytes })

abbrev writes_it : ℕ → List ℕ → Entry
writes_it a bytes = entry_by a V3 (Do (write plan bytes ∷ []))

abbrev cut : FileId → ℕ → Op
cut f size = Truncate (record { file = f; size = size })

abbrev cuts_it : ℕ → ℕ → Entry
cuts_it a size = entry_by a V3 (Do (cut plan size ∷ []))

-- several operations together
abbrev does : ℕ → List Op → Entry
does a ops = entry_by a V4 (Do ops)

abbrev line : ℕ → ℕ → ℕ → Deed → Fate → Line
line first last author deed fate = record { first = first; last = last; author = author; deed = deed; fate = fate }

-- user 1 puts a file by two writes; user 2 writes to it, and undoes that
a_put_and_an_undo : lines (creates_it 1 ∷ writes_it 1 (7 ∷ 8 ∷ []) ∷ writes_it 1 (9 ∷ []) ∷ writes_it 2 (5 ∷ []) ∷ undo_by 2 V3 4 ∷ [])
    ≡ line 1 3 1 (Put making 3) Live ∷ line 4 4 2 (Wrote plan 1) (Undone 5) ∷ line 5 5 2 (Undid 4) Lasting ∷ []
unfolding place_eq
a_put_and_an_undo = refl

-- of two writes by one user the second is undone: they are two lines
half_undone : lines (writes_it 1 (7 ∷ 8 ∷ []) ∷ writes_it 1 (9 ∷ []) ∷ undo_by 1 V3 2 ∷ [])
    ≡ line 1 1 1 (Wrote plan 2) Live ∷ line 2 2 1 (Wrote plan 1) (Undone 3) ∷ line 3 3 1 (Undid 2) Lasting ∷ []
unfolding place_eq
half_undone = refl

-- both are undone: they are one, undone by the undo of the last
all_undone : lines (writes_it 1 (7 ∷ 8 ∷ []) ∷ writes_it 1 (9 ∷ []) ∷ undo_by 1 V3 2 ∷ undo_by 1 V3 1 ∷ [])
    ≡ line 1 2 1 (Wrote plan 3) (Undone 3) ∷ line 3 3 1 (Undid 2) Lasting ∷ line 4 4 1 (Undid 1) Lasting ∷ []
unfolding place_eq
all_undone = refl

-- shorter contents: a write and a cut; then a cut by another, and another key
a_shorter_put : lines (writes_it 1 (7 ∷ []) ∷ cuts_it 1 1 ∷ cuts_it 2 0 ∷ rekey_by 2 V3 [] ∷ [])
    ≡ line 1 2 1 (Wrote plan 1) Live ∷ line 3 3 2 (Cut (record { file = plan; size = 0 })) Live ∷ line 4 4 2 NamedKey Lasting ∷ []
unfolding place_eq
a_shorter_put = refl

-- a file that one user makes and another writes to
made_alone : lines (creates_it 1 ∷ writes_it 2 (7 ∷ []) ∷ []) ≡ line 1 1 1 (Made making) Live ∷ line 2 2 2 (Wrote plan 1) Live ∷ []
unfolding place_eq
made_alone = refl

-- of the lines of that history those of the file, and the two newest ones
abbrev history : List Entry
history = creates_it 1 ∷ writes_it 1 (7 ∷ []) ∷ rekey_by 1 V3 [] ∷ cuts_it 2 0 ∷ []

those_of_the_file : filter (names plan) (lines history) ≡ line 1 2 1 (Put making 1) Live ∷ line 4 4 2 (Cut (record { file = plan; size = 0 })) Live ∷ []
unfolding place_eq
those_of_the_file = refl

those_of_another : filter (names (Group 0 8)) (lines history) ≡ []
unfolding place_eq
those_of_another = refl

-- its directory is named where it is made
those_of_its_directory : filter (names (Group 0 1)) (lines history) ≡ line 1 2 1 (Put making 1) Live ∷ []
unfolding place_eq
those_of_its_directory = refl

-- ---- several operations together

-- number 8 of group 0
abbrev list : FileId
list = Group 0 8

-- the taking over of a file or a directory
abbrev take : FileId → Op
take f = Take (record { file = f; body = 4 })

-- a put of one file with a take of its directory in front
a_put_together : lines (does 1 (take (Group 0 1) ∷ makes_it ∷ write plan (7 ∷ 8 ∷ []) ∷ write plan (9 ∷ []) ∷ []) ∷ []) ≡ line 1 1 1 (Put making 3) Live ∷ []
unfolding place_eq
a_put_together = refl

-- other contents of a file that was there, with a take of it in front
an_overwrite : lines (does 1 (take plan ∷ write plan (7 ∷ 8 ∷ []) ∷ cut plan 2 ∷ []) ∷ []) ≡ line 1 1 1 (Wrote plan 2) Live ∷ []
unfolding place_eq
an_overwrite = refl

-- shorter contents of two files, after which one more write to the second is a line of its own
two_files : lines (does 1 (write plan (7 ∷ 8 ∷ []) ∷ cut plan 2 ∷ write list (9 ∷ []) ∷ cut list 1 ∷ []) ∷ entry_by 1 V4 (Do (write list (5 ∷ []) ∷ [])) ∷ [])
    ≡ line 1 1 1 (Together (record { operations = 4; bytes = 3; files = plan ∷ plan ∷ list ∷ list ∷ [] })) Live ∷ line 2 2 1 (Wrote list 1) Live ∷ []
unfolding place_eq
two_files = refl

-- of one file, and undone: a write by the same author goes on with neither the batch nor the undo
one_file_undone : lines (does 1 (write plan (7 ∷ []) ∷ cut plan 1 ∷ []) ∷ writes_it 1 (9 ∷ []) ∷ undo_by 1 V4 2 ∷ undo_by 1 V4 1 ∷ [])
    ≡ line 1 1 1 (Wrote plan 1) (Undone 4) ∷ line 2 2 1 (Wrote plan 1) (Undone 3) ∷ line 3 3 1 (Undid 2) Lasting ∷ line 4 4 1 (Undid 1) Lasting ∷ []
unfolding place_eq
one_file_undone = refl

-- cut twice and never written to: the last size
cut_twice : lines (does 1 (cut plan 5 ∷ take plan ∷ cut plan 2 ∷ []) ∷ []) ≡ line 1 1 1 (Cut (record { file = plan; size = 2 })) Live ∷ []
unfolding place_eq
cut_twice = refl

-- takes alone
takes_alone : lines (does 1 (take plan ∷ take list ∷ []) ∷ []) ≡ line 1 1 1 (Together (record { operations = 2; bytes = 0; files = plan ∷ list ∷ [] })) Live ∷ []
unfolding place_eq
takes_alone = refl

-- what was done to several files at once is among the lines of each of them
those_of_the_second : filter (names list) (lines (does 1 (write plan (7 ∷ []) ∷ write list (9 ∷ []) ∷ []) ∷ writes_it 2 (8 ∷ []) ∷ []))
    ≡ line 1 1 1 (Together (record { operations = 2; bytes = 2; files = plan ∷ list ∷ [] })) Live ∷ []
unfolding place_eq
those_of_the_second = refl
