-- Worked examples of the definitions.
use Rattle.std.proofs.Common.{◌≡◌, ℕ, List, [], ◌∷◌, Some, None, codes, refl}
use Rattle.std.specs.Fmt.{digits}
use Rattle.std.specs.Str.{chars, is_utf8}
use lib.Utf8.{encode}
use Rattle.hex.specs.Hex.{encode_with}
use Rattle.su_bytes.specs.declared.file_ids.FileId.{FileId}
use Rattle.su_bytes.specs.declared.file_ids.FileId.TheVariants.{Group}
use Rattle.su_bytes.specs.declared.file_ids.Kind.TheVariants.{File, Dir}
use Rattle.su_bytes.specs.Place.{place_eq}
use Rattle.su_history.specs.declared.line.Line.{Line}
use Rattle.su_history.specs.declared.line.Deed.{Deed}
use Rattle.su_history.specs.declared.line.Deed.TheVariants.{Made, Put, Wrote, Cut, Linked, Renamed, Removed, TookOver, Dropped, Undid, NamedKey}
use Rattle.su_history.specs.declared.line.Fate.{Fate}
use Rattle.su_history.specs.declared.line.Fate.TheVariants.{Live, Undone, Lasting}
use Rattle.su_history_text.specs.FileNames.{Names, path_at}
use Rattle.su_history_text.specs.Text.{deed_text, history_text, line_text}

-- user 0 is ann, and user 1 is robert
team : List (List ℕ × List ℕ)
team = (codes "ann", []) ∷ (codes "robert", []) ∷ []

-- numbers 7, 3 and 4 of group 0: a file and two folders
abbrev plan : FileId
plan = Group 0 7

abbrev desk : FileId
desk = Group 0 3

abbrev shelf : FileId
shelf = Group 0 4

abbrev line : ℕ → ℕ → ℕ → Deed → Fate → Line
line first last author deed fate = record { first = first; last = last; author = author; deed = deed; fate = fate }

-- ---- lines

a_write : (names : Names) → path_at names plan ≡ Some (codes "/desk/plan") → line_text team names (line 240 240 0 (Wrote plan 4096) Live) ≡ codes "240        ann     wrote 4096 bytes to /desk/plan"
unfolding team is_utf8 chars encode encode_with digits
a_write names is = rw is refl

by_another_user : (names : Names) → path_at names plan ≡ Some (codes "/desk/plan") → line_text team names (line 7 7 1 (TookOver (record { file = plan; body = 9 })) Live) ≡ codes "7          robert  took /desk/plan over"
unfolding team is_utf8 chars encode encode_with digits
by_another_user names is = rw is refl

by_nobody_of_the_team : (names : Names) → line_text team names (line 9 9 63 (Undid 41) Lasting) ≡ codes "9          user 63  undid 41"
unfolding team digits
by_nobody_of_the_team names = refl

several_at_once : (names : Names) → path_at names plan ≡ Some (codes "/desk/plan")
    → line_text team names (line 198 214 0 (Put (record { dir = desk; name = codes "plan"; file = plan; body = 3; kind = File }) 66000) Live) ≡ codes "198..214   ann     put /desk/plan (66000 bytes)"
unfolding team is_utf8 chars encode encode_with digits
several_at_once names is = rw is refl

one_that_is_undone : (names : Names) → path_at names plan ≡ Some (codes "/desk/plan") → line_text team names (line 240 240 0 (Wrote plan 1) (Undone 241)) ≡ codes "240        ann     wrote 1 byte to /desk/plan (undone by 241)"
unfolding team is_utf8 chars encode encode_with digits
one_that_is_undone names is = rw is refl

several_that_are_undone : (names : Names) → path_at names plan ≡ Some (codes "/desk/plan") → line_text team names (line 20 22 0 (Wrote plan 300) (Undone 30)) ≡ codes "20..22     ann     wrote 300 bytes to /desk/plan (undone, the last by 30)"
unfolding team is_utf8 chars encode encode_with digits
several_that_are_undone names is = rw is refl

numbers_that_are_wide : (names : Names) → line_text team names (line 10000 10012 1 NamedKey Lasting) ≡ codes "10000..10012 robert  went on to another key"
unfolding team digits
numbers_that_are_wide names = refl

-- ---- what was done

a_file_is_made : (names : Names) → path_at names plan ≡ Some (codes "/desk/plan") → deed_text names (Made (record { dir = desk; name = codes "plan"; file = plan; body = 3; kind = File })) ≡ codes "made /desk/plan"
unfolding is_utf8 chars encode encode_with
a_file_is_made names is = rw is refl

a_folder_is_made : (names : Names) → path_at names desk ≡ Some (codes "/desk") → deed_text names (Made (record { dir = Group 0 1; name = codes "desk"; file = desk; body = 3; kind = Dir })) ≡ codes "made the folder /desk"
unfolding is_utf8 chars encode encode_with
a_folder_is_made names is = rw is refl

-- no path leads there now
one_that_is_gone : (names : Names) → path_at names plan ≡ None → deed_text names (Made (record { dir = desk; name = codes "plan"; file = plan; body = 3; kind = File })) ≡ codes "made G0:7"
unfolding digits
one_that_is_gone names is = rw is refl

a_size : (names : Names) → path_at names plan ≡ Some (codes "/desk/plan") → deed_text names (Cut (record { file = plan; size = 10 })) ≡ codes "set the size of /desk/plan to 10 bytes"
unfolding is_utf8 chars encode encode_with digits
a_size names is = rw is refl

a_further_name : (names : Names) → path_at names plan ≡ Some (codes "/desk/plan") → path_at names shelf ≡ Some (codes "/shelf") → deed_text names (Linked (record { dir = shelf; name = codes "old plan"; file = plan })) ≡ codes "gave /desk/plan a further name, old plan in /shelf"
unfolding is_utf8 chars encode encode_with
a_further_name names plan_is shelf_is = rw (plan_is, shelf_is) refl

another_name : (names : Names) → path_at names desk ≡ Some (codes "/desk") → deed_text names (Renamed (record { from_ = desk; old_ = codes "a"; to_ = desk; new_ = codes "b"; file = plan })) ≡ codes "renamed a in /desk to b"
unfolding is_utf8 chars encode encode_with place_eq
another_name names is = rw is refl

another_folder : (names : Names) → path_at names desk ≡ Some (codes "/desk") → path_at names shelf ≡ Some (codes "/shelf") → deed_text names (Renamed (record { from_ = desk; old_ = codes "a"; to_ = shelf; new_ = codes "a"; file = plan })) ≡ codes "moved a in /desk to a in /shelf"
unfolding is_utf8 chars encode encode_with place_eq
another_folder names desk_is shelf_is = rw (desk_is, shelf_is) refl

-- a line feed in a name is shown by its escape
a_name_is_taken_away : (names : Names) → path_at names desk ≡ Some (codes "/desk") → deed_text names (Removed (record { dir = desk; name = codes "a\nb"; file = plan })) ≡ codes "took the name a\\x0ab out of /desk"
unfolding is_utf8 chars encode encode_with
a_name_is_taken_away names is = rw is refl

an_old_copy : (names : Names) → deed_text names (Dropped (record { body = 5 })) ≡ codes "dropped an old copy, number 5 of its own"
unfolding digits
an_old_copy names = refl

-- ---- a history

two_lines : (names : Names) → history_text team names (line 1 1 0 (Undid 4) Lasting ∷ line 2 2 1 NamedKey Lasting ∷ []) ≡ codes "1          ann     undid 4\n2          robert  went on to another key\n"
unfolding team digits
two_lines names = refl

no_lines : (names : Names) → history_text team names [] ≡ []
no_lines names = refl
