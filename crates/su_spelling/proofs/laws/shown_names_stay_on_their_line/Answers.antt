use Rattle.std.proofs.Common.{[]}
use Rattle.std.proofs.lemmas.List.Sums.{AllPass-from_list_all}
use Rattle.std.proofs.lemmas.Str.{IsUtf8-nil}
use Rattle.su_spelling.specs.Shown.{shown}
use Rattle.su_spelling.proofs.ShownLaws.{stays-shown_from, utf8-shown_from}
use Rattle.su_spelling.proofs.laws.shown_names_stay_on_their_line.Goals as goal

pub returns-clause-text : goal.returns-clause-text
returns-clause-text c name bytes = utf8-shown_from 0 name [] IsUtf8-nil

pub returns-clause-line : goal.returns-clause-line
returns-clause-line c name bytes = AllPass-from_list_all _ (shown name) (stays-shown_from 0 name tt bytes)
