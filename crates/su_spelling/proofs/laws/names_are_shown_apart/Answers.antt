use Rattle.std.proofs.Common.{ap, sym, ◌∙◌}
use Rattle.su_spelling.specs.Read.{read}
use Rattle.su_spelling.proofs.ShownLaws.{read-shown}
use Rattle.su_spelling.proofs.laws.names_are_shown_apart.Goals as goal

pub returns-clause-read_back : goal.returns-clause-read_back
returns-clause-read_back c = read-shown

pub returns-clause-apart : goal.returns-clause-apart
returns-clause-apart c a b bytes_a bytes_b alike =
    let same = sym (read-shown a bytes_a) ∙ ap read alike ∙ read-shown b bytes_b in cc
