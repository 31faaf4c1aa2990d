use Rattle.su_history.proofs.LawLemmas.{all_numbers}
use Rattle.su_history.proofs.laws.each_entry_is_in_one_line.Goals as goal

pub returns : goal.returns
returns c = all_numbers
