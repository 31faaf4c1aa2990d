use Rattle.su_bytes.specs.FileId.{file_id_bytes}
use Rattle.su_history_text.proofs.NameLemmas.{get-kept_first}
use Rattle.su_history_text.proofs.laws.the_first_path_stays.Goals as goal

pub returns : goal.returns
returns c names file path = get-kept_first names (file_id_bytes file) path
