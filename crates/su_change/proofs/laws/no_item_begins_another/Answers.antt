use Rattle.std.proofs.Common.{[], sym, ◌∙◌, append-nil}
use Rattle.su_format.proofs.Public.{spelling_told}
use Rattle.su_change.specs.Item.{item_bytes}
use Rattle.su_change.proofs.Items.{item_of, item_lawful}
use Rattle.su_change.proofs.laws.no_item_begins_another.Goals as goal

pub returns : goal.returns
returns c = record {
  tells = λ a b is_a has_a is_b has_b e.
      (spelling_told item_lawful item_of a b [] [] (is_a, has_a) (is_b, has_b) (append-nil (item_bytes a) ∙ e ∙ sym (append-nil (item_bytes b)))).0;
  begins = λ a b x y is_a has_a is_b has_b e. spelling_told item_lawful item_of a b x y (is_a, has_a) (is_b, has_b) e;
}
