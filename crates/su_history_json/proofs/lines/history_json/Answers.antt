use Rattle.std.proofs.Common.{◌≡◌, ◌∙◌, ap, false}
use Rattle.std.specs.String.{string_bytes}
use Rattle.std.proofs.lemmas.Result.{IfOk-weaker}
use Rattle.serde_json.proofs.Views.{view-Array}
use Rattle.serde_json.specs.Data.{Data}
use Rattle.serde_json.specs.View.{view}
use Rattle.serde_json.specs.Written.{compact_text, has_float}
use Rattle.serde_json.specs.declared.value.Value.{Array}
use Rattle.su_history_json.specs.Json.{history_data}
use Rattle.su_history_json.proofs.Objects.{all_objects, whole}
use Rattle.su_history_json.proofs.lines.history_json.Goals as goal

pub returns : goal.returns
returns c =
    let objects = history_data c.args.team.now c.args.names.now c.args.lines.now in
    let made : Data = view (Array c.loop-line.values) in
    let same : made ≡ objects = view-Array c.loop-line.values ∙ all_objects c.args.team.now c.args.names.now c.args.lines.now c.loop-line.line-index c.loop-line.values.items c.loop-line-test.false c.loop-line.invariant in
    let whole_made : has_float made ≡ false = ap has_float same ∙ whole c.args.team.now c.args.names.now c.args.lines.now in
    IfOk-weaker c.to_string.result (λ s. has_float made ≡ false → string_bytes s ≡ compact_text made) (λ s. string_bytes s ≡ compact_text objects)
    (λ s told. told whole_made ∙ ap compact_text same) c.to_string.ensures.text
