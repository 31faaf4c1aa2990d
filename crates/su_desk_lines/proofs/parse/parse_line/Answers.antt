use Rattle.std.proofs.Common.{◌≡◌, ◌∙◌, IfOk, option_map, ap, sym, subst}
use Rattle.su_desk_lines.specs.Desk.{read_words, spoken_of}
use Rattle.su_desk_lines.specs.Raw.{texts}
use Rattle.su_desk_lines.proofs.EmptyWords.{line_said-empty_word, line_said-words}
use Rattle.su_desk_lines.proofs.parse.parse_line.Goals as goal

pub returns-then-has_empty_word : goal.returns-then-has_empty_word
returns-then-has_empty_word c =
    line_said-empty_word c.args.line.now c.as_slice.result.now c.has_empty_word.result c.if-line-gt-LONGEST_LINE.false (ap texts c.as_slice.ensures.value ∙ c.in_ok-words.ensures) c.has_empty_word.ensures
    c.if-has_empty_word.true

pub returns : goal.returns
returns c =
    let words = ap texts c.as_slice.ensures.value ∙ c.in_ok-words.ensures in
    subst (λ o. IfOk c.read_words.result (λ said. option_map spoken_of said ≡ o))
    (ap read_words (ap texts (c.as_slice-2.ensures.value ∙ sym c.as_slice.ensures.value))
    ∙ line_said-words c.args.line.now c.as_slice.result.now c.has_empty_word.result c.if-line-gt-LONGEST_LINE.false words c.has_empty_word.ensures c.if-has_empty_word.false)
    c.read_words.ensures
