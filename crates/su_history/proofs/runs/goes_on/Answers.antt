use Rattle.std.proofs.Common.{ℕ, ◌∙◌, ◌-◌, get_or, nat_eq, None, sym, ap}
use Rattle.std.specs.Option.{is_some}
use Rattle.std.proofs.Math.Bool.{beq}
use Rattle.std.proofs.lemmas.Bool.{true≢false}
use Rattle.su_history.specs.Line.{is_same_file}
use Rattle.su_history.proofs.NumberedEntries.{first_fails, goes_on_read, last_counts, second_fails}
use Rattle.su_history.proofs.runs.goes_on.Goals as goal
use Rattle.su_history.proofs.runs.goes_on.Goals.{then-eq, else-eq}

pub returns-then-is_same_file : goal.returns-then-is_same_file
returns-then-is_same_file c = λ d.
    let x = c.index-entries-index.result in
    let y = c.index-entries-index-2.result in
    let us = c.args.undoers.now in
    let alike = beq (is_some (get_or us (c.args.index - 1) None)) (is_some (get_or us c.args.index None)) in
    let told = goes_on_read c.args.entries.now us c.args.index x y d c.requires.undoers c.requires.some c.requires.there c.index-entries-index.is c.index-entries-index-2.is in
    let same_author = c.eq.ensures ∙ ap (λ (a : ℕ). nat_eq a c.author-2.result) c.author.ensures ∙ ap (nat_eq x.author) c.author-2.ensures in
    elim c.if-eq.branch [
      | then-eq w ↦
          ap (λ r. beq r c.is_some-then-is_same_file.result) c.is_some.ensures
          ∙ ap (beq (is_some (get_or us (c.args.index - 1) None))) c.is_some-then-is_same_file.ensures
          ∙ sym (told ∙ last_counts (nat_eq x.author y.author) (is_same_file x.change y.change) alike (sym same_author ∙ w.if-eq.true) (sym w.is_same_file.ensures ∙ sym w.value-is ∙ c.if-is_same_file.true))
      | else-eq w ↦ absurd (true≢false (sym c.if-is_same_file.true ∙ w.value-is ∙ w.if-eq.false))
    ]

pub returns-else-is_same_file : goal.returns-else-is_same_file
returns-else-is_same_file c = λ d.
    let x = c.index-entries-index.result in
    let y = c.index-entries-index-2.result in
    let us = c.args.undoers.now in
    let alike = beq (is_some (get_or us (c.args.index - 1) None)) (is_some (get_or us c.args.index None)) in
    let told = goes_on_read c.args.entries.now us c.args.index x y d c.requires.undoers c.requires.some c.requires.there c.index-entries-index.is c.index-entries-index-2.is in
    let same_author = c.eq.ensures ∙ ap (λ (a : ℕ). nat_eq a c.author-2.result) c.author.ensures ∙ ap (nat_eq x.author) c.author-2.ensures in
    elim c.if-eq.branch [
      | then-eq w ↦
          c.if-is_same_file.false
          ∙ sym (told ∙ second_fails (nat_eq x.author y.author) (is_same_file x.change y.change) alike (sym w.is_same_file.ensures ∙ sym w.value-is ∙ c.if-is_same_file.false))
      | else-eq w ↦
          c.if-is_same_file.false
          ∙ sym (told ∙ first_fails (nat_eq x.author y.author) (is_same_file x.change y.change) alike (sym same_author ∙ w.if-eq.false))
    ]
