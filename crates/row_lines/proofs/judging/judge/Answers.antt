-- The tests are those of the definition.
use Rattle.std.proofs.Common.{length, sym, ◌∙◌, eq-eqb, ne_eqb}
use Rattle.row_lines.specs.Words.{first_other, values_of}
use Rattle.row_lines.specs.Lines.{judged}
use Rattle.row_lines.proofs.judging.judge.Goals as goal

pub returns-then-other-word : goal.returns-then-other-word
unfolding judged
returns-then-other-word c =
    let w = c.args.word.now in
    let found = c.first_other-other.ensures in
    rw (ne_eqb (first_other w) (length w) (λ e. c.if-other-word.true (found ∙ e)), found)

pub returns-then-values-inputs : goal.returns-then-values-inputs
unfolding judged
returns-then-values-inputs c =
    let w = c.args.word.now in
    let belong = sym c.first_other-other.ensures ∙ c.if-other-word.false in
    rw (
      eq-eqb (first_other w) (length w) belong,
      ne_eqb (length (values_of w)) c.args.inputs (λ e. c.if-values-inputs.true (c.count_values-values.ensures ∙ e)),
      c.count_values-values.ensures,
    )

pub returns : goal.returns
unfolding judged
returns c =
    let w = c.args.word.now in
    let belong = sym c.first_other-other.ensures ∙ c.if-other-word.false in
    rw (eq-eqb (first_other w) (length w) belong, eq-eqb (length (values_of w)) c.args.inputs (sym c.count_values-values.ensures ∙ c.if-values-inputs.false))
