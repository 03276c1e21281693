use mathlib.Core.Path.{sym, ◌∙◌}
use Rattle.text_reader.specs.Turning.{open_testable, open_refused, open_opening, open_turned}
use Rattle.text_reader.proofs.turns.turn_open.Goals as goal

pub is_full-requires : goal.is_full-requires
is_full-requires c =
    open_testable _ _ _ _ _ _ c.requires

pub returns-then-is_full : goal.returns-then-is_full
returns-then-is_full c =
    rw c.at.ensures
    (open_refused _ _ _ _ _ _ c.requires (sym c.is_full.ensures ∙ c.if-is_full.true))

pub open-marks-requires : goal.open-marks-requires
open-marks-requires c =
    open_opening _ _ _ _ _ _ c.requires (sym c.is_full.ensures ∙ c.if-is_full.false)

pub returns : goal.returns
returns c =
    open_turned _ _ _ _ _ _ c.requires (sym c.is_full.ensures ∙ c.if-is_full.false) _ _ c.open-marks.auto.numbers c.open-marks.ensures
