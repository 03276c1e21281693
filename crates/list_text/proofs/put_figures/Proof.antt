-- `put_figures` meets its contract: all numbers of the line stand in one row, and the line feed behind them. Assumes nothing.
use native.Mathlib.Omega.{arith}
use borrow.Author.Rules.{rules}
use Rattle.list_text.specs.Lines.{figures_of}
use Rattle.list_text.proofs.Pieces.{put-length, put-after}
use Rattle.list_text.proofs.Lines.{row-reaches, line-of-figures}
use Rattle.list_text.proofs.put_figures.Statement.{statement}
use Rattle.list_text.proofs.put_figures.Tie as tie

end-line-requires : tie.Need-end_line-requires
end-line-requires c κs =
    let kept = put-length c.put_numbers-at.ensures in
    omega (arith, row-reaches _ _ c.put_numbers-at.ensures, c.requires)

returns : tie.Need-returns
returns c tally =
    let a = c.args in
    rw (← line-of-figures a.position a.number (figures_of a.counts tally))
    (put-after c.put_numbers-at.ensures c.end_line.ensures)

pub put_figures_spec : {M : Type 1} → statement M
put_figures_spec =
    tie.close (tie.spec (λ c. search rules) (λ c κs. search rules) end-line-requires (λ c. search rules) returns)
