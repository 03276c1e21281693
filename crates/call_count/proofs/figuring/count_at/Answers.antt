-- Scratch decides between 21 and the figures.
use Rattle.call_count.proofs.Outcomes.{short-counts, answer-counts}
use Rattle.call_count.proofs.figuring.count_at.Goals as goal

pub returns-then-scratch-site : goal.returns-then-scratch-site
returns-then-scratch-site c s = short-counts s _ _ c.if-scratch-site.true

pub returns : goal.returns
returns c s = answer-counts s _ _ c.if-scratch-site.false c.figures_at.result (c.figures_at.ensures s)
