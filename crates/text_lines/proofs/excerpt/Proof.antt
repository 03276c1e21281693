use borrow.Author.Rules.{rules}
use Rattle.text_lines.proofs.Walks.{excerpt_there}
use Rattle.text_lines.proofs.excerpt.Statement.{statement}
use Rattle.text_lines.proofs.excerpt.Tie as tie

-- src/lib.rt:127:23
line-of-requires : tie.Need-line_of-requires
line-of-requires c κs = search rules

-- src/lib.rt:127:9
choose-requires : tie.Need-choose-part-requires
choose-requires c κs = search rules

-- src/lib.rt:130:5
sub-result : tie.Need-slice_bounds-result-count
sub-result c = search rules

-- src/lib.rt:130:5
part-result-start : tie.Need-slice_bounds-result-start
part-result-start c = search rules

-- src/lib.rt:130:5
part-result-end : tie.Need-slice_bounds-result-end
part-result-end c = search rules

-- src/lib.rt:124:1
returns : tie.Need-returns
returns c = excerpt_there _ _ _ c.choose-part.result c.line_of.ensures.there c.choose-part.ensures

pub excerpt_spec : {M : Type 1} → statement M
excerpt_spec =
    tie.close
    (tie.spec
    line-of-requires
    choose-requires
    sub-result
    part-result-start
    part-result-end
    returns)
