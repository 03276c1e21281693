use mathlib.Core.Path.{◌∙◌, ap}
use borrow.Author.Rules.{rules}
use Rattle.text_lines.specs.Lines.{indent_of}
use Rattle.text_lines.proofs.indent.Statement.{statement}
use Rattle.text_lines.proofs.indent.Tie as tie

-- src/lib.rt:120:12
line-of-requires : tie.Need-line_of-requires
line-of-requires c κs = search rules

-- src/lib.rt:120:5
choose-requires : tie.Need-choose-requires
choose-requires c κs = search rules

-- src/lib.rt:117:1
returns : tie.Need-returns
returns c = c.choose.ensures.indent ∙ ap indent_of c.line_of.ensures.there.left

pub indent_spec : {M : Type 1} → statement M
indent_spec = tie.close (tie.spec line-of-requires choose-requires returns)
