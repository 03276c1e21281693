use mathlib.Core.Path.{◌∙◌, ap}
use Rattle.text_words.specs.Seeking.{behind}
use borrow.Author.Rules.{rules}
use Rattle.text_words.proofs.occurrence_from.Statement.{statement}
use Rattle.text_words.proofs.occurrence_from.Tie as tie

module-from-requires : tie.Need-module_from-from-requires
module-from-requires c κs = search rules

behind-requires : tie.Need-behind-requires
behind-requires c κs = search rules

returns : tie.Need-returns
returns c =
    let asked = c.args in
    record { few = c.behind.ensures.few; is = c.behind.ensures.is ∙ ap (behind 3 2 asked.occurrence) c.module_from-from.ensures.is }

pub occurrence_from_spec : {M : Type 1} → statement M
occurrence_from_spec = tie.close (tie.spec module-from-requires behind-requires returns)
