use mathlib.Core.Path.{◌∙◌, ap}
use Rattle.text_words.specs.Seeking.{as_written, atom_from}
use borrow.Author.Rules.{rules}
use Rattle.text_words.proofs.module_name.Statement.{statement}
use Rattle.text_words.proofs.module_name.Tie as tie

module-from-requires : tie.Need-module_from-from-requires
module-from-requires c κs = search rules

atom-at-requires : tie.Need-atom_at-requires
atom-at-requires c κs = search rules

returns : tie.Need-returns
returns c = c.atom_at.ensures ∙ ap (λ rest. as_written (atom_from 0 rest)) c.module_from-from.ensures.is

pub module_name_spec : {M : Type 1} → statement M
module_name_spec = tie.close (tie.spec module-from-requires atom-at-requires returns)
