use borrow.Author.Rules.{rules}
use mathlib.Core.Path.{refl}
use Rattle.meaning.specs.ListNumbers.{spelling}
use Rattle.text_reader.specs.Gating.{gate_bytes}
use Rattle.text_reader.proofs.gates.enter.Goals as goal

pub enter_all-requires : goal.enter_all-requires
unfolding gate_bytes spelling
enter_all-requires c = record { names_value = refl; blank = search rules }
