-- A module's numbers are its head and then its occurrences.
use Rattle.std.specs.Prelude.{◌≡◌, ◌++◌, length}
use Rattle.std.proofs.Common.{append_assoc}
use Rattle.meaning.specs.Syntax.{Module}
use Rattle.meaning.specs.Layout.{each, occurrence_numbers, module_numbers}
use Rattle.write_pieces.specs.Heads.{head_numbers}

pub numbers-of_module : (m : Module)
    → module_numbers m
    ≡ head_numbers m.number m.inputs m.outputs (length m.occurrences) ++ each occurrence_numbers m.occurrences
unfolding module_numbers head_numbers
numbers-of_module m = simp append_assoc
