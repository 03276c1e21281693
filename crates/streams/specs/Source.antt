-- What reads of a source will give.
use Rattle.std.specs.Prelude.{ℕ, List, Option}
use Rattle.streams.specs.declared.Source.{Source}
use Rattle.streams.specs.declared.Source.TheVariants.{Input, File}

-- what the input has left, or what the file has, where that is known
abbrev pub source_remaining : {I F : Type 0} → (I → Option (List ℕ)) → (F → Option (List ℕ)) → Source I F → Option (List ℕ)
source_remaining of_input of_file (Input input) = of_input input
source_remaining of_input of_file (File file) = of_file file
