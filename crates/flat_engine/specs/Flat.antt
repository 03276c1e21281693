-- What flattening a module of a checked file asks and answers: the bytes of the flattened file at the front of a list, its gates first.
use Rattle.std.specs.Prelude.{ℕ, ◌+◌, ◌≤◌, ◌≡◌, List, ◌++◌, length}
use Rattle.meaning.specs.Syntax.{Module}
use Rattle.meaning.specs.Boxlist.{box, assoc}
use Rattle.meaning.specs.Layout.{each}
use Rattle.meaning.specs.Limits.{most_module_nets}
use Rattle.meaning.specs.Ceilings.{Within}
use Rattle.meaning.specs.Verdict.{good, file_verdict}
use Rattle.meaning.specs.Figures.{gate_count, room}
use Rattle.meaning.specs.Flattening.{flat_module}
use Rattle.meaning.specs.Calls.{flat_file}
use Rattle.laws.specs.Written.{occurrence_bytes}
use Rattle.bytes_out.specs.Filled.{Filled}
use Rattle.image.specs.Resolved.{position_of, resolve}
use Rattle.image.specs.Imaged.{Imaged}
use Rattle.flat_bytes.specs.Front.{front_bytes}
use Rattle.flat_engine.specs.declared.Ends.{Ends}

-- The gates of the flattened file, and what stands in front of them.
abbrev pub gates_of : Module → List ℕ
gates_of flat = each occurrence_bytes flat.occurrences

abbrev pub front_of : Module → List ℕ
front_of flat = front_bytes flat.number flat.inputs flat.outputs (length flat.occurrences)

-- An accepted file stands in the image, and its module of a number at position k. Inputs and gates have numbers; as many entries of
-- scratch are given as the module's room at least; and the bytes have places.
pub record Flattenable (image starts nets : List ℕ) (k number : ℕ) (scratch bytes : List ℕ) : Type 0 where
  pub ms : List Module
  pub m : Module
  pub accepted : file_verdict ms ≡ good
  pub within : Within ms
  pub imaged : Imaged image starts nets (resolve ms)
  pub found : assoc number ms ≡ box m
  pub position : k ≡ position_of number ms
  pub few : length m.inputs + gate_count ms number ≤ most_module_nets
  pub wide : room ms number ≤ length scratch
  pub long : length (flat_file ms number m) ≤ length bytes

abbrev pub flat_of : List Module → (number : ℕ) → Module → Module
flat_of ms number m = flat_module ms number (length m.inputs)

pub record Flattened (ms : List Module) (number : ℕ) (m : Module) (before after : List ℕ) (r : Ends) : Type 0 where
  pub gates : r.gates ≡ length (gates_of (flat_of ms number m))
  pub filled : Filled (gates_of (flat_of ms number m) ++ front_of (flat_of ms number m)) before after r.whole
