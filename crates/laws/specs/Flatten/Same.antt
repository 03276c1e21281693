-- The flattened module is the same module: its outputs on three values, its gates, its delays and its largest load are the module's.
use Rattle.std.specs.Prelude.{ℕ, ◌+◌, ◌≡◌, refl, List, [], ◌∷◌, length}
use Rattle.meaning.specs.Syntax.{Module}
use Rattle.meaning.specs.Values.{Val}
use Rattle.meaning.specs.Boxlist.{box, assoc}
use Rattle.meaning.specs.Limits.{expanded_size}
use Rattle.meaning.specs.Verdict.{good, file_verdict}
use Rattle.meaning.specs.Evaluation.{evaluate}
use Rattle.meaning.specs.Figures.{gate_count, tally, room, delay_by}
use Rattle.meaning.specs.Loads.{largest_load}
use Rattle.meaning.specs.Flattening.{flat_module}
use Rattle.laws.specs.Adder.Nets.{length-up_from}
use Rattle.laws.specs.Flatten.Values.{evaluate-of-flat, delay-of-flat}
use Rattle.laws.specs.Flatten.Counts.{gate_count-of-flat, tally-of-flat}
use Rattle.laws.specs.Flatten.Shape.{output_count-of-flat, expanded_size-of-flat, room-of-flat}
use Rattle.laws.specs.Loads.Flat.Same.{largest_load-of-flat}

-- A module by itself is the same as the module of this number in a list.
pub record SameModule (ms : List Module) (number : ℕ) (m f : Module) : Type 0 where
  pub named : f.number ≡ number
  pub inputs : length f.inputs ≡ length m.inputs
  pub outputs : length f.outputs ≡ length m.outputs
  pub evaluates : (vs : List Val) → length vs ≡ length m.inputs → evaluate (f ∷ []) number vs ≡ evaluate ms number vs
  pub gates : gate_count (f ∷ []) number ≡ gate_count ms number
  pub tallies : tally (f ∷ []) number ≡ tally ms number
  pub size : expanded_size (f ∷ []) number ≡ gate_count ms number
  pub rooms : room (f ∷ []) number ≡ length m.inputs + gate_count ms number
  pub delays : (delay : ℕ → ℕ) → delay_by delay (f ∷ []) number ≡ delay_by delay ms number
  pub loads : largest_load (f ∷ []) number ≡ largest_load ms number

pub flat-is-same :
    (ms : List Module) (number : ℕ) (m : Module)
    → file_verdict ms ≡ good
    → assoc number ms ≡ box m
    → SameModule ms number m (flat_module ms number (length m.inputs))
unfolding flat_module
flat-is-same ms number m accepted found =
    record {
      named = refl;
      inputs = length-up_from 0 (length m.inputs);
      outputs = output_count-of-flat ms number m accepted found;
      evaluates = evaluate-of-flat ms number m accepted found;
      gates = gate_count-of-flat ms number (length m.inputs);
      tallies = tally-of-flat ms number (length m.inputs);
      size = expanded_size-of-flat ms number m accepted found;
      rooms = room-of-flat ms number m accepted found;
      delays = delay-of-flat ms number m accepted found;
      loads = largest_load-of-flat ms number m accepted found;
    }
