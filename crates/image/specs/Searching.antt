-- What a list of modules says of a number it says of the first module that has the number, from that module and those after it.
-- Evaluation and the figures are all of this form, so what is true of every such search is proved once.
use Rattle.std.specs.Prelude.{ℕ, ◌+◌, max, ◌≡◌, true, List, ◌∷◌, map, eqb}
use Rattle.std.proofs.Math.Path.{fun_ext}
use Rattle.meaning.specs.Syntax.{Module}
use Rattle.meaning.specs.Boxlist.{box, assoc}
use Rattle.meaning.specs.Limits.{net_count, body_size, expanded_size}
use Rattle.meaning.specs.Evaluation.{Meaning, run_module, run}
use Rattle.meaning.specs.Figures.{largest, body_weight, gate_weight, largest_referred, room}
use Rattle.meaning.specs.Loads.{Loads, net_load, module_loads, loads_inside, largest_load}
use Rattle.laws.specs.Suffix.{Searches, assoc_searches, run_searches, expanded_size_searches, gate_weight_searches, room_searches}
use Rattle.laws.specs.Loads.Suffix.{loads_inside_searches, largest_load_searches}
use Rattle.image.specs.Resolved.{nets_of}
use Rattle.image.specs.Frames.{run_frame, run_frames}

pub record Search {C : Type 0} (f : List Module → ℕ → C) (own : Module → List Module → C) : Type 0 where
  pub here :
      (m : Module) (later : List Module) (number : ℕ) → eqb number m.number ≡ true → f (m ∷ later) number ≡ own m later
  pub past : Searches f

pub assoc-search : Search (λ ms number. assoc number ms) (λ m later. box m)
unfolding assoc
assoc-search = record { here = λ m later number h. rw h; past = assoc_searches }

module _ {A : Type 0} (none : A) (gate_meaning : Meaning A) where
  pub run-search : Search (run none gate_meaning) (λ m later. run_module none gate_meaning (run none gate_meaning later) m)
  unfolding run
  run-search = record { here = λ m later number h. fun_ext (λ vs. rw h); past = run_searches none gate_meaning }

  pub run_frames-search :
      Search (run_frames none gate_meaning) (λ m later. run_frame none gate_meaning (run_frames none gate_meaning later) m)
  unfolding run_frames
  run_frames-search =
      record {
        here = λ m later number h. fun_ext (λ vs. rw h);
        past = record { passes = λ m later number h. fun_ext (λ vs. rw h) };
      }

pub expanded_size-search : Search expanded_size (λ m later. body_size (expanded_size later) m.occurrences)
unfolding expanded_size
expanded_size-search = record { here = λ m later number h. rw h; past = expanded_size_searches }

pub gate_weight-search :
    (weight : ℕ → ℕ) → Search (gate_weight weight) (λ m later. body_weight weight (gate_weight weight later) m.occurrences)
unfolding gate_weight
gate_weight-search weight = record { here = λ m later number h. rw h; past = gate_weight_searches weight }

pub room-search : Search room (λ m later. net_count m + largest_referred (room later) m.occurrences)
unfolding room
room-search = record { here = λ m later number h. rw h; past = room_searches }

-- The loads of a module's inputs and outputs, and its largest load, in front of the later modules.
abbrev pub loads_of : Module → List Module → Loads
loads_of m later = module_loads (loads_inside later) m

pub loads_inside-search : Search loads_inside loads_of
unfolding loads_inside
loads_inside-search = record { here = λ m later number h. rw h; past = loads_inside_searches }

abbrev pub largest_load_of : Module → List Module → ℕ
largest_load_of m later =
    max (largest (map (net_load (loads_inside later) m.occurrences) (nets_of m)))
    (largest_referred (largest_load later) m.occurrences)

pub largest_load-search : Search largest_load largest_load_of
unfolding largest_load nets_of
largest_load-search = record { here = λ m later number h. rw h; past = largest_load_searches }
