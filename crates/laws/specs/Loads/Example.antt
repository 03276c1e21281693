-- The request's own example: P has input A, drives O1 by B-NOT of A and O2 by B-NOT of O1, both outputs; Q drives Y and Z by P, then W
-- by B-NOT of Y. Y has load 2, since O1 also drives a gate inside P; document 01 gave it 1. Flattened, Q has the same largest load.
use Rattle.std.specs.Prelude.{◌≡◌, refl, [], ◌∷◌}
use Rattle.meaning.specs.Syntax.{Module}
use Rattle.meaning.specs.Limits.{driven}
use Rattle.meaning.specs.Evaluation.{look, look_all, pairs}
use Rattle.meaning.specs.Figures.{largest, largest_referred}
use Rattle.meaning.specs.Loads.{places_load, net_load, loads_inside, largest_load}
use Rattle.meaning.specs.Adder.{up_from}
use Rattle.meaning.specs.Counter.{NOT}
use Rattle.meaning.specs.Flattening.{place_body, place_module, place, flat_module}
use Rattle.laws.specs.Loads.Before.{net_load_before, input_loads_before}

-- A is 0, O1 is 1, O2 is 2.
abbrev P : Module
P =
    record {
      number = 17;
      inputs = 0 ∷ [];
      outputs = 1 ∷ 2 ∷ [];
      occurrences =
          record { drives = 1 ∷ []; refers = NOT; takes = 0 ∷ [] } ∷ record { drives = 2 ∷ []; refers = NOT; takes = 1 ∷ [] } ∷ [];
    }

-- Q's input is 0, Y is 1, Z is 2, W is 3.
abbrev Q : Module
Q =
    record {
      number = 16;
      inputs = 0 ∷ [];
      outputs = 2 ∷ 3 ∷ [];
      occurrences =
          record { drives = 1 ∷ 2 ∷ []; refers = 17; takes = 0 ∷ [] } ∷ record { drives = 3 ∷ []; refers = NOT; takes = 1 ∷ [] } ∷ [];
    }

pub record Rows : Type 0 where
  pub before : net_load_before (input_loads_before (P ∷ [])) Q.occurrences 1 ≡ 1
  pub load-of-Y : net_load (loads_inside (P ∷ [])) Q.occurrences 1 ≡ 2
  pub largest-of-Q : largest_load (Q ∷ P ∷ []) 16 ≡ 2
  pub largest-flattened : largest_load (flat_module (Q ∷ P ∷ []) 16 1 ∷ []) 16 ≡ 2

pub example : Rows
unfolding
    net_load_before input_loads_before net_load loads_inside largest_load largest largest_referred places_load driven flat_module place
    place_module place_body look look_all pairs up_from
example = record { before = refl; load-of-Y = refl; largest-of-Q = refl; largest-flattened = refl }
