-- Evaluation, the figures and flattening of a module rest on what is said of the numbers that it refers to, and on nothing else of the
-- modules behind it.
use Rattle.std.specs.Prelude.{ℕ, suc, ◌+◌, max, ◌≡◌, refl, List, ◌++◌, map, length, replicate}
use Rattle.std.proofs.Common.{ap, ap₂}
use Rattle.std.proofs.Math.Path.{fun_ext}
use Rattle.meaning.specs.Syntax.{Occurrence, Module}
use Rattle.meaning.specs.Boxlist.{box, assoc}
use Rattle.meaning.specs.Limits.{driven, net_count, body_size, expanded_size}
use Rattle.meaning.specs.Evaluation.{Meaning, look_all, run_module, run}
use Rattle.meaning.specs.Figures.{largest, body_weight, gate_weight, largest_referred, room}
use Rattle.meaning.specs.Loads.{places_load, Loads, gate_loads, net_load, module_loads, loads_inside, largest_in, largest_load}
use Rattle.meaning.specs.Flattening.{Board, Placed, Placing, Walked, place_gate, place_referred, place_body, place_module, place}
use Rattle.laws.specs.References.{Refer, nothing, also, Agree, run_module-agree}
use Rattle.laws.specs.Suffix.{run_searches, assoc_searches, expanded_size_searches, gate_weight_searches, room_searches}
use Rattle.laws.specs.Suffix.{place_searches}
use Rattle.laws.specs.Loads.Suffix.{loads_inside_searches, largest_load_searches}
use Rattle.laws.specs.Behind.{Alike, Refers, through-gate}

pub assoc-refers : Refers (λ ms number. assoc number ms) (λ later m. box m)
unfolding assoc
assoc-refers = record { here = λ m ms number h. rw h; past = assoc_searches; alike = λ m same. refl }

module _ {A : Type 0} (unset : A) (gate_meaning : Meaning A) where
  agrees : {l l' : Meaning A} {os : List Occurrence} → Refer (Alike l l') os → Refer (Agree gate_meaning l l') os
  agrees nothing = nothing
  agrees {l} {l'} (also {o} same rest) =
      also
      (record { agree = λ vs. through-gate (gate_meaning o.refers vs) (λ (f : List A → List A). f vs) same })
      (agrees rest)

  pub run-refers : Refers (run unset gate_meaning) (λ later m vs. run_module unset gate_meaning later m vs)
  unfolding run
  run-refers =
      record {
        here = λ m ms number h. fun_ext (λ vs. rw h);
        past = run_searches unset gate_meaning;
        alike = λ m same. fun_ext (λ vs. run_module-agree unset m (agrees same) vs);
      }

-- Sums and largest over references.
size-alike : {l l' : ℕ → ℕ} {os : List Occurrence} → Refer (Alike l l') os → body_size l os ≡ body_size l' os
unfolding body_size
size-alike nothing = refl
size-alike (also same rest) = ap₂ (λ (a b : ℕ). suc a + b) (through-gate 0 (λ (n : ℕ). n) same) (size-alike rest)

weight_alike : (weight : ℕ → ℕ) {l l' : ℕ → ℕ} {os : List Occurrence} → Refer (Alike l l') os → body_weight weight l os ≡ body_weight weight l' os
unfolding body_weight
weight_alike weight nothing = refl
weight_alike weight (also {o} same rest) =
    ap₂ (λ (a b : ℕ). a + b) (through-gate (weight o.refers) (λ (n : ℕ). n) same) (weight_alike weight rest)

largest-alike : {l l' : ℕ → ℕ} {os : List Occurrence} → Refer (Alike l l') os → largest_referred l os ≡ largest_referred l' os
unfolding largest_referred
largest-alike nothing = refl
largest-alike (also same rest) = ap₂ (λ (a b : ℕ). max a b) (through-gate 0 (λ (n : ℕ). n) same) (largest-alike rest)

pub expanded_size-refers : Refers expanded_size (λ later m. body_size later m.occurrences)
unfolding expanded_size
expanded_size-refers = record { here = λ m ms number h. rw h; past = expanded_size_searches; alike = λ m same. size-alike same }

pub gate_weight-refers : (weight : ℕ → ℕ) → Refers (gate_weight weight) (λ later m. body_weight weight later m.occurrences)
unfolding gate_weight
gate_weight-refers weight =
    record { here = λ m ms number h. rw h; past = gate_weight_searches weight; alike = λ m same. weight_alike weight same }

pub room-refers : Refers room (λ later m. net_count m + largest_referred later m.occurrences)
unfolding room
room-refers =
    record {
      here = λ m ms number h. rw h;
      past = room_searches;
      alike = λ m same. ap (λ (n : ℕ). net_count m + n) (largest-alike same);
    }

-- Loads, of inputs and outputs and the largest.
load-alike : {l l' : ℕ → Loads} {os : List Occurrence} → Refer (Alike l l') os → (net : ℕ) → net_load l os net ≡ net_load l' os net
unfolding net_load
load-alike nothing net = refl
load-alike (also {o} same rest) net =
    ap₂ (λ (loads : Loads) (n : ℕ). places_load net o.takes loads.inputs + places_load net o.drives loads.outputs + n)
    (through-gate (gate_loads o) (λ (loads : Loads). loads) same)
    (load-alike rest net)

loads-alike :
    {l l' : ℕ → Loads} {os : List Occurrence} → Refer (Alike l l') os → (nets : List ℕ) → map (net_load l os) nets ≡ map (net_load l' os) nets
loads-alike same nets = ap (λ (load : ℕ → ℕ). map load nets) (fun_ext (load-alike same))

both-loads : {a a' b b' : List ℕ} → a ≡ a' → b ≡ b' → ◌≡◌ {A = Loads} (record { inputs = a; outputs = b }) (record { inputs = a'; outputs = b' })
both-loads e h = cc

module_alike : {l l' : ℕ → Loads} (m : Module) → Refer (Alike l l') m.occurrences → module_loads l m ≡ module_loads l' m
module_alike m same =
    both-loads (loads-alike same m.inputs) (loads-alike same m.outputs)

-- The largest load goes with the loads inside.
pub record Weights : Type 0 where
  pub inside : Loads
  pub most : ℕ

abbrev pub weights : List Module → ℕ → Weights
weights ms number = record { inside = loads_inside ms number; most = largest_load ms number }

abbrev weights_of : (ℕ → Weights) → Module → Weights
weights_of later m =
    record { inside = module_loads (λ x. (later x).inside) m; most = largest_in (λ x. (later x).inside) (λ x. (later x).most) m }

alike-by : {C D : Type 0} (g : C → D) {l l' : ℕ → C} {os : List Occurrence} → Refer (Alike l l') os → Refer (Alike (λ x. g (l x)) (λ x. g (l' x))) os
alike-by g nothing = nothing
alike-by g (also same rest) = also (record { same = λ e. ap g (same.same e) }) (alike-by g rest)

both-weights : {a a' : Loads} {b b' : ℕ} → a ≡ a' → b ≡ b' → ◌≡◌ {A = Weights} (record { inside = a; most = b }) (record { inside = a'; most = b' })
both-weights e h = cc

pub weights-refers : Refers weights weights_of
unfolding loads_inside largest_load
weights-refers =
    record {
      here = λ m ms number h. rw h;
      past =
          record {
            passes = λ m ms number h.
                both-weights (loads_inside_searches.passes m ms number h) (largest_load_searches.passes m ms number h);
          };
      alike = λ m same.
          let inside = alike-by (λ (w : Weights). w.inside) same in
          let most = alike-by (λ (w : Weights). w.most) same in
          both-weights (module_alike m inside)
          (ap₂ (λ (a b : ℕ). max a b) (ap largest (loads-alike inside (m.inputs ++ driven m.occurrences))) (largest-alike most));
    }

-- Flattening.
body-placed : {l l' : Placing} {os : List Occurrence} → Refer (Alike l l') os → (w : Walked) → place_body l os w ≡ place_body l' os w
unfolding place_body
body-placed nothing w = refl
body-placed {l} {l'} (also {o} same rest) w =
    let nets = look_all 0 o.takes w.env in
    let placed : place_referred l o.refers nets w.board ≡ place_referred l' o.refers nets w.board
    = through-gate (place_gate o.refers nets w.board) (λ (f : List ℕ → Board → Placed). f nets w.board) same in
    rw placed (body-placed rest _)

pub place-refers : Refers place place_module
unfolding place place_module
place-refers =
    record {
      here = λ m ms number h. fun_ext (λ nets. fun_ext (λ board. rw h));
      past = place_searches;
      alike = λ m same. fun_ext (λ nets. fun_ext (λ board. rw (body-placed same _)));
    }
