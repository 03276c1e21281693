-- Loads on a board of a flattening. Something placed on nets of the board adds to their loads what its inputs have inside; of the new
-- nets those of its outputs have the loads of the outputs inside; and its largest load is the least number that is below neither the
-- load of a new net nor that of an input inside.
use Rattle.std.specs.Prelude.{ℕ, ◌+◌, ◌≤◌, ◌<◌, ◌≡◌, true, cond, List, [], ◌∷◌, map, length, replicate}
use Rattle.std.proofs.Common.{sym, ap, ◌∙◌, arith}
use Rattle.std.proofs.lemmas.List.{length-replicate}
use Rattle.meaning.specs.Syntax.{Occurrence, Module}
use Rattle.meaning.specs.Gates.{is_gate}
use Rattle.meaning.specs.Members.{◌∈◌}
use Rattle.meaning.specs.Figures.{largest}
use Rattle.meaning.specs.Loads.{places_load, Loads, gate_loads, referred_loads, net_load, loads_inside, largest_load}
use Rattle.meaning.specs.Flattening.{Board, Placed, place_gate, place_referred, place}
use Rattle.laws.specs.WellFormed.{Reference, to_gate, to_module}
use Rattle.laws.specs.Standing.{Stands, stands}
use Rattle.laws.specs.Flatten.Numbered.{Between}
use Rattle.laws.specs.Flatten.Distinct.{New, gate-new}
use Rattle.laws.specs.Loads.Places.{load-nowhere, load-none, net_load-append}

abbrev pub load_on : Board → ℕ → ℕ
load_on b = net_load (loads_inside []) b.gates

-- No gate takes a net that is not driven yet.
pub record Clean (b : Board) : Type 0 where
  pub unused : (net : ℕ) → b.next ≤ net → load_on b net ≡ 0

pub record Loaded (a : Board) (nets : List ℕ) (p : Placed) (inside : Loads) (most count : ℕ) : Type 0 where
  pub new : New a p count
  pub arity : length inside.inputs ≡ length nets
  pub clean : Clean p.board
  pub old : (net : ℕ) → net < a.next → load_on p.board net ≡ load_on a net + places_load net nets inside.inputs
  pub outputs : map (load_on p.board) p.nets ≡ inside.outputs
  pub within : (net : ℕ) → Between a.next p.board.next net → load_on p.board net ≤ most
  pub least :
      (n : ℕ)
      → ((net : ℕ) → Between a.next p.board.next net → load_on p.board net ≤ n)
      → largest inside.inputs ≤ n
      → most ≤ n

-- The modules of a list are placed so.
pub record LoadedModules (ms : List Module) : Type 0 where
  pub loaded :
      (number : ℕ) {m : Module}
      → Stands number m ms
      → (nets : List ℕ) (b : Board)
      → length nets ≡ length m.inputs
      → ((x : ℕ) → x ∈ nets → x < b.next)
      → Clean b
      → Loaded b nets (place ms number nets b) (loads_inside ms number) (largest_load ms number) (length m.outputs)

-- A gate more adds 1 at each of its places.
module _ (kind : ℕ) (nets : List ℕ) (b : Board) (g : is_gate kind ≡ true) where
  load_with_gate :
      (net : ℕ) → load_on (place_gate kind nets b).board net ≡ load_on b net + places_load net nets (replicate (length nets) 1)
  unfolding net_load
  load_with_gate net = rw (net_load-append, g) (omega (arith, load-none net (b.next ∷ [])))

  module _ (below : (x : ℕ) → x ∈ nets → x < b.next) (clean : Clean b) where
    load-of-new : (net : ℕ) → b.next ≤ net → load_on (place_gate kind nets b).board net ≡ 0
    load-of-new net high =
        let ones : List ℕ = replicate (length nets) 1 in
        omega (arith, load_with_gate net, clean.unused net high, load-nowhere net nets ones (λ i. omega (arith, below net i)))

    gate-loaded :
        (o : Occurrence)
        → length nets ≡ length o.takes
        → Loaded b nets (place_gate kind nets b) (gate_loads o) 0 1
    gate-loaded o count =
        record {
          new = gate-new kind nets b;
          arity = length-replicate (length o.takes) 1 ∙ sym count;
          clean = record { unused = λ net high. load-of-new net (omega arith) };
          old = λ net low. rw (← count) (load_with_gate net);
          outputs = ap (λ (n : ℕ). n ∷ []) (load-of-new b.next (omega arith));
          within = λ net between. omega (arith, load-of-new net between.from);
          least = λ n new inputs. omega arith;
        }

-- What an occurrence refers to.
pub reference-loaded :
    {ms : List Module} {o : Occurrence} (nets : List ℕ) (b : Board)
    → LoadedModules ms
    → Reference ms o
    → length nets ≡ length o.takes
    → ((x : ℕ) → x ∈ nets → x < b.next)
    → Clean b
    → Loaded b nets
    (place_referred (place ms) o.refers nets b)
    (referred_loads (loads_inside ms) o)
    (cond (is_gate o.refers) 0 (largest_load ms o.refers))
    (length o.drives)
reference-loaded {o = o} nets b later (to_gate g takes drives) count below clean =
    rw (g, ← drives) (gate-loaded o.refers nets b g below clean o count)
reference-loaded {ms} {o} nets b later (to_module m g found takes drives) count below clean =
    rw (g, drives) (later.loaded o.refers (stands o.refers ms found) nets b (count ∙ takes) below clean)
